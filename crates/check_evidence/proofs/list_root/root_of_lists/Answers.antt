use Rattle.std.proofs.Common.{◌≡◌, List, ℕ, ◌∷◌, length, sym}
use Rattle.std.specs.Prelude.{All}
use Rattle.std.proofs.lemmas.List.Elements.{All-head, All-tail, All-same}
use Rattle.digests.specs.Algorithms.{length_of}
use Rattle.digests.specs.Digests.{octets_of}
use Rattle.check_evidence.specs.Roots.{IsAscending}
use Rattle.check_evidence.proofs.Climbing.{from_first, from_next}
use Rattle.check_evidence.proofs.list_root.root_of_lists.Goals as goal

pub first_node-requires-clause-lengths : goal.first_node-requires-clause-lengths
first_node-requires-clause-lengths c =
    let P : List (List ℕ) → Type 0 = All (λ v. length v ≡ length_of c.args.alg) in
    All-head P c.in-Some.first c.in-Some.left
    (All-same P (c.in-Some.first ∷ c.in-Some.left) c.args.lists.now (sym c.in-Some.ensures) c.requires.lengths)

pub returns-in_err-node-clause-memory : goal.returns-in_err-node-clause-memory
returns-in_err-node-clause-memory c = λ h.
    let up : IsAscending c.in-Some.first = All-head IsAscending c.in-Some.first c.in-Some.left
    (All-same IsAscending (c.in-Some.first ∷ c.in-Some.left) c.args.lists.now (sym c.in-Some.ensures) h) in
    let never = c.in_err-node.ensures.memory up in
    absurd (let z = never in cc)

pub loop-values-init : goal.loop-values-init
loop-values-init c = record {
  algorithm = c.in_ok-node.ensures.algorithm;
  root = λ root h covered. from_first c.args.alg c.args.lists.now c.in-Some.first c.in-Some.left
      (octets_of c.in_ok-node.node) c.in-Some.ensures c.in_ok-node.ensures.node root h covered;
  ascending = λ h. All-tail IsAscending c.in-Some.first c.in-Some.left
      (All-same IsAscending (c.in-Some.first ∷ c.in-Some.left) c.args.lists.now (sym c.in-Some.ensures) h);
}

pub loop-values-preserved : goal.loop-values-preserved
loop-values-preserved c =
    let h = c.loop-values.invariant in
    let next = c.in-Some-next in
    record {
      algorithm = c.in_ok-node-2.ensures.algorithm;
      root = λ root k covered. h.root root
          (from_next c.args.alg c.loop-values.left next.values next.others (octets_of c.loop-values.node)
          (octets_of c.in_ok-node-2.node) root next.ensures c.in_ok-node-2.ensures.node k) covered;
      ascending = λ k. All-tail IsAscending next.values next.others
          (All-same IsAscending (next.values ∷ next.others) c.loop-values.left (sym next.ensures) (h.ascending k));
    }

use Rattle.std.proofs.Common.{◌≡◌, ℕ, List, length, map, sym, ap, ◌∙◌, All, subst, Bor, IsPermutation}
use Rattle.std.proofs.lemmas.List.Sorted.{All-permutation, IsPermutation-map}
use Rattle.digests.specs.Algorithms.{length_of}
use Rattle.digests.specs.Digests.{alg_of, octets_of}
use Rattle.digests.specs.declared.value.Digest.{Digest}
use Rattle.evidence_trees.specs.Distinct.{once}
use Rattle.evidence_trees.specs.HashTrees.{AreLeavesOf}
use Rattle.evidence_trees.specs.Pieces.{Sized}
use Rattle.evidence_trees.proofs.Pieces.{pieces-sized}
use Rattle.evidence_trees.proofs.Once.{once_are_leaves, leaves_permuted, map-map, All-unmap}
use Rattle.evidence_trees.proofs.leaves.leaves_of.Goals as goal

pub push_once-requires-clause-size : goal.push_once-requires-clause-size
push_once-requires-clause-size c =
    let size = c.in_ok-leaves.leaves.size in
    let sorted = c.in_ok-sorted.sorted.items in
    let is : length_of c.args.alg ≡ size =
    sym (ap (λ (s : Sized). s.size) c.in_ok-leaves.ensures ∙ c.length.ensures) in
    let all : All (λ d. alg_of d ≡ c.args.alg) (map (λ d. d.now) sorted) = All-permutation (λ d. alg_of d ≡ c.args.alg)
    c.args.digests.now (map (λ d. d.now) sorted) c.in_ok-sorted.ensures.permutation c.requires in
    subst (λ (ds : List (Bor Digest)). All (λ d. length_of (alg_of d.now) ≡ size) ds) (sym c.deref.ensures.value)
    (λ k d lt. ap length_of (All-unmap (λ d. alg_of d ≡ c.args.alg) (λ d. d.now) sorted all k d lt) ∙ is)

pub returns-clause-leaves : goal.returns-clause-leaves
returns-clause-leaves c =
    let sorted = c.in_ok-sorted.sorted.items in
    let digests = c.args.digests.now in
    let same : c.push_once.new.leaves.values ≡ once (map (λ d. octets_of d.now) sorted) =
    c.in_ok-push_once.ensures.once
    ∙ ap (λ (ds : List (Bor Digest)). once (map (λ d. octets_of d.now) ds)) c.deref.ensures.value in
    let turned = subst (λ (vs : List (List ℕ)). IsPermutation (map octets_of digests) vs)
    (map-map octets_of (λ d. d.now) sorted)
    (IsPermutation-map octets_of digests (map (λ d. d.now) sorted) c.in_ok-sorted.ensures.permutation) in
    subst (λ (vs : List (List ℕ)). AreLeavesOf (map octets_of digests) vs) (sym same)
    (leaves_permuted (map octets_of digests) (map (λ d. octets_of d.now) sorted)
    (once (map (λ d. octets_of d.now) sorted)) turned
    (once_are_leaves (map (λ d. octets_of d.now) sorted) c.in_ok-sorted.ensures.ascending))

pub returns-clause-lengths : goal.returns-clause-lengths
returns-clause-lengths c =
    let i = c.leaves.inside in
    let size : i.size ≡ length_of c.args.alg = ap (λ (s : Sized). s.size) c.leaves.view_is
    ∙ (c.in_ok-push_once.ensures.size ∙ (ap (λ (s : Sized). s.size) c.in_ok-leaves.ensures ∙ c.length.ensures)) in
    subst (λ (vs : List (List ℕ)). All (λ w. length w ≡ length_of c.args.alg) vs)
    (ap (λ (s : Sized). s.values) c.leaves.view_is)
    (λ k d lt. pieces-sized i.count i.size i.octets.items c.leaves.invariant.whole k d lt ∙ size)

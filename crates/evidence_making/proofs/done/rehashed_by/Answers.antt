use Rattle.std.proofs.Common.{◌≡◌, List, All, map, sym, subst, inr, rules}
use Rattle.digests.specs.Digests.{alg_of, octets_of}
use Rattle.digests.specs.declared.value.Digest.{Digest}
use Rattle.evidence_trees.specs.Groups.{IsGroup}
use Rattle.evidence_making.specs.Done.{IsRehashedBy}
use Rattle.evidence_making.proofs.ForEach.{for_each, lead_at, leaves_by_all, not_all, not_first}
use Rattle.evidence_making.proofs.done.rehashed_by.Goals as goal

pub returns-in_default-2-clause-rehashed : goal.returns-in_default-2-clause-rehashed
returns-in_default-2-clause-rehashed c = not_first c.args.octets.now c.args.token.now c.args.alg c.args.digests.now
    c.in-Some.others.now c.in-Some.digest.now c.in-Some.ensures.cases.0
    (rw c.in_default-2.is at c.in_ok-first.ensures.rehashed)

pub returns-in_err-leaves-clause-memory : goal.returns-in_err-leaves-clause-memory
returns-in_err-leaves-clause-memory c = λ e. inr (
  c.in-Some.digest.now,
  c.in-Some-2.first,
  c.in-Some-2.after,
  rw c.in-Some-2.is at c.in_ok-first.ensures.rehashed,
)

pub returns-in_default-3-clause-rehashed : goal.returns-in_default-3-clause-rehashed
returns-in_default-3-clause-rehashed c = not_all c.args.octets.now c.args.token.now c.args.alg c.args.digests.now
    c.in-Some.others.now c.in-Some.digest.now c.in-Some.ensures.cases.0
    (rw c.in_default-3.is at c.in_ok-leaves.ensures)

pub of-requires-clause-algorithm : goal.of-requires-clause-algorithm
of-requires-clause-algorithm c =
    let t = rw c.in-Some-3.is at c.in_ok-leaves.ensures in
    subst (λ (l : List Digest). All (λ d. alg_of d ≡ c.args.alg) l) (sym c.as_slice.ensures.value)
    (leaves_by_all c.args.octets.now c.args.token.now c.args.alg c.in-Some-2.after c.args.digests.now
    c.in-Some-3.leaves.items
    (for_each c.args.octets.now c.args.token.now c.args.alg c.in-Some.digest.now c.in-Some-2.first c.in-Some-2.after
    (rw c.in-Some-2.is at c.in_ok-first.ensures.rehashed) c.args.digests.now c.in-Some.others.now t.0
    c.in-Some-3.leaves.items c.in-Some.ensures.cases.0 t.1 c.requires.algorithm t.2))

pub returns-in_err-group-clause-memory : goal.returns-in_err-group-clause-memory
returns-in_err-group-clause-memory c = λ e. inr (
  c.in-Some.digest.now,
  c.in-Some-2.first,
  c.in-Some-2.after,
  rw c.in-Some-2.is at c.in_ok-first.ensures.rehashed,
)

pub returns-clause-rehashed : goal.returns-clause-rehashed
returns-clause-rehashed c =
    let octets = c.args.octets.now in
    let token = c.args.token.now in
    let t = rw c.in-Some-3.is at c.in_ok-leaves.ensures in
    let lead : IsRehashedBy octets token c.args.alg c.args.digests.now c.in_ok-group.group c.in-Some-2.after = record {
      leaves = c.in-Some-3.leaves.items;
      each = for_each octets token c.args.alg c.in-Some.digest.now c.in-Some-2.first c.in-Some-2.after
          (rw c.in-Some-2.is at c.in_ok-first.ensures.rehashed) c.args.digests.now c.in-Some.others.now t.0
          c.in-Some-3.leaves.items c.in-Some.ensures.cases.0 t.1 c.requires.algorithm t.2;
      is_group = subst (λ (l : List Digest). IsGroup c.args.alg (map octets_of l) c.in_ok-group.group)
          c.as_slice.ensures.value c.in_ok-group.ensures;
    } in
    lead_at octets token c.args.alg c.args.digests.now c.in_ok-group.group c.in-Some-2.after _ (search rules) lead

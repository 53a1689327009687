use Rattle.std.proofs.Common.{◌≡◌, ◌<◌, false, true, Err, List, All, Result, length, map, sym, ap, ◌∙◌, subst}
use Rattle.std.proofs.lemmas.Result.{err_from_is_err_and}
use Rattle.digests.specs.Digests.{alg_of, octets_of}
use Rattle.digests.specs.declared.value.Digest.{Digest}
use Rattle.evidence_types.specs.EvidenceValue.{chains_parts}
use Rattle.evidence_trees.specs.Groups.{IsGroup}
use Rattle.evidence_making.specs.declared.fault.LeafFault.{LeafFault}
use Rattle.evidence_making.specs.declared.leaves.NewLeaf.{NewLeaf}
use Rattle.evidence_making.specs.LeafSteps.{IsNewLeaf, IsNewLeafOf}
use Rattle.evidence_making.proofs.Groups.{have_all, is_new_leaf, leave_others, leaves_by, zip_some}
use Rattle.evidence_making.proofs.StandsOn.{end_without_time}
use Rattle.evidence_making.proofs.leaves.new_leaf_of.Goals as goal

pub returns-in_default : goal.returns-in_default
returns-in_default c = end_without_time c.args.chains.now c.ends_of-ends.result.first c.ends_of-ends.result.last
    c.ends_of-ends.ensures c.in_default.ensures

pub returns-then-not-are_all : goal.returns-then-not-are_all
returns-then-not-are_all c = leave_others c.args.chains.now c.ends_of-ends.result.first c.ends_of-ends.result.last
    c.ends_of-ends.ensures c.args.alone (length c.args.digests.now) c.in-Some.after c.in-Some.ensures
    (λ all. absurd (let z : false ≡ true = sym c.if-not-are_all.true ∙ c.are_all.ensures.1 all in cc))

pub returns-in_err-leaves : goal.returns-in_err-leaves
returns-in_err-leaves c =
    let r = err_from_is_err_and c.from_residual.result c.from_residual.ensures.1 in
    subst (λ (x : Result NewLeaf LeafFault). IsNewLeaf c.args.alone c.args.chains.now c.args.alg c.args.digests.now x)
    (sym (r.1 ∙ ap Err r.2))
    (have_all c.args.chains.now c.ends_of-ends.result.first c.ends_of-ends.result.last c.ends_of-ends.ensures
    c.args.alone (length c.args.digests.now) c.in-Some.after c.in-Some.ensures
    (c.are_all.ensures.0 c.if-not-are_all.false))

pub of-requires-clause-some : goal.of-requires-clause-some
of-requires-clause-some c = subst (λ (l : List Digest). 0 < length l) (sym c.as_slice.ensures.value)
    (zip_some (IsNewLeafOf c.args.alg (chains_parts c.args.chains.now)) c.args.digests.now c.in_ok-leaves.leaves.items
    c.in_ok-leaves.ensures c.requires.named)

pub of-requires-clause-algorithm : goal.of-requires-clause-algorithm
of-requires-clause-algorithm c =
    subst (λ (l : List Digest). All (λ d. alg_of d ≡ c.args.alg) l) (sym c.as_slice.ensures.value)
    (leaves_by c.args.alg (chains_parts c.args.chains.now) c.args.digests.now c.in_ok-leaves.leaves.items
    c.in_ok-leaves.ensures)

pub returns : goal.returns
returns c = is_new_leaf c.args.chains.now c.ends_of-ends.result.first c.ends_of-ends.result.last c.ends_of-ends.ensures
    c.args.alone c.args.alg c.args.digests.now c.in_ok-leaves.leaves.items c.in_ok-group.group c.in-Some.after
    c.in-Some.ensures (c.are_all.ensures.0 c.if-not-are_all.false) c.requires.algorithm c.in_ok-leaves.ensures
    (subst (λ (l : List Digest). IsGroup c.args.alg (map octets_of l) c.in_ok-group.group) c.as_slice.ensures.value
    c.in_ok-group.ensures)

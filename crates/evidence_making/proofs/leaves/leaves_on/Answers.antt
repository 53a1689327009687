use Rattle.std.proofs.Common.{◌∷◌, [], ◌++◌, List, sym, ap, ◌∙◌, subst, append_assoc}
use Rattle.std.specs.List.{AllZip}
use Rattle.digests.specs.declared.value.Digest.{Digest}
use Rattle.evidence_types.specs.EvidenceValue.{chains_parts}
use Rattle.evidence_making.specs.LeafSteps.{IsNewLeafOf}
use Rattle.evidence_making.proofs.Groups.{zip_push, new_leaf_by}
use Rattle.evidence_making.proofs.leaves.leaves_on.Goals as goal

pub loop-digest-preserved : goal.loop-digest-preserved
loop-digest-preserved c =
    let i = c.loop-digest.invariant in
    let before = chains_parts c.args.chains.now in
    let leaf = c.covered_later.result in
    let is : IsNewLeafOf c.args.alg before c.in-Some.digest.now leaf =
    new_leaf_by c.args.alg before c.bytes.result.now c.in-Some.digest.now leaf c.digest_of_chains-sequence.result
    c.bytes.ensures.joined c.digest_of_chains-sequence.ensures.octets c.covered_later.ensures.algorithm
    c.covered_later.ensures.octets in (
      i.0 ++ c.in-Some.digest.now ∷ [],
      i.1 ∙ ap (λ (l : List Digest). i.0 ++ l) c.in-Some.ensures.cases.0
          ∙ sym (append_assoc i.0 (c.in-Some.digest.now ∷ []) c.in-Some.others.now),
      subst (λ (l : List Digest). AllZip (IsNewLeafOf c.args.alg before) (i.0 ++ c.in-Some.digest.now ∷ []) l)
          (sym c.in_ok-push.ensures.items)
          (zip_push (IsNewLeafOf c.args.alg before) i.0 c.loop-digest.leaves.items c.in-Some.digest.now leaf i.2 is),
    )

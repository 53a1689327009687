use Rattle.std.proofs.Common.{◌∷◌, [], ◌++◌, List, sym, ap, ◌∙◌, append_assoc}
use Rattle.digests.specs.declared.value.Digest.{Digest}
use Rattle.evidence_making.specs.DoneSteps.{IsForIt}
use Rattle.evidence_making.proofs.Groups.{zip_push}
use Rattle.evidence_making.proofs.done.leaves_of.Goals as goal

pub loop-digest-preserved : goal.loop-digest-preserved
loop-digest-preserved c =
    let i = c.loop-digest.invariant in
    let d = c.in-Some.digest.now in
    let leaf = c.in-Some-2.leaf in
    let found : IsForIt c.args.octets.now c.args.token.now d leaf =
    (c.in-Some-2.field-0-1, rw c.in-Some-2.is at c.in_ok-leaf.ensures.rehashed) in (
      i.0 ++ d ∷ [],
      i.1 ++ leaf ∷ [],
      i.2 ∙ ap (λ (l : List Digest). i.0 ++ l) c.in-Some.ensures.cases.0
          ∙ sym (append_assoc i.0 (d ∷ []) c.in-Some.behind.now),
      c.in_ok-push-2.ensures.items ∙ ap (λ (l : List Digest). l ++ leaf ∷ []) i.3,
      zip_push (IsForIt c.args.octets.now c.args.token.now) i.0 i.1 d leaf i.4 found,
    )

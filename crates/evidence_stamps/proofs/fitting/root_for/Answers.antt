use Rattle.std.proofs.Common.{◌≡◌, true, false, Option, rules, subst}
use Rattle.std.specs.Prelude.{IsSome}
use Rattle.std.specs.Option.{option_copied}
use Rattle.digests.specs.declared.value.Digest.{Digest}
use Rattle.check_evidence.specs.Standing.{HasLengths}
use Rattle.evidence_stamps.proofs.Fitted.{some_due}
use Rattle.evidence_stamps.proofs.fitting.root_for.Goals as goal

pub returns-in-Ok-None-clause-root : goal.returns-in-Ok-None-clause-root
returns-in-Ok-None-clause-root c =
    let lengths : HasLengths (option_copied c.args.lists) c.args.alg = search rules in (
      lengths,
      λ due are h.
          let some : false ≡ true = subst (λ (o : Option Digest). IsSome o) c.in-Ok-None.field-0-is
          (c.in-Ok-None.ensures.some due are h (some_due c.args.alg c.args.covered.now due c.requires.some are)) in
          absurd (not_both some),
    )
  where
    not_both : false ≡ true → ⊥
    not_both e = cc

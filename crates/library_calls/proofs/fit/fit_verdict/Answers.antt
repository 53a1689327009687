use Rattle.std.proofs.Common.{List, ℕ, Option, subst}
use Rattle.check_fit.specs.declared.policy.Policy.{Policy}
use Rattle.check_fit.specs.FileFitting.{FitsSigned}
use Rattle.library_calls.specs.Checked.{handed}
use Rattle.library_calls.specs.Fit.{FitsHanded}
use Rattle.library_calls.proofs.InMemory.{judges_handed, never_raised}
use Rattle.library_calls.proofs.fit.fit_verdict.Goals as goal

pub returns : goal.returns
returns c = subst
    (λ (policy : Policy).
    FitsHanded policy c.args.input.file.now (handed c.args.input.given c.args.input.content.now) c.fits.result)
    c.with_sha1.ensures (subst
    (λ (left : Option (List ℕ)). FitsHanded c.with_sha1.result c.args.input.file.now left c.fits.result)
    c.source_of-source.ensures.rest
    (judges_handed _ (FitsSigned c.with_sha1.result) (λ s s' e. never_raised e) c.args.input.file.now
    c.fits.ensures.0 c.source_of-source.result _ c.fits.result c.fits.ensures.1 c.source_of-source.ensures.tells
    c.fits.ensures.2))

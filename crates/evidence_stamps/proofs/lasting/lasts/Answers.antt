use Rattle.std.proofs.Common.{◌≡◌, ◌∙◌, Some, sym}
use Rattle.der_core.specs.Lists.{only}
use Rattle.check_evidence.specs.Standing.{Lasts}
use Rattle.evidence_stamps.specs.MayLast.{TokenLasts}
use Rattle.evidence_stamps.proofs.Entries.{attributes_of, is_asked, token_lasts, signer_lasts, answers_both}
use Rattle.evidence_stamps.proofs.lasting.lasts.Goals as goal

pub returns-in-Some-clause-lasts : goal.returns-in-Some-clause-lasts
returns-in-Some-clause-lasts g c = λ h trust vouches.
    let signed = c.args.state.now.signed in
    let s = c.in-Some.signer in
    let one : Some s ≡ only signed.signers = sym c.in-Some.is ∙ c.signer.ensures in
    answers_both c.lasts_by.result (Lasts h s (attributes_of s) c.args.moment c.args.until)
    (TokenLasts h signed c.args.moment c.args.until) (token_lasts signed s one h c.args.moment c.args.until)
    (signer_lasts signed s one h c.args.moment c.args.until) (c.lasts_by.ensures.lasts h trust vouches)

pub returns-in-Some-clause-only : goal.returns-in-Some-clause-only
returns-in-Some-clause-only g c = λ test asks.
    let signed = c.args.state.now.signed in
    let s = c.in-Some.signer in
    let one : Some s ≡ only signed.signers = sym c.in-Some.is ∙ c.signer.ensures in
    c.lasts_by.ensures.only test
    (λ e among may. asks _ (is_asked signed s one c.args.trust.now c.args.moment c.args.until e among may))

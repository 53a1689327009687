use Rattle.std.proofs.Common.{true, [], refl, sym, subst}
use Rattle.cert_types.specs.CertificateValue.{CertificateValue}
use Rattle.cert_types.specs.Purposes.{IsStampingOnly}
use Rattle.check_verdict.specs.Passing.{Terms}
use Rattle.check_verdict.specs.Stages.{passed_for_token}
use Rattle.check_verdict.proofs.Tokens.{past_purpose}
use Rattle.check_verdict.proofs.token_stages.token_stage.Goals as goal
use Rattle.check_fit.specs.Fitting.{with_sha1}

pub keep-requires-clause-known : goal.keep-requires-clause-known
keep-requires-clause-known g c =
    let t : Terms =
    record { policy = with_sha1 true; trust = []; vouches = g.V.Verifier.vouches c.args.verifier.now } in
    subst (λ (x : CertificateValue). IsStampingOnly x) (sym c.certificate-certificate.ensures)
    (past_purpose t c.args.claim.now c.args.entry.now
    (passed_for_token c.in_ok-failed.failed) (c.is_for_stamping.ensures c.if-is_for_stamping.true)
    (c.in_ok-failed.ensures.stage t refl))

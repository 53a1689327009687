use Rattle.std.proofs.Common.{rules, ◌≡◌, Err, ◌∙◌, List, subst, sym}
use Rattle.cms_types.specs.SignerValue.{SignerValue}
use Rattle.check_fit.specs.FileFitting.{facts_of, HasDigests, FitsSigned}
use Rattle.check_fit.proofs.FileLaw.{judged_open, refused_open, of_signed}
use Rattle.check_fit.proofs.whole_file.fits.Goals as goal

pub returns-in_err-signed : goal.returns-in_err-signed
returns-in_err-signed g c =
    let opened = c.in_err-signed.ensures in
    let r : c.from_residual.result ≡ Err c.in_err-signed.field-0.0 = search rules in (
      opened.0,
      opened.1,
      rw (r) (refused_open (facts_of g.S.Source.tells g.S.Source.rest g.S.Source.failures) c.args.policy.now
          (FitsSigned c.args.policy.now) opened.0 c.args.content.now c.open_file.new.content c.in_err-signed.field-0.0
          opened.2),
    )

pub returns : goal.returns
returns g c =
    let opened = c.in_ok-signed.ensures in (
      opened.0,
      opened.1,
      judged_open (facts_of g.S.Source.tells g.S.Source.rest g.S.Source.failures) c.args.policy.now
          (FitsSigned c.args.policy.now) opened.0
          c.args.content.now c.open_file.new.content c.in_ok-signed.signed c.in_ok-signed.digests c.judged.result
          opened.2
          (λ some content has. of_signed c.args.policy.now content c.bytes.result.now c.signers.result.now
          c.in_ok-signed.signed c.judged.result
          (c.bytes.ensures.octets ∙ c.content_type.ensures) c.signers.ensures
          (c.judged.ensures content
          (subst (λ (xs : List SignerValue). HasDigests c.args.policy.now content xs c.in_ok-signed.digests)
          (sym c.signers.ensures) has))),
    )

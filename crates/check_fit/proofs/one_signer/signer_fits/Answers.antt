use Rattle.std.proofs.Common.{rules}
use Rattle.check_fit.proofs.FitLaw.{exactly_fits}
use Rattle.check_fit.proofs.one_signer.signer_fits.Goals as goal

pub returns-in_err-stated-clause-fits : goal.returns-in_err-stated-clause-fits
returns-in_err-stated-clause-fits c =
    exactly_fits c.args.policy c.args.content.now c.args.econtent_type.now c.args.signer.now _ (search rules)

pub returns-clause-fits : goal.returns-clause-fits
returns-clause-fits c = exactly_fits c.args.policy c.args.content.now c.args.econtent_type.now c.args.signer.now
    c.digest_fits.result (search rules)

use Rattle.std.proofs.Common.{◌≡◌, false, true, ◌∙◌, rules, sym, subst}
use Rattle.digests.specs.declared.algorithm.Alg.{Alg}
use Rattle.digests.specs.Sets.{is_in}
use Rattle.digests.specs.Selection.{set_given}
use Rattle.check_fit.proofs.FitLaw.{tells_fit, claim_wants}
use Rattle.check_fit.proofs.one_signer.fits_by_digests.Goals as goal

pub returns-in_default-clause-judged : goal.returns-in_default-clause-judged
returns-in_default-clause-judged c content are provided =
    let wants = claim_wants c.args.policy c.args.econtent_type.now c.args.signer.now c.in_ok-stated.stated.now
    c.in_ok-stated.alg c.in_ok-stated.ensures in
    let never : false ≡ true = c.in_default.ensures.some ∙ provided c.in_ok-stated.alg wants in
    absurd cc

pub returns-clause-judged : goal.returns-clause-judged
returns-clause-judged c content are provided =
    tells_fit c.args.policy content c.args.econtent_type.now c.args.signer.now c.digest_fits.result
    (let d = c.in-Some.ensures.octets content are in search rules)

-- the digest is there, so it is not missing
pub returns-clause-lacking : goal.returns-clause-lacking
returns-clause-lacking c alg wants missing =
    let claimed = claim_wants c.args.policy c.args.econtent_type.now c.args.signer.now c.in_ok-stated.stated.now
    c.in_ok-stated.alg c.in_ok-stated.ensures in
    let same : alg ≡ c.in_ok-stated.alg = let z = sym wants ∙ claimed in cc in
    let never : false ≡ true = sym missing
    ∙ subst (λ (a : Alg). is_in a (set_given c.args.digests.now) ≡ true) (sym same) (sym c.in-Some.ensures.some) in
    absurd cc

use Rattle.digests.specs.Digests.{alg_of, octets_of}
use Rattle.rsa_signatures.specs.Pss.{IsPss, is_pss}
use Rattle.rsa_signatures.proofs.Told.{pss_says, same_answer}
use Rattle.rsa_signatures.proofs.salted_signatures.is_pss_signature.Goals as goal

pub returns : goal.returns
returns c =
    let alg = alg_of c.args.digest.now in
    let h = octets_of c.args.digest.now in
    same_answer c.is_signature_in.result
    (is_pss alg c.args.mask c.args.salt h c.args.modulus.now c.args.exponent c.args.signature.now)
    (IsPss alg c.args.mask c.args.salt h c.args.modulus.now c.args.exponent c.args.signature.now)
    c.is_signature_in.ensures
    (pss_says alg c.args.mask c.args.salt h c.args.modulus.now c.args.exponent c.args.signature.now)

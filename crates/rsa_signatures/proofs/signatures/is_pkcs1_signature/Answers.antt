use Rattle.digests.specs.Digests.{alg_of, octets_of}
use Rattle.rsa_signatures.specs.Pkcs1.{IsPkcs1, is_pkcs1}
use Rattle.rsa_signatures.proofs.Told.{pkcs1_says, same_answer}
use Rattle.rsa_signatures.proofs.signatures.is_pkcs1_signature.Goals as goal

pub returns : goal.returns
returns c =
    let alg = alg_of c.args.digest.now in
    let h = octets_of c.args.digest.now in
    same_answer c.is_signature_in.result (is_pkcs1 alg h c.args.modulus.now c.args.exponent c.args.signature.now)
    (IsPkcs1 alg h c.args.modulus.now c.args.exponent c.args.signature.now) c.is_signature_in.ensures
    (pkcs1_says alg h c.args.modulus.now c.args.exponent c.args.signature.now)

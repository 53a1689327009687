-- Policies that allow the same algorithms are the same.
use Rattle.std.proofs.Common.{◌≡◌, refl}
use Rattle.digests.specs.Sets.{is_in}
use Rattle.digests.specs.declared.algorithm.Alg.{Alg}
use Rattle.digests.specs.declared.algorithm.Alg.TheVariants.{Sha1, Sha224, Sha256, Sha384, Sha512, Sha512_224}
use Rattle.digests.specs.declared.algorithm.Alg.TheVariants.{Sha512_256}
use Rattle.digests.specs.declared.set.Algs.{Algs}

pub same_set : (a b : Algs) → ((alg : Alg) → is_in alg a ≡ is_in alg b) → a ≡ b
same_set a b same =
    rw (same Sha1, same Sha224, same Sha256, same Sha384, same Sha512, same Sha512_224, same Sha512_256) refl

-- Digests: an algorithm and its octets.
use Rattle.std.specs.Prelude.{ℕ, List}
use Rattle.digests.specs.declared.algorithm.Alg.{Alg}
use Rattle.digests.specs.declared.algorithm.Alg.TheVariants as algs
use Rattle.digests.specs.declared.value.Digest.{Digest}
use Rattle.digests.specs.declared.value.Digest.TheVariants as digests

-- the octets of a digest
abbrev pub octets_of : Digest → List ℕ
octets_of (digests.Sha1 d) = d
octets_of (digests.Sha224 d) = d
octets_of (digests.Sha256 d) = d
octets_of (digests.Sha384 d) = d
octets_of (digests.Sha512 d) = d
octets_of (digests.Sha512_224 d) = d
octets_of (digests.Sha512_256 d) = d

-- the algorithm of a digest
abbrev pub alg_of : Digest → Alg
alg_of (digests.Sha1 d) = algs.Sha1
alg_of (digests.Sha224 d) = algs.Sha224
alg_of (digests.Sha256 d) = algs.Sha256
alg_of (digests.Sha384 d) = algs.Sha384
alg_of (digests.Sha512 d) = algs.Sha512
alg_of (digests.Sha512_224 d) = algs.Sha512_224
alg_of (digests.Sha512_256 d) = algs.Sha512_256

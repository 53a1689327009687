-- Sets of algorithms.
use Rattle.std.specs.Prelude.{Bool, true}
use Rattle.digests.specs.declared.algorithm.Alg.{Alg}
use Rattle.digests.specs.declared.algorithm.Alg.TheVariants.{Sha1, Sha224, Sha256, Sha384, Sha512, Sha512_224}
use Rattle.digests.specs.declared.algorithm.Alg.TheVariants.{Sha512_256}
use Rattle.digests.specs.declared.set.Algs.{Algs}

-- whether an algorithm is in a set
abbrev pub is_in : Alg → Algs → Bool
is_in Sha1 set = set.sha1
is_in Sha224 set = set.sha224
is_in Sha256 set = set.sha256
is_in Sha384 set = set.sha384
is_in Sha512 set = set.sha512
is_in Sha512_224 set = set.sha512_224
is_in Sha512_256 set = set.sha512_256

-- all algorithms
abbrev pub every_alg : Algs
every_alg = record {
  sha1 = true;
  sha224 = true;
  sha256 = true;
  sha384 = true;
  sha512 = true;
  sha512_224 = true;
  sha512_256 = true;
}

-- The hashers of all algorithms, and what they give.
use Rattle.std.specs.Prelude.{◌≡◌, ℕ, List}
use Rattle.digests.specs.Messages.{digest_of}
use Rattle.digests.specs.Selection.{FedWanted, set_of}
use Rattle.digests.specs.Sets.{every_alg}
use Rattle.digests.specs.declared.algorithm.Alg.TheVariants.{Sha1, Sha224, Sha256, Sha384, Sha512, Sha512_224}
use Rattle.digests.specs.declared.algorithm.Alg.TheVariants.{Sha512_256}
use Rattle.digests.specs.declared.hashers.All.{All}
use Rattle.digests.specs.declared.hashers.Digests.{Digests}

-- all algorithms have a hasher, and each was fed this message: it has the hash value of the whole blocks of the message
-- (FIPS 180-4, 6), the octets after these, and how many octets the message has, modulo a power of 2
pub record Fed (all : All) (message : List ℕ) : Type 0 where
  pub set : set_of all.wanted ≡ every_alg
  pub fed : FedWanted all.wanted message

-- these are the digests of this message
pub record AreOf (digests : Digests) (message : List ℕ) : Type 0 where
  pub sha1 : digests.sha1 ≡ digest_of Sha1 message
  pub sha224 : digests.sha224 ≡ digest_of Sha224 message
  pub sha256 : digests.sha256 ≡ digest_of Sha256 message
  pub sha384 : digests.sha384 ≡ digest_of Sha384 message
  pub sha512 : digests.sha512 ≡ digest_of Sha512 message
  pub sha512_224 : digests.sha512_224 ≡ digest_of Sha512_224 message
  pub sha512_256 : digests.sha512_256 ≡ digest_of Sha512_256 message

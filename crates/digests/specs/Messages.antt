-- The digest of a message.
use Rattle.std.specs.Prelude.{ℕ, List}
use Rattle.sha1.specs.Sha1.{sha1}
use Rattle.sha2.specs.Sha256.{sha224, sha256}
use Rattle.sha2.specs.Sha512.{sha384, sha512, sha512_224, sha512_256}
use Rattle.digests.specs.declared.algorithm.Alg.{Alg}
use Rattle.digests.specs.declared.algorithm.Alg.TheVariants.{Sha1, Sha224, Sha256, Sha384, Sha512, Sha512_224}
use Rattle.digests.specs.declared.algorithm.Alg.TheVariants.{Sha512_256}

-- the octets of the digest of a message: FIPS 180-4, 6.1, 6.3, 6.2, 6.5, 6.4, 6.6 and 6.7, which CMS uses as they are
-- (RFC 3370, 2.1; RFC 5754, 2.1 to 2.4)
unfoldable pub digest_of : Alg → List ℕ → List ℕ
digest_of Sha1 message = sha1 message
digest_of Sha224 message = sha224 message
digest_of Sha256 message = sha256 message
digest_of Sha384 message = sha384 message
digest_of Sha512 message = sha512 message
digest_of Sha512_224 message = sha512_224 message
digest_of Sha512_256 message = sha512_256 message

-- The hashers of wanted algorithms, and what they give.
use Rattle.std.specs.Prelude.{◌≡◌, ℕ, List, is_some, IfSome}
use Rattle.sha1.specs.Sha1.{Holds}
use Rattle.sha2_blocks.specs.ShortHashers.{HoldsShort, short_hashes_of}
use Rattle.sha2_blocks.specs.LongHashers.{HoldsLong, long_hashes_of}
use Rattle.digests.specs.Messages.{digest_of}
use Rattle.digests.specs.declared.algorithm.Alg.TheVariants.{Sha1, Sha224, Sha256, Sha384, Sha512, Sha512_224}
use Rattle.digests.specs.declared.algorithm.Alg.TheVariants.{Sha512_256}
use Rattle.digests.specs.declared.set.Algs.{Algs}
use Rattle.digests.specs.declared.selection.Wanted.{Wanted}
use Rattle.digests.specs.declared.selection.WantedDigests.{WantedDigests}

-- the algorithms that have a hasher, or a hash value in the hasher of those with words of their width; the others are
-- fed nothing
abbrev pub set_of : Wanted → Algs
set_of wanted = record {
  sha1 = is_some wanted.sha1;
  sha224 = is_some (short_hashes_of wanted.short).sha224;
  sha256 = is_some (short_hashes_of wanted.short).sha256;
  sha384 = is_some (long_hashes_of wanted.long).sha384;
  sha512 = is_some (long_hashes_of wanted.long).sha512;
  sha512_224 = is_some (long_hashes_of wanted.long).sha512_224;
  sha512_256 = is_some (long_hashes_of wanted.long).sha512_256;
}

-- the algorithms that have a digest
abbrev pub set_given : WantedDigests → Algs
set_given digests = record {
  sha1 = is_some digests.sha1;
  sha224 = is_some digests.sha224;
  sha256 = is_some digests.sha256;
  sha384 = is_some digests.sha384;
  sha512 = is_some digests.sha512;
  sha512_224 = is_some digests.sha512_224;
  sha512_256 = is_some digests.sha512_256;
}

-- each hasher that is present was fed this message
pub record FedWanted (wanted : Wanted) (message : List ℕ) : Type 0 where
  pub sha1 : IfSome wanted.sha1 (λ h. Holds h message)
  pub short : IfSome wanted.short (λ h. HoldsShort h message)
  pub long : IfSome wanted.long (λ h. HoldsLong h message)

-- each digest that is present is the digest of this message
pub record AreOfWanted (digests : WantedDigests) (message : List ℕ) : Type 0 where
  pub sha1 : IfSome digests.sha1 (λ d. d ≡ digest_of Sha1 message)
  pub sha224 : IfSome digests.sha224 (λ d. d ≡ digest_of Sha224 message)
  pub sha256 : IfSome digests.sha256 (λ d. d ≡ digest_of Sha256 message)
  pub sha384 : IfSome digests.sha384 (λ d. d ≡ digest_of Sha384 message)
  pub sha512 : IfSome digests.sha512 (λ d. d ≡ digest_of Sha512 message)
  pub sha512_224 : IfSome digests.sha512_224 (λ d. d ≡ digest_of Sha512_224 message)
  pub sha512_256 : IfSome digests.sha512_256 (λ d. d ≡ digest_of Sha512_256 message)

-- How many octets digests have.
use Rattle.std.proofs.Common.{◌≡◌, ℕ, ◌*◌, ◌≤◌, zero, suc, List, length, refl, arith, lit≤, length-append, length-take}
use Rattle.std.specs.Prelude.{slice_index}
use Rattle.std.specs.Int.{to_be_bytes, w32, w64}
use Rattle.sha1.specs.Sha1 as sha1
use Rattle.sha2.specs.Sha256 as sha256
use Rattle.sha2.specs.Sha512 as sha512
use Rattle.digests.specs.declared.algorithm.Alg.{Alg}
use Rattle.digests.specs.declared.algorithm.Alg.TheVariants.{Sha1, Sha224, Sha256, Sha384, Sha512, Sha512_224}
use Rattle.digests.specs.declared.algorithm.Alg.TheVariants.{Sha512_256}
use Rattle.digests.specs.Algorithms.{length_of}
use Rattle.digests.specs.Messages.{digest_of}

length_1 : (h : List ℕ) (n : ℕ) → length (sha1.digest_bytes h n) ≡ 4 * n
unfolding sha1.digest_bytes
length_1 h zero = refl
length_1 h (suc n) =
    omega (arith, length-append (sha1.digest_bytes h n) (to_be_bytes w32 (slice_index h n)), length_1 h n)

length_256 : (h : List ℕ) (n : ℕ) → length (sha256.digest_bytes h n) ≡ 4 * n
unfolding sha256.digest_bytes
length_256 h zero = refl
length_256 h (suc n) =
    omega (arith, length-append (sha256.digest_bytes h n) (to_be_bytes w32 (slice_index h n)), length_256 h n)

length_512 : (h : List ℕ) (n : ℕ) → length (sha512.digest_bytes h n) ≡ 8 * n
unfolding sha512.digest_bytes
length_512 h zero = refl
length_512 h (suc n) =
    omega (arith, length-append (sha512.digest_bytes h n) (to_be_bytes w64 (slice_index h n)), length_512 h n)

pub digest_length : (alg : Alg) (message : List ℕ) → length (digest_of alg message) ≡ length_of alg
unfolding digest_of sha1.sha1 sha256.sha224 sha256.sha256 sha512.sha384 sha512.sha512 sha512.sha512_224
    sha512.sha512_256
digest_length Sha1 m = length_1 _ 5
digest_length Sha224 m = omega (
  arith,
  length-take 28 (sha256.digest_bytes (sha256.final_hash sha256.initial_hash_224 m) 8),
  length_256 (sha256.final_hash sha256.initial_hash_224 m) 8,
)
digest_length Sha256 m = length_256 _ 8
digest_length Sha384 m = omega (
  arith,
  length-take 48 (sha512.digest_bytes (sha512.final_hash sha512.initial_hash_384 m) 8),
  length_512 (sha512.final_hash sha512.initial_hash_384 m) 8,
)
digest_length Sha512 m = length_512 _ 8
digest_length Sha512_224 m = omega (
  arith,
  length-take 28 (sha512.digest_bytes (sha512.final_hash sha512.initial_hash_512_224 m) 8),
  length_512 (sha512.final_hash sha512.initial_hash_512_224 m) 8,
)
digest_length Sha512_256 m = omega (
  arith,
  length-take 32 (sha512.digest_bytes (sha512.final_hash sha512.initial_hash_512_256 m) 8),
  length_512 (sha512.final_hash sha512.initial_hash_512_256 m) 8,
)

-- a digest has at most 64 octets
pub length_most : (alg : Alg) → length_of alg ≤ 64
length_most Sha1 = lit≤ tt
length_most Sha224 = lit≤ tt
length_most Sha256 = lit≤ tt
length_most Sha384 = lit≤ tt
length_most Sha512 = lit≤ tt
length_most Sha512_224 = lit≤ tt
length_most Sha512_256 = lit≤ tt

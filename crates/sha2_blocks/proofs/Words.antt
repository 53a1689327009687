-- The algorithms with short words, of 32 bits, and those with long words, of 64: what each definition and each law is
-- of either.
use Rattle.std.proofs.Common.{◌≡◌, ℕ, ◌+◌, ◌-◌, ◌*◌, ◌/◌, ◌%◌, ◌^◌, ◌<◌, ◌≤◌, List, [], ◌++◌, length, take, drop, refl}
use Rattle.std.proofs.Common.{slice_index, ◌∙◌, arith}
use Rattle.sha2.specs.Sha256
use Rattle.sha2.specs.Sha512
use Rattle.sha2.specs.Sha256.{hash_after as short_hash_after, rounds as short_rounds}
use Rattle.sha2.specs.Sha512.{hash_after as long_hash_after, rounds as long_rounds}
use Rattle.sha2.proofs.Absorbing256
use Rattle.sha2.proofs.Absorbing512
use Rattle.sha2.proofs.Schedule256
use Rattle.sha2.proofs.Schedule512
use Rattle.sha2_blocks.specs.declared.short_hashers.ShortHashes.{ShortHashes}
use Rattle.sha2_blocks.specs.declared.long_hashers.LongHashes.{LongHashes}
use Rattle.sha2_blocks.specs.Pairs.{HoldOnce, HoldTwice}
use Rattle.sha2_blocks.specs.ShortHashers.{EachShort, KeptShort, short_after}
use Rattle.sha2_blocks.specs.LongHashers.{EachLong, KeptLong, long_after}
use Rattle.sha2_blocks.proofs.Wanted.{if_map, if_then, there_still}
use borrow.Rule.Slice.PartMut.{post_of}

pub data Words : Type 0 where
  short : Words
  long : Words

-- ---- definitions

-- how many octets a block has
abbrev pub block_of : Words → ℕ
block_of short = 64
block_of long = 128

-- modulo what the octets of a message are counted
abbrev pub count_of : Words → ℕ
count_of short = 2 ^ 64
count_of long = 2 ^ 128

-- a hash value after a block, and after the first blocks of some octets
abbrev pub compress_of : Words → List ℕ → List ℕ → List ℕ
compress_of short = Sha256.compress
compress_of long = Sha512.compress

abbrev pub after_of : Words → List ℕ → List ℕ → ℕ → List ℕ
after_of short = short_hash_after
after_of long = long_hash_after

abbrev pub padding_of : Words → ℕ → List ℕ
padding_of short = Sha256.padding
padding_of long = Sha512.padding

-- the hash values of a hasher; what holds of each that is wanted; each after some blocks; and that the same are wanted
abbrev pub HashesOf : Words → Type 0
HashesOf short = ShortHashes
HashesOf long = LongHashes

abbrev pub EachOf : (w : Words) → HashesOf w → (List ℕ → List ℕ → Type 0) → Type 0
EachOf short hs P = EachShort hs P
EachOf long hs P = EachLong hs P

abbrev pub all_after : (w : Words) → HashesOf w → List ℕ → ℕ → HashesOf w
all_after short hs x n = short_after hs x n
all_after long hs x n = long_after hs x n

abbrev pub KeptOf : (w : Words) → HashesOf w → HashesOf w → Type 0
KeptOf short x y = KeptShort x y
KeptOf long x y = KeptLong x y

-- the rounds of a block, the sums that they take, and how lanes hold words
abbrev pub rounds_of : Words → List ℕ → List ℕ → ℕ → List ℕ
rounds_of short = short_rounds
rounds_of long = long_rounds

abbrev pub round_of : Words → List ℕ → ℕ → ℕ → List ℕ
round_of short = Sha256.round
round_of long = Sha512.round

abbrev pub add_of : Words → ℕ → ℕ → ℕ
add_of short = Sha256.add32
add_of long = Sha512.add64

abbrev pub constants_of : Words → List ℕ
constants_of short = Sha256.round_constants
constants_of long = Sha512.round_constants

abbrev pub schedule_of : Words → List ℕ → List ℕ
schedule_of short b = Sha256.schedule b 48
schedule_of long b = Sha512.schedule b 64

abbrev pub rounds_count : Words → ℕ
rounds_count short = 64
rounds_count long = 80

abbrev pub HoldOf : Words → List ℕ → List ℕ → Type 0
HoldOf short = HoldTwice
HoldOf long = HoldOnce

-- ---- laws of rounds

pub no_rounds : (w : Words) (h ws : List ℕ) → rounds_of w h ws 0 ≡ h
unfolding short_rounds long_rounds
no_rounds short h ws = refl
no_rounds long h ws = refl

pub round_next : (w : Words) (h ws : List ℕ) (t : ℕ) → rounds_of w h ws (t + 1)
    ≡ round_of w (rounds_of w h ws t) (slice_index (constants_of w) t) (slice_index ws t)
round_next short = Schedule256.rounds_next
round_next long = Schedule512.rounds_next

-- ---- laws of blocks

pub nothing_after : (w : Words) (h p : List ℕ) → after_of w h p 0 ≡ h
unfolding short_hash_after long_hash_after
nothing_after short h p = refl
nothing_after long h p = refl

pub block_after : (w : Words) (h p : List ℕ) (n : ℕ)
    → after_of w h p (n + 1) ≡ compress_of w (after_of w h p n) (take (block_of w) (drop (n * block_of w) p))
block_after short = Absorbing256.hash_after_next
block_after long = Absorbing512.hash_after_next

pub front_after : (w : Words) (h p x : List ℕ) (n : ℕ) → n * block_of w ≤ length p
    → after_of w h (p ++ x) n ≡ after_of w h p n
front_after short = Absorbing256.hash_after-append
front_after long = Absorbing512.hash_after-append

module _ (w : Words) where
  -- from i on, the hash value h has taken the whole blocks of m, and b begins with the octets after them
  abbrev pub Absorbed : List ℕ → List ℕ → List ℕ → List ℕ → Type 0
  Absorbed i h b m = (h ≡ after_of w i m (length m / block_of w))
      × (take (length m % block_of w) b ≡ drop (length m / block_of w * block_of w) m)

pub nothing_absorbed : (w : Words) (i : List ℕ) → Absorbed w i i [] []
unfolding short_hash_after long_hash_after
nothing_absorbed short i = (refl, refl)
nothing_absorbed long i = (refl, refl)

pub absorbed_short : (w : Words) (i h b c m d : List ℕ) → Absorbed w i h b m
    → length m % block_of w + length d < block_of w
    → take (length m % block_of w + length d) c ≡ take (length m % block_of w) b ++ d → Absorbed w i h c (m ++ d)
absorbed_short short = Absorbing256.IsAbsorbed_short
absorbed_short long = Absorbing512.IsAbsorbed_short

pub absorbed_fill : (w : Words) (i h b c m d x : List ℕ) → Absorbed w i h b m
    → length m % block_of w + length d ≡ block_of w → x ≡ take (length m % block_of w) b ++ d
    → Absorbed w i (compress_of w h x) c (m ++ d)
absorbed_fill short = Absorbing256.IsAbsorbed_fill
absorbed_fill long = Absorbing512.IsAbsorbed_fill

pub absorbed_block : (w : Words) (i h b m d x : List ℕ) (a : ℕ) → Absorbed w i h b (m ++ take a d)
    → (length m + a) % block_of w ≡ 0 → a + block_of w ≤ length d → x ≡ take (block_of w) (drop a d)
    → Absorbed w i (compress_of w h x) b (m ++ take (a + block_of w) d)
absorbed_block short = Absorbing256.IsAbsorbed_block
absorbed_block long = Absorbing512.IsAbsorbed_block

pub absorbed_tail : (w : Words) (i c h b m d ys : List ℕ) (a k : ℕ) → Absorbed w i h b (m ++ take a d)
    → (length m + a) % block_of w ≡ 0 → a ≤ length d → length d - a < block_of w → c ≡ ys ++ post_of 0 k b
    → ys ≡ drop a d → Absorbed w i h c (m ++ d)
absorbed_tail short = Absorbing256.IsAbsorbed_tail
absorbed_tail long = Absorbing512.IsAbsorbed_tail

-- ---- numbers of octets

-- so many whole blocks
pub blocks_are : (w : Words) (q : ℕ) → q * block_of w / block_of w ≡ q
blocks_are short q = omega arith
blocks_are long q = omega arith

pub blocks_end : (w : Words) (q : ℕ) → q * block_of w % block_of w ≡ 0
blocks_end short q = omega arith
blocks_end long q = omega arith

pub blocks_more : (w : Words) (n q : ℕ) → n % block_of w ≡ 0 → (n + q * block_of w) % block_of w ≡ 0
blocks_more short n q edge = omega arith
blocks_more long n q edge = omega arith

pub blocks_below : (w : Words) (n : ℕ) → n / block_of w * block_of w + n % block_of w ≡ n
blocks_below short n = omega arith
blocks_below long n = omega arith

-- what is counted tells how many octets are in a block that was begun
pub count_in_block : (w : Words) (n k : ℕ) → n ≡ k % count_of w → n % block_of w ≡ k % block_of w
count_in_block short n k e = omega arith
count_in_block long n k e = omega arith

pub count_again : (w : Words) (n k : ℕ) → n ≡ k % count_of w → n % count_of w ≡ k % count_of w
count_again short n k e = omega arith
count_again long n k e = omega arith

pub count_more : (w : Words) (n k j : ℕ) → n ≡ k % count_of w → (n + j) % count_of w ≡ (k + j) % count_of w
count_more short n k j e = omega arith
count_more long n k j e = omega arith

-- and so does the padding
pub padded_alike : (w : Words) (n k : ℕ) → n % count_of w ≡ k % count_of w → padding_of w n ≡ padding_of w k
padded_alike short n k e =
    let at : n % 64 ≡ k % 64 = omega arith in
    let bits : n * 8 % 2 ^ 64 ≡ k * 8 % 2 ^ 64 = omega arith in
    rw (at, bits) refl
padded_alike long n k e =
    let at : n % 128 ≡ k % 128 = omega arith in
    let bits : n * 8 % 2 ^ 128 ≡ k * 8 % 2 ^ 128 = omega arith in
    rw (at, bits) refl

-- ---- laws of the hash values of a hasher

-- what holds of each that is wanted
pub each_then : (w : Words) (hs : HashesOf w) (P Q : List ℕ → List ℕ → Type 0) → EachOf w hs P
    → ((i h : List ℕ) → P i h → Q i h) → EachOf w hs Q
each_then short hs P Q held next = record {
  sha224 = if_then hs.sha224 _ _ held.sha224 (next _);
  sha256 = if_then hs.sha256 _ _ held.sha256 (next _);
}
each_then long hs P Q held next = record {
  sha384 = if_then hs.sha384 _ _ held.sha384 (next _);
  sha512 = if_then hs.sha512 _ _ held.sha512 (next _);
  sha512_224 = if_then hs.sha512_224 _ _ held.sha512_224 (next _);
  sha512_256 = if_then hs.sha512_256 _ _ held.sha512_256 (next _);
}

-- once blocks were taken
pub each_after : (w : Words) (hs : HashesOf w) (x : List ℕ) (n : ℕ) (P Q : List ℕ → List ℕ → Type 0) → EachOf w hs P
    → ((i h : List ℕ) → P i h → Q i (after_of w h x n)) → EachOf w (all_after w hs x n) Q
each_after short hs x n P Q held next = record {
  sha224 = if_map hs.sha224 _ _ _ held.sha224 (next _);
  sha256 = if_map hs.sha256 _ _ _ held.sha256 (next _);
}
each_after long hs x n P Q held next = record {
  sha384 = if_map hs.sha384 _ _ _ held.sha384 (next _);
  sha512 = if_map hs.sha512 _ _ _ held.sha512 (next _);
  sha512_224 = if_map hs.sha512_224 _ _ _ held.sha512_224 (next _);
  sha512_256 = if_map hs.sha512_256 _ _ _ held.sha512_256 (next _);
}

-- which are wanted
pub kept_after : (w : Words) (hs : HashesOf w) (x : List ℕ) (n : ℕ) → KeptOf w hs (all_after w hs x n)
kept_after short hs x n = record { sha224 = there_still hs.sha224 _; sha256 = there_still hs.sha256 _ }
kept_after long hs x n = record {
  sha384 = there_still hs.sha384 _;
  sha512 = there_still hs.sha512 _;
  sha512_224 = there_still hs.sha512_224 _;
  sha512_256 = there_still hs.sha512_256 _;
}

pub kept_same : (w : Words) (hs : HashesOf w) → KeptOf w hs hs
kept_same short hs = record { sha224 = refl; sha256 = refl }
kept_same long hs = record { sha384 = refl; sha512 = refl; sha512_224 = refl; sha512_256 = refl }

pub kept_then : (w : Words) (x y z : HashesOf w) → KeptOf w x y → KeptOf w y z → KeptOf w x z
kept_then short x y z first second =
    record { sha224 = second.sha224 ∙ first.sha224; sha256 = second.sha256 ∙ first.sha256 }
kept_then long x y z first second = record {
  sha384 = second.sha384 ∙ first.sha384;
  sha512 = second.sha512 ∙ first.sha512;
  sha512_224 = second.sha512_224 ∙ first.sha512_224;
  sha512_256 = second.sha512_256 ∙ first.sha512_256;
}

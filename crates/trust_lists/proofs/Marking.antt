-- The marks of octets, word by word.
use Rattle.std.proofs.Common.{◌≡◌, ℕ, zero, suc, ◌/◌, ◌<◌, ◌≤◌, List, length, drop, ap, arith}
use Rattle.std.specs.List.{fold}
use Rattle.std.proofs.lemmas.List.{length-drop}
use Rattle.trust_lists.specs.Marks.{next_mark, first_word, words_marked, mark_of}

-- where a word is left, it is marked first
pub one_word : (mark : ℕ) (octets : List ℕ) → 8 ≤ length octets
    → mark_of mark octets ≡ mark_of (next_mark mark (first_word octets)) (drop 8 octets)
one_word mark octets some =
    let words : length octets / 8 ≡ suc (length (drop 8 octets) / 8) = omega (arith, some, length-drop 8 octets) in
    ap (λ (n : ℕ). words_marked n mark octets) words

-- where none is left, the octets are marked one by one
pub no_word : (mark : ℕ) (octets : List ℕ) → length octets < 8 → mark_of mark octets ≡ fold next_mark mark octets
no_word mark octets few =
    let words : length octets / 8 ≡ zero = omega (arith, few) in
    ap (λ (n : ℕ). words_marked n mark octets) words

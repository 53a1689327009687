-- The lines of the bits that are set, one bit after another; and what is shown of a text that has octets.
use Rattle.std.proofs.Common.{◌≡◌, ◌<◌, ◌+◌, ◌-◌, ◌++◌, ◌∷◌, [], ℕ, List, suc, length, flat_map, append_assoc, ap, sym}
use Rattle.std.proofs.Common.{refl, arith, ◌∙◌}
use Rattle.lines_shown.specs.ResponseLines.{set_line, fail_lines, shown_octet, shown_text}

pub next_bit : (contents : List ℕ) (n total : ℕ) → n < total
    → fail_lines contents n (total - n) ≡ set_line contents n ++ fail_lines contents (n + 1) (total - (n + 1))
next_bit contents n total less =
    let e : total - n ≡ suc (total - (n + 1)) = omega (arith, less) in
    rw e refl

pub text_of_octets : (octets : List ℕ) → 0 < length octets → shown_text octets ≡ flat_map shown_octet octets
text_of_octets [] some = absurd (let no : ⊥ = omega (arith, some) in no)
text_of_octets (o ∷ os) some = refl

-- the lines so far and those of the bits that are left stay all, when one more bit was shown
pub more_bits : (contents before now all : List ℕ) (n total : ℕ) → n < total → now ≡ before ++ set_line contents n
    → before ++ fail_lines contents n (total - n) ≡ all → now ++ fail_lines contents (n + 1) (total - (n + 1)) ≡ all
more_bits contents before now all n total less new old =
    rw new (append_assoc before (set_line contents n) (fail_lines contents (n + 1) (total - (n + 1)))
    ∙ ap (λ (r : List ℕ). before ++ r) (sym (next_bit contents n total less)) ∙ old)

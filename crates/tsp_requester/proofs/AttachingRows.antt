-- The worked rows.
use Rattle.std.proofs.Common.{◌≡◌, ℕ, ◌+◌, ◌^◌, ◌<◌, List, length, refl, ap, subst, ◌∙◌, arith, length-append}
use Rattle.der_core.specs.Element.{len, el}
use Rattle.der_core.proofs.Lengths.{len_0, len_1, len_2, len_3}
use Rattle.tsp_requester.specs.AttachingRows.{AttributeRows, NumberRows, SizeRows, LimitRows}

size_of : (b : List ℕ) (n k : ℕ) → length b ≡ n → length (len n) ≡ k → length (el 0x30 b) ≡ 1 + k + n
size_of b n k e f =
    let g : length (len (length b)) ≡ k = ap (λ (m : ℕ). length (len m)) e ∙ f in
    omega (arith, length-append (len (length b)) b, g)

pub attribute_rows : AttributeRows
attribute_rows = record { absent = λ a. refl; behind = λ a b c. refl }

pub number_rows : NumberRows
number_rows = record { first = λ t a b. refl; second = λ t a b. refl; zero = λ t a b. refl; third = λ t a b. refl }

pub size_rows : SizeRows
size_rows = record {
  of_127 = λ b e. size_of b 127 1 e (ap (λ (l : List ℕ). length l) (len_0 127 (omega arith)));
  of_128 = λ b e. size_of b 128 2 e (ap (λ (l : List ℕ). length l) (len_1 128 (omega arith) (omega arith)));
  of_255 = λ b e. size_of b 255 2 e (ap (λ (l : List ℕ). length l) (len_1 255 (omega arith) (omega arith)));
  of_256 = λ b e. size_of b 256 3 e (ap (λ (l : List ℕ). length l) (len_2 256 (omega arith) (omega arith)));
  of_65535 = λ b e. size_of b 65535 3 e (ap (λ (l : List ℕ). length l) (len_2 65535 (omega arith) (omega arith)));
  of_65536 = λ b e. size_of b 65536 4 e (ap (λ (l : List ℕ). length l) (len_3 65536 (omega arith) (omega arith)));
}

pub limit_rows : LimitRows
limit_rows = record {
  greatest = λ b e. omega (arith, e);
  past = λ b e h. absurd (let z : 2 ^ 32 < 2 ^ 32 = subst (λ (n : ℕ). n < 2 ^ 32) e h in omega arith);
}

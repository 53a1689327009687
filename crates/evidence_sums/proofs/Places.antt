-- Numbers of elements that pass.
use Rattle.std.proofs.Common.{◌≡◌, ℕ, ◌+◌, Bool, true, false, not, List, [], ◌∷◌, Some, None, length, refl, arith}
use Rattle.std.specs.Prelude.{◌==◌}
use Rattle.std.specs.List.{slice_split, list_all}
use Rattle.digests.specs.declared.algorithm.Alg.{Alg}
use Rattle.evidence_sums.specs.Lines.{first_number, lines_of}
use Rattle.evidence_sums.specs.Names.{is_name}
use Rattle.evidence_sums.specs.SumLines.{is_sum_line, name_in}
use Rattle.evidence_sums.specs.Sums.{Answer, no_line, unless_badly_formed}
use Rattle.evidence_sums.proofs.Cuts.{some_part}
use Rattle.evidence_sums.proofs.Escapes.{is_then}

-- where nothing fails a test, all pass it
pub all_pass : {X : Type 0} (passes : X → Bool) (number : ℕ) (xs : List X)
    → first_number (λ x. not (passes x)) number xs ≡ None → list_all passes xs ≡ true
all_pass passes number [] none = refl
all_pass {X = X} passes number (x ∷ xs) none = by_case (passes x) refl none (all_pass passes (number + 1) xs)
  where
    by_case : (b : Bool) → passes x ≡ b
        → first_number (λ x. not (passes x)) number (x ∷ xs) ≡ None
        → (first_number (λ x. not (passes x)) (number + 1) xs ≡ None → list_all passes xs ≡ true)
        → list_all passes (x ∷ xs) ≡ true
    by_case true e none others =
        let rest : first_number (λ x. not (passes x)) (number + 1) xs ≡ None = rw e at none in rw e (others rest)
    by_case false e none others = absurd (let no : Some number ≡ None = rw e at none in cc)

-- a text without octets has none
pub no_octets : (text : List ℕ) → length text == 0 ≡ true → lines_of text ≡ []
no_octets text none = go text (is_then (length text) 0 none)
  where
    go : (text : List ℕ) → length text ≡ 0 → lines_of text ≡ []
    go [] none = refl
    go (octet ∷ text) none = absurd (omega arith)

-- one that has some has a line
pub some_line : (text : List ℕ) → length text == 0 ≡ false → no_line (lines_of text) ≡ None
some_line [] some = absurd (let no : true ≡ false = some in cc)
some_line (octet ∷ text) some = by_case (octet == 10) refl (some_part (λ b. b == 10) text)
  where
    by_case : (b : Bool) → octet == 10 ≡ b
        → ((q : List ℕ) × (qs : List (List ℕ)) × (slice_split (λ b. b == 10) text ≡ q ∷ qs))
        → no_line (lines_of (octet ∷ text)) ≡ None
    by_case true e (q, qs, is) = rw (e, is) refl
    by_case false e (q, [], is) = rw (e, is) refl
    by_case false e (q, p ∷ ps, is) = rw (e, is) refl

-- where nothing is badly formed, the answer is the one that follows
pub all_formed : (alg : Alg) (lines : List (List ℕ)) (answer : Answer)
    → first_number (λ l. not (is_sum_line alg l)) 1 lines ≡ None → no_line lines ≡ None
    → first_number (λ l. not (is_name (name_in alg l))) 1 lines ≡ None → unless_badly_formed alg lines answer ≡ answer
all_formed alg lines answer sums some names = rw (sums, some, names) refl

-- The number that the value of an argument spells.
use Rattle.std.proofs.Common.{◌≡◌, ◌<◌, ◌^◌, ◌∙◌, ℕ, List, Option, Some, None, Result, Ok, Err, sym}
use Rattle.std.specs.Str.Parse.{IsNumeral, digits_value, without_leading_plus, ParsesUnsigned}
use Rattle.clap.specs.Matches.{one_text, ReadsOne}
use Rattle.clap.specs.declared.parser.matches.Found.{Found}
use Rattle.cli_words.specs.Words.{IsNumberIn}

module _ {E : Type 0} (gives : List ℕ → Result ℕ E → Type 0)
    (parses : (t : List ℕ) (x : Result ℕ E) → gives t x → ParsesUnsigned 64 10 t x) where
  spelled : (t : List ℕ) (r : Option ℕ) (n : ℕ) → ReadsOne gives t r → r ≡ Some n
      → n ≡ digits_value 10 (without_leading_plus t)
  spelled t (Some v) n reads e = let same : v ≡ n = cc in sym same ∙ (parses t (Ok v) reads).1
  spelled t None n reads e = absurd (let no : ⊥ = cc in no)

  unspelled : (t : List ℕ) (r : Option ℕ) → ReadsOne gives t r → r ≡ None
      → IsNumeral 10 (without_leading_plus t) × (digits_value 10 (without_leading_plus t) < 2 ^ 64) → ⊥
  unspelled t (Some v) reads e numeral = let no : ⊥ = cc in no
  unspelled t None (why, failed) e numeral = parses t (Err why) failed numeral

  pub number_in : (given : Found) (name : List ℕ) (r : Option ℕ) → (one_text given name ≡ None → r ≡ None)
      → ((t : List ℕ) → one_text given name ≡ Some t → ReadsOne gives t r)
      → IsNumberIn given name r
  number_in given name r none value =
      record {
        absent = none;
        spelled = λ t n is e. spelled t r n (value t is) e;
        unspelled = λ t is e. unspelled t r (value t is) e;
      }

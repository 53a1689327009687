-- What follows for an answer from the tests of the lines and names.
use Rattle.std.proofs.Common.{◌≡◌, ℕ, ◌+◌, Bool, true, false, List, [], ◌∷◌, map, Option, Some, None, Result, Ok, Err}
use Rattle.std.proofs.Common.{refl, sym, ap, ◌∙◌, subst}
use Rattle.std.specs.Prelude.{IsOk, not, if◌then◌else◌}
use Rattle.digests.specs.declared.algorithm.Alg.{Alg}
use Rattle.evidence_sums.specs.declared.sums_fault.SumsFault.{SumsFault}
use Rattle.evidence_sums.specs.declared.sums_fault.SumsRule.TheVariants as rule
use Rattle.evidence_sums.specs.LineTests.{is_line, is_named, named_again, unless_faulty}
use Rattle.evidence_sums.specs.Lines.{first_number, lines_of}
use Rattle.evidence_sums.specs.Records.{RecordsAnswer, continues, first_continues, first_named_again, records_in}
use Rattle.evidence_sums.specs.Records.{records_of}
use Rattle.evidence_sums.specs.Records.{unless_named_again, well_recorded}
use Rattle.evidence_sums.specs.SumLines.{name_in, sum_in}
use Rattle.evidence_sums.specs.Sums.{Answer, first_again, is_among, no_line, sums_of, unless, unless_again, well_formed}

abbrev Tests : Type 0
Tests = Result (Unit {0}) SumsFault

-- they are passed
abbrev pub passed : Tests
passed = Ok tt

abbrev by : {X : Type 0} → (a b c d : Option ℕ) → Result X SumsFault → Result X SumsFault
by a b c d answer = unless rule.Line a (unless rule.Line b (unless rule.Empty c (unless rule.Name d answer)))

-- the answer is as this says if the tests are passed, and otherwise their fault
abbrev pub behind : {X : Type 0} → (tests : Tests) → Result X SumsFault → Result X SumsFault
behind (Ok t) answer = answer
behind (Err f) answer = Err f

each : {X : Type 0} (a b c d : Option ℕ) (answer : Result X SumsFault) → by a b c d answer
    ≡ behind (by a b c d passed) answer
each (Some n) b c d answer = refl
each None (Some n) c d answer = refl
each None None (Some n) d answer = refl
each None None None (Some n) answer = refl
each None None None None answer = refl

pub answer_behind : {X : Type 0} (may_continue : Bool) (alg : Alg) (lines : List (List ℕ)) (answer : Result X SumsFault)
    → unless_faulty may_continue alg lines answer ≡ behind (unless_faulty may_continue alg lines passed) answer
answer_behind may_continue alg lines answer = each (if may_continue then first_continues lines else None)
    (first_number (λ l. not (is_line may_continue alg l)) 1 lines) (no_line lines)
    (first_number (λ l. not (is_named may_continue alg l)) 1 lines) answer

pub all_passed : (may_continue : Bool) (alg : Alg) (lines : List (List ℕ))
    → (if may_continue then first_continues lines else None) ≡ None
    → first_number (λ l. not (is_line may_continue alg l)) 1 lines ≡ None → no_line lines ≡ None
    → first_number (λ l. not (is_named may_continue alg l)) 1 lines ≡ None
    → passed ≡ unless_faulty may_continue alg lines passed
all_passed may_continue alg lines first formed some named = rw (first, formed, some, named) refl

-- ---- names that are there twice

pub sums_again : (alg : Alg) (before : List (List ℕ)) (number : ℕ) (lines : List (List ℕ))
    → named_again false alg before number lines ≡ first_again before number (map (name_in alg) lines)
sums_again alg before number [] = refl
sums_again alg before number (line ∷ lines) = by_case (is_among before (name_in alg line)) refl
    (sums_again alg (name_in alg line ∷ before) (number + 1) lines)
  where
    by_case : (b : Bool) → is_among before (name_in alg line) ≡ b
        → named_again false alg (name_in alg line ∷ before) (number + 1) lines
        ≡ first_again (name_in alg line ∷ before) (number + 1) (map (name_in alg) lines)
        → named_again false alg before number (line ∷ lines)
        ≡ first_again before number (map (name_in alg) (line ∷ lines))
    by_case true e others = rw e refl
    by_case false e others = rw e others

pub records_again : (alg : Alg) (before : List (List ℕ)) (number : ℕ) (lines : List (List ℕ))
    → named_again true alg before number lines ≡ first_named_again alg before number lines
records_again alg before number [] = refl
records_again alg before number (line ∷ lines) = by_case (continues line) (is_among before (name_in alg line)) refl refl
    (records_again alg before (number + 1) lines) (records_again alg (name_in alg line ∷ before) (number + 1) lines)
  where
    by_case : (a b : Bool) → continues line ≡ a → is_among before (name_in alg line) ≡ b
        → named_again true alg before (number + 1) lines ≡ first_named_again alg before (number + 1) lines
        → named_again true alg (name_in alg line ∷ before) (number + 1) lines
        ≡ first_named_again alg (name_in alg line ∷ before) (number + 1) lines
        → named_again true alg before number (line ∷ lines) ≡ first_named_again alg before number (line ∷ lines)
    by_case true b d e more others = rw d more
    by_case false true d e more others = rw (d, e) refl
    by_case false false d e more others = rw (d, e) others

-- ---- texts of sums

module _ (alg : Alg) (text : List ℕ) where
  pub sums_refused : (f : SumsFault) → Err f ≡ unless_faulty false alg (lines_of text) passed
      → sums_of alg text ≡ Err f
  sums_refused f e = answer_behind false alg (lines_of text) (unless_again alg (lines_of text))
      ∙ ap (λ (t : Tests). behind t (unless_again alg (lines_of text))) (sym e)

  module _ (good : passed ≡ unless_faulty false alg (lines_of text) passed) where
    pub sums_formed : IsOk (well_formed alg text)
    sums_formed = subst (λ (a : Answer). IsOk a)
        (sym (answer_behind false alg (lines_of text) (Ok (map (sum_in alg) (lines_of text)))
        ∙ ap (λ (t : Tests). behind t (Ok (map (sum_in alg) (lines_of text)))) (sym good))) refl

    sums_as : (line : Option ℕ) → line ≡ named_again false alg [] 1 (lines_of text)
        → sums_of alg text ≡ unless rule.NameTwice line (Ok (map (sum_in alg) (lines_of text)))
    sums_as line is = answer_behind false alg (lines_of text) (unless_again alg (lines_of text))
        ∙ ap (λ (t : Tests). behind t (unless_again alg (lines_of text))) (sym good)
        ∙ ap (λ (l : Option ℕ). unless rule.NameTwice l (Ok (map (sum_in alg) (lines_of text))))
        (sym (is ∙ sums_again alg [] 1 (lines_of text)))

    pub sums_found : None ≡ named_again false alg [] 1 (lines_of text)
        → sums_of alg text ≡ Ok (map (sum_in alg) (lines_of text))
    sums_found is = sums_as None is

    pub sums_twice : (line : ℕ) → Some line ≡ named_again false alg [] 1 (lines_of text)
        → sums_of alg text ≡ Err (record { rule = rule.NameTwice; line = line })
    sums_twice line is = sums_as (Some line) is

  -- ---- texts of records

  pub records_refused : (f : SumsFault) → Err f ≡ unless_faulty true alg (lines_of text) passed
      → records_of alg text ≡ Err f
  records_refused f e = answer_behind true alg (lines_of text) (unless_named_again alg (lines_of text))
      ∙ ap (λ (t : Tests). behind t (unless_named_again alg (lines_of text))) (sym e)

  module _ (good : passed ≡ unless_faulty true alg (lines_of text) passed) where
    pub records_formed : IsOk (well_recorded alg text)
    records_formed = subst (λ (a : RecordsAnswer). IsOk a)
        (sym (answer_behind true alg (lines_of text) (Ok (records_in alg (lines_of text)))
        ∙ ap (λ (t : Tests). behind t (Ok (records_in alg (lines_of text)))) (sym good))) refl

    records_as : (line : Option ℕ) → line ≡ named_again true alg [] 1 (lines_of text)
        → records_of alg text ≡ unless rule.NameTwice line (Ok (records_in alg (lines_of text)))
    records_as line is = answer_behind true alg (lines_of text) (unless_named_again alg (lines_of text))
        ∙ ap (λ (t : Tests). behind t (unless_named_again alg (lines_of text))) (sym good)
        ∙ ap (λ (l : Option ℕ). unless rule.NameTwice l (Ok (records_in alg (lines_of text))))
        (sym (is ∙ records_again alg [] 1 (lines_of text)))

    pub records_found : None ≡ named_again true alg [] 1 (lines_of text)
        → records_of alg text ≡ Ok (records_in alg (lines_of text))
    records_found is = records_as None is

    pub records_twice : (line : ℕ) → Some line ≡ named_again true alg [] 1 (lines_of text)
        → records_of alg text ≡ Err (record { rule = rule.NameTwice; line = line })
    records_twice line is = records_as (Some line) is

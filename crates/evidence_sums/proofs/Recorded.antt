-- What is known of the records that lines state.
use Rattle.std.proofs.Common.{◌≡◌, ◌≢◌, ℕ, Bool, true, false, not, List, [], ◌∷◌, Option, Some, None, Result, Ok}
use Rattle.std.proofs.Common.{All, drop, refl, sym, ap, ◌∙◌, subst}
use Rattle.std.specs.Prelude.{IsOk}
use Rattle.std.specs.List.{AllByRecursion, list_all}
use Rattle.std.proofs.lemmas.List.Elements.{All-from_recursion}
use Rattle.digests.specs.declared.algorithm.Alg.{Alg}
use Rattle.digests.specs.declared.algorithm.Alg.TheVariants as algs
use Rattle.digests.specs.declared.value.Digest.{Digest}
use Rattle.digests.specs.Digests.{alg_of}
use Rattle.evidence_sums.specs.declared.sums_fault.SumsFault.{SumsFault}
use Rattle.evidence_sums.specs.declared.sums_fault.SumsRule.{SumsRule}
use Rattle.evidence_sums.specs.declared.sums_fault.SumsRule.TheVariants as rule
use Rattle.evidence_sums.specs.Lines.{first_number, lines_of}
use Rattle.evidence_sums.specs.Records.{RecordValue, RecordsAnswer, continued, continues, first_continues}
use Rattle.evidence_sums.specs.Records.{is_record_line, record_of}
use Rattle.evidence_sums.specs.Records.{is_well_named, records_in, records_of, well_recorded}
use Rattle.evidence_sums.specs.SumLines.{digest_with, is_sum_line, sum_in}
use Rattle.evidence_sums.specs.Sums.{no_line, unless}
use Rattle.evidence_sums.specs.Walks.{behind_continued}
use Rattle.evidence_sums.proofs.Escapes.{and_first, and_second}

abbrev Lines : Type 0
Lines = List (List ℕ)

-- ---- the digests

by_alg : (alg : Alg) (octets : List ℕ) → alg_of (digest_with alg octets) ≡ alg
by_alg algs.Sha1 octets = refl
by_alg algs.Sha224 octets = refl
by_alg algs.Sha256 octets = refl
by_alg algs.Sha384 octets = refl
by_alg algs.Sha512 octets = refl
by_alg algs.Sha512_224 octets = refl
by_alg algs.Sha512_256 octets = refl

continued_by : (alg : Alg) (lines : Lines) → AllByRecursion (λ d. alg_of d ≡ alg) (continued alg lines)
continued_by alg [] = tt
continued_by alg (line ∷ lines) = by_case (continues line) refl (continued_by alg lines)
  where
    by_case : (b : Bool) → continues line ≡ b → AllByRecursion (λ d. alg_of d ≡ alg) (continued alg lines)
        → AllByRecursion (λ d. alg_of d ≡ alg) (continued alg (line ∷ lines))
    by_case true e others = rw e (by_alg alg _, others)
    by_case false e others = rw e tt

digests_by : (alg : Alg) (line : List ℕ) (lines : Lines) (digests : List Digest)
    → digests ≡ (record_of alg line lines).digests → All (λ d. alg_of d ≡ alg) digests
digests_by alg line lines digests same = subst (λ (ds : List Digest). All (λ d. alg_of d ≡ alg) ds) (sym same)
    (All-from_recursion (λ d. alg_of d ≡ alg) (record_of alg line lines).digests
    (by_alg alg _, continued_by alg lines))

pub by_its_alg : (alg : Alg) (line : List ℕ) (lines : Lines) (r : RecordValue) → record_of alg line lines ≡ r
    → (digests : List Digest) → digests ≡ r.digests → All (λ d. alg_of d ≡ r.alg) digests
by_its_alg alg line lines r is =
    subst (λ (v : RecordValue). (digests : List Digest) → digests ≡ v.digests → All (λ d. alg_of d ≡ v.alg) digests) is
    (digests_by alg line lines)

-- ---- lines that are passed over

pub none_begun : (alg : Alg) (lines : Lines) → records_in alg (behind_continued lines) ≡ records_in alg lines
none_begun alg [] = refl
none_begun alg (line ∷ lines) = by_case (continues line) refl (none_begun alg lines)
  where
    by_case : (b : Bool) → continues line ≡ b
        → records_in alg (behind_continued lines) ≡ records_in alg lines
        → records_in alg (behind_continued (line ∷ lines)) ≡ records_in alg (line ∷ lines)
    by_case true e others = rw e others
    by_case false e others = rw (e, e) refl

pub all_behind : (passes : List ℕ → Bool) (lines : Lines) → list_all passes lines ≡ true
    → list_all passes (behind_continued lines) ≡ true
all_behind passes [] all = refl
all_behind passes (line ∷ lines) all = by_case (continues line) refl
    (all_behind passes lines (and_second (passes line) (list_all passes lines) all))
  where
    by_case : (b : Bool) → continues line ≡ b → list_all passes (behind_continued lines) ≡ true
        → list_all passes (behind_continued (line ∷ lines)) ≡ true
    by_case true e others = rw e others
    by_case false e others = rw e all

pub begins : (lines : Lines) (line : List ℕ) (others : Lines) → behind_continued lines ≡ line ∷ others
    → continues line ≡ false
begins [] line others is = absurd (let z : [] ≡ line ∷ others = is in cc)
begins (l ∷ lines) line others is = by_case (continues l) refl is (begins lines line others)
  where
    by_case : (b : Bool) → continues l ≡ b → behind_continued (l ∷ lines) ≡ line ∷ others
        → (behind_continued lines ≡ line ∷ others → continues line ≡ false) → continues line ≡ false
    by_case true e is others-begin =
        let there : behind_continued lines ≡ line ∷ others = rw e at is in others-begin there
    by_case false e is others-begin =
        let here : l ∷ lines ≡ line ∷ others = rw e at is in
        let same : l ≡ line = cc in
        ap continues (sym same) ∙ e

module _ (alg : Alg) (lines : Lines) (line : List ℕ) (others : Lines) (is : behind_continued lines ≡ line ∷ others)
  where
    pub next_record : records_in alg lines ≡ record_of alg line others ∷ records_in alg others
    next_record =
        let head : continues line ≡ false = begins lines line others is in
        sym (none_begun alg lines) ∙ ap (records_in alg) is ∙ rw head refl

    module _ (formed : list_all (is_record_line alg) lines ≡ true) where
      all : list_all (is_record_line alg) (line ∷ others) ≡ true
      all = subst (λ (ls : Lines). list_all (is_record_line alg) ls ≡ true) is
          (all_behind (is_record_line alg) lines formed)

      pub next_formed : list_all (is_record_line alg) others ≡ true
      next_formed = and_second (is_record_line alg line) (list_all (is_record_line alg) others) all

      pub next_sum : is_sum_line alg line ≡ true
      next_sum =
          let head : continues line ≡ false = begins lines line others is in
          rw head at (and_first (is_record_line alg line) (list_all (is_record_line alg) others) all)

pub no_record : (alg : Alg) (lines : Lines) → behind_continued lines ≡ [] → records_in alg lines ≡ []
no_record alg lines is = sym (none_begun alg lines) ∙ ap (records_in alg) is

-- ---- a line that continues a record

module _ (alg : Alg) (lines : Lines) (line : List ℕ) (others : Lines) (is : lines ≡ line ∷ others) where
  pub one_continued : continues line ≡ true
      → continued alg lines ≡ (sum_in alg (drop 1 line)).digest ∷ continued alg others
  one_continued more = ap (continued alg) is ∙ rw more refl

  pub none_continued : continues line ≡ false → continued alg lines ≡ []
  none_continued head = ap (continued alg) is ∙ rw head refl

  module _ (formed : list_all (is_record_line alg) lines ≡ true) where
    every : list_all (is_record_line alg) (line ∷ others) ≡ true
    every = subst (λ (ls : Lines). list_all (is_record_line alg) ls ≡ true) is formed

    pub continued_formed : list_all (is_record_line alg) others ≡ true
    continued_formed = and_second (is_record_line alg line) (list_all (is_record_line alg) others) every

    pub continued_sum : continues line ≡ true → is_sum_line alg (drop 1 line) ≡ true
    continued_sum more =
        rw more at (and_first (is_record_line alg line) (list_all (is_record_line alg) others) every)

-- ---- the records of a text

all_in : (alg : Alg) (lines : Lines) → AllByRecursion (λ r. r.alg ≡ alg) (records_in alg lines)
all_in alg [] = tt
all_in alg (line ∷ lines) = by_case (continues line) refl (all_in alg lines)
  where
    by_case : (b : Bool) → continues line ≡ b → AllByRecursion (λ r. r.alg ≡ alg) (records_in alg lines)
        → AllByRecursion (λ r. r.alg ≡ alg) (records_in alg (line ∷ lines))
    by_case true e others = rw e others
    by_case false e others = rw e (refl, others)

some_in : (alg : Alg) (lines : Lines) → first_continues lines ≡ None → no_line lines ≡ None
    → records_in alg lines ≡ [] → ⊥
some_in alg [] none some is = cc
some_in alg (line ∷ lines) none some is = by_case (continues line) refl none is
  where
    by_case : (b : Bool) → continues line ≡ b → first_continues (line ∷ lines) ≡ None
        → records_in alg (line ∷ lines) ≡ [] → ⊥
    by_case true e none is = let z : Some 1 ≡ None = rw e at none in cc
    by_case false e none is =
        let z : record_of alg line lines ∷ records_in alg lines ≡ [] = rw e at is in cc

unless_ok : {X : Type 0} (r : SumsRule) (o : Option ℕ) (a : Result X SumsFault) (x : X) → unless r o a ≡ Ok x
    → (o ≡ None) × (a ≡ Ok x)
unless_ok r None a x e = (refl, e)
unless_ok r (Some line) a x e = absurd (let no : ⊥ = cc in no)

abbrev stating : List RecordValue → RecordsAnswer
stating records = Ok records

same_records : (xs ys : List RecordValue) → stating xs ≡ stating ys → xs ≡ ys
same_records xs ys e = cc

module _ (alg : Alg) (text : List ℕ) (records : List RecordValue) (stated : records_of alg text ≡ stating records)
  where
    tested : (first_continues (lines_of text) ≡ None)
        × (first_number (λ l. not (is_record_line alg l)) 1 (lines_of text) ≡ None) × (no_line (lines_of text) ≡ None)
        × (first_number (λ l. not (is_well_named alg l)) 1 (lines_of text) ≡ None)
        × (stating (records_in alg (lines_of text)) ≡ stating records)
    tested =
        let first = unless_ok rule.Line _ _ records stated in
        let formed = unless_ok rule.Line _ _ records first.1 in
        let some = unless_ok rule.Empty _ _ records formed.1 in
        let named = unless_ok rule.Name _ _ records some.1 in
        (first.0, formed.0, some.0, named.0, (unless_ok rule.NameTwice _ _ records named.1).1)

    -- nothing but a name that is there twice could be wrong
    pub formed_if : IsOk (well_recorded alg text)
    formed_if =
        let (a, b, c, d, e) = tested in
        rw (a, b, c, d) refl

    same : records_in alg (lines_of text) ≡ records
    same = same_records _ _ tested.4

    -- are by its algorithm
    pub all_by : AllByRecursion (λ r. r.alg ≡ alg) records
    all_by = subst (λ (rs : List RecordValue). AllByRecursion (λ r. r.alg ≡ alg) rs) same (all_in alg (lines_of text))

    -- and there is one
    pub some_records : records ≢ []
    some_records none = some_in alg (lines_of text) tested.0 tested.2 (same ∙ none)

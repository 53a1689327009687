-- What `evidence rehash` reads in a text of sums: records, each with the digests of its data objects; or why the text
-- states none.
use Rattle.std.specs.Prelude.{◌≡◌, ◌⊎◌, ℕ, false, List, ◌∷◌, ◌++◌, Ok, Err, IsOk, IsUtf8}
use Rattle.std.specs.List.{AllByRecursion}
use Rattle.std.specs.Str.{is_utf8}
use Rattle.digests.specs.declared.algorithm.Alg.{Alg}
use Rattle.evidence_sums.specs.Records.{RecordValue, records_of, well_recorded}
use Rattle.evidence_sums.specs.declared.sums_fault.SumsFault.{SumsFault}
use Rattle.evidence_sums.specs.declared.sums_fault.SumsRule.TheVariants as rule
use Rattle.cli_failures.specs.declared.failure.Failure.{Failure}
use Rattle.cli_failures.specs.declared.failure.Failure.TheVariants as failure

-- the names are UTF-8, as a path is
abbrev pub AreNamed : (sums : List RecordValue) → Type 0
AreNamed sums = AllByRecursion (λ s. IsUtf8 s.name) sums

-- the text states these records by this algorithm, with such names
pub record AreLines (alg : Alg) (text : List ℕ) (sums : List RecordValue) : Type 0 where
  pub stated : records_of alg text ≡ Ok sums
  pub named : AreNamed sums

-- ---- why it states none

-- memory ran out, and it was not that a line or a name is refused by itself: U1, U2 and U5 were tested before
abbrev pub LacksMemory : Alg → (text : List ℕ) → Failure → Type 0
LacksMemory alg text f = (f ≡ failure.Memory) × IsOk (well_recorded alg text)

-- the text states none, by this rule, the first that it fails: U1, U2, U5 or U6
pub record StatesNone (alg : Alg) (text : List ℕ) (f : Failure) : Type 0 where
  pub fault : SumsFault
  pub first : records_of alg text ≡ Err fault
  pub told : f ≡ failure.Sums fault

-- U5 too: this is the first record whose name isn't UTF-8; no line is told
pub record IsMisnamed (sums : List RecordValue) (f : Failure) : Type 0 where
  pub front : List RecordValue
  pub misnamed : RecordValue
  pub others : List RecordValue
  pub all : sums ≡ front ++ misnamed ∷ others
  pub named : AreNamed front
  pub no_text : is_utf8 misnamed.name ≡ false
  pub told : f ≡ failure.Sums (record { rule = rule.Name; line = 0 })

abbrev pub RefusesLines : Alg → (text : List ℕ) → Failure → Type 0
RefusesLines alg text f = LacksMemory alg text f ⊎ (StatesNone alg text f
    ⊎ ((sums : List RecordValue) × (records_of alg text ≡ Ok sums) × IsMisnamed sums f))

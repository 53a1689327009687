-- What a text of sums states, and which failure its fault is.
use Rattle.std.proofs.Common.{◌≡◌, ◌⊎◌, ℕ, List, Ok, Err, refl, inl, inr}
use Rattle.std.specs.Prelude.{IsOk}
use Rattle.digests.specs.declared.algorithm.Alg.{Alg}
use Rattle.evidence_sums.specs.Records.{RecordValue, records_of, well_recorded}
use Rattle.evidence_sums.proofs.Recorded.{formed_if}
use Rattle.evidence_sums.specs.declared.sums_fault.SumsFault.{SumsFault}
use Rattle.evidence_sums.specs.declared.sums_fault.SumsRule.{SumsRule}
use Rattle.evidence_sums.specs.declared.sums_fault.SumsRule.TheVariants as rule
use Rattle.cli_failures.specs.Failures.{failure_by_sums, failure_of_sums}
use Rattle.cli_failures.specs.declared.failure.Failure.{Failure}
use Rattle.cli_failures.specs.declared.failure.Failure.TheVariants as failure
use Rattle.cli_rehashing.specs.Lines.{IsMisnamed, LacksMemory, RefusesLines, StatesNone}

module _ (alg : Alg) (text : List ℕ) where
  by_rule : (fault : SumsFault) (r : SumsRule) → fault.rule ≡ r
      → (fault ≡ record { rule = rule.OutOfMemory; line = 0 }) ⊎ (records_of alg text ≡ Err fault)
      → (fault.rule ≡ rule.OutOfMemory → IsOk (well_recorded alg text))
      → LacksMemory alg text (failure_by_sums r fault) ⊎ StatesNone alg text (failure_by_sums r fault)
  by_rule fault rule.OutOfMemory is h m = inl (refl, m is)
  by_rule fault rule.Line is (inl same) m = absurd (let z : ⊥ = cc in z)
  by_rule fault rule.Line is (inr h) m = inr (record { fault = fault; first = h; told = refl })
  by_rule fault rule.Empty is (inl same) m = absurd (let z : ⊥ = cc in z)
  by_rule fault rule.Empty is (inr h) m = inr (record { fault = fault; first = h; told = refl })
  by_rule fault rule.Name is (inl same) m = absurd (let z : ⊥ = cc in z)
  by_rule fault rule.Name is (inr h) m = inr (record { fault = fault; first = h; told = refl })
  by_rule fault rule.NameTwice is (inl same) m = absurd (let z : ⊥ = cc in z)
  by_rule fault rule.NameTwice is (inr h) m = inr (record { fault = fault; first = h; told = refl })

  -- want of memory is told as such, and any other fault is the first of the text
  pub states_none : (fault : SumsFault)
      → (fault ≡ record { rule = rule.OutOfMemory; line = 0 }) ⊎ (records_of alg text ≡ Err fault)
      → (fault.rule ≡ rule.OutOfMemory → IsOk (well_recorded alg text))
      → LacksMemory alg text (failure_of_sums fault) ⊎ StatesNone alg text (failure_of_sums fault)
  states_none fault h m = by_rule fault fault.rule refl h m

  -- where the text states records, but a name isn't text
  pub names_refused : (sums : List RecordValue) → records_of alg text ≡ Ok sums → (f : Failure)
      → (f ≡ failure.Memory) ⊎ IsMisnamed sums f → RefusesLines alg text f
  names_refused sums stated f (inl memory) = inl (memory, formed_if alg text sums stated)
  names_refused sums stated f (inr misnamed) = inr (inr (sums, stated, misnamed))

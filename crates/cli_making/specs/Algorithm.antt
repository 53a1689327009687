-- By which algorithm the sums of a command are: the one of the name that its words have; or, if they have none, that of
-- the token's imprint (RFC 3161, 2.4.2).
use Rattle.std.specs.Prelude.{◌≡◌, ⊤, ◌⊎◌, ℕ, List, Option, Some, None, Err}
use Rattle.digests.specs.declared.algorithm.Alg.{Alg}
use Rattle.digests.specs.declared.algorithm.Alg.TheVariants.{Sha256}
use Rattle.digests.specs.Algorithms.{Names, name_of}
use Rattle.tsp_types.specs.TstValue.{TstValue}
use Rattle.check_evidence.specs.StampStates.{States}
use Rattle.evidence_sums.specs.Sums.{sums_of}
use Rattle.evidence_sums.specs.declared.sums_fault.SumsRule.TheVariants as rule
use Rattle.cli_failures.specs.declared.failure.Failure.{Failure}
use Rattle.cli_values.specs.Refusals.{RefusesAlg}

-- the imprint of the token names this algorithm
pub record ImprintNames (token : List ℕ) (alg : Alg) : Type 0 where
  pub stated : TstValue
  pub states : States token stated
  pub names : Names stated.imprint.algorithm.oid stated.imprint.algorithm.parameters alg

-- line 1 of the text is no sum by this algorithm
abbrev pub FailsAtOnce : Alg → (text : List ℕ) → Type 0
FailsAtOnce alg text = sums_of alg text ≡ Err (record { rule = rule.Line; line = 1 })

-- the imprint of the token names this algorithm, and line 1 of the text is a sum by it
pub record IsOfImprint (text token : List ℕ) (alg : Alg) : Type 0 where
  pub named : ImprintNames token alg
  pub first : FailsAtOnce alg text → ⊥

-- that; or, where there is no such algorithm, it is SHA-256
abbrev pub IsByImprint : (text token : List ℕ) → Alg → Type 0
IsByImprint text token alg = IsOfImprint text token alg
    ⊎ ((alg ≡ Sha256) × ((other : Alg) → IsOfImprint text token other → ⊥))

-- the algorithm of the name, if there is one
abbrev pub IsAlgBy : (name : Option (List ℕ)) → (text token : List ℕ) → Alg → Type 0
IsAlgBy (Some name) text token alg = name ≡ name_of alg
IsAlgBy None text token alg = IsByImprint text token alg

-- some algorithm has the name, if there is one
abbrev pub MayName : (name : Option (List ℕ)) → Type 0
MayName (Some name) = (alg : Alg) × (name ≡ name_of alg)
MayName None = ⊤

-- no algorithm has the name
abbrev pub RefusesName : (name : Option (List ℕ)) → Failure → Type 0
RefusesName (Some name) f = RefusesAlg name f
RefusesName None f = ⊥

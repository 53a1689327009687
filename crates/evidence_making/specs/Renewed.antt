-- Evidence records that are renewed (RFC 4998, 5.2).
use Rattle.std.specs.Prelude.{ℕ, Bool, false, List, [], ◌∷◌, ◌++◌, Option, Some, None, if◌then◌else◌}
use Rattle.std.specs.List.{list_any}
use Rattle.der_core.specs.Values.{AlgorithmValue}
use Rattle.digests.specs.Named.{alg_named, is_alg}
use Rattle.digests.specs.declared.algorithm.Alg.{Alg}
use Rattle.evidence_types.specs.StampValue.{StampValue}
use Rattle.evidence_types.specs.EvidenceValue.{EvidenceValue}
use Rattle.evidence_making.specs.Made.{group_lists, plain, stamp_of, stamp_with}

-- whether the algorithm that was found is this one
abbrev pub is_this : Alg → Option Alg → Bool
is_this alg None = false
is_this alg (Some other) = is_alg other alg

-- whether one of these names the algorithm
abbrev pub is_named : Alg → List AlgorithmValue → Bool
is_named alg algorithms = list_any (λ a. is_this alg (alg_named a)) algorithms

-- digestAlgorithms, which hold all that are used (3.1), with this algorithm at the end, unless one names it
abbrev pub with_algorithm : Alg → List AlgorithmValue → List AlgorithmValue
with_algorithm alg algorithms = if is_named alg algorithms then algorithms else algorithms ++ plain alg ∷ []

-- with this archive time-stamp at the end of the last chain
abbrev pub with_stamp : StampValue → List (List StampValue) → List (List StampValue)
with_stamp s [] = []
with_stamp s (chain ∷ []) = (chain ++ s ∷ []) ∷ []
with_stamp s (chain ∷ next ∷ chains) = chain ∷ with_stamp s (next ∷ chains)

-- Time-Stamp Renewal (5.2): a new archive time-stamp in the last chain. All else is unchanged, in its order.
abbrev pub renewed : EvidenceValue → Alg → (values : List (List ℕ)) → (token : List ℕ) → EvidenceValue
renewed v alg values token = record v {
  algorithms = with_algorithm alg v.algorithms;
  chains = with_stamp (stamp_of alg values token) v.chains;
}

-- Hash-Tree Renewal (5.2): a new chain of one archive time-stamp, whose first list has the values of the data objects,
-- a group (step 5). All else is unchanged, in its order.
abbrev pub rehashed : EvidenceValue → Alg → (group : List (List ℕ)) → (values : List (List ℕ)) → (token : List ℕ)
    → EvidenceValue
rehashed v alg group values token = record v {
  algorithms = with_algorithm alg v.algorithms;
  chains = v.chains ++ (stamp_with alg (group_lists group values) token ∷ []) ∷ [];
}

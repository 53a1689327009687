-- What records that are renewed show (RFC 4998, 5.2 and 5.3).
use Rattle.std.specs.Prelude.{◌≡◌, ◌↔◌, ℕ, ◌<◌, true, List, [], ◌∷◌, ◌++◌, Some, All, Any, Contains, map}
use Rattle.digests.specs.Messages.{digest_of}
use Rattle.digests.specs.Algorithms.{Names}
use Rattle.digests.specs.declared.algorithm.Alg.{Alg}
use Rattle.der_core.specs.Values.{AlgorithmValue}
use Rattle.evidence_types.specs.StampValue.{StampValue}
use Rattle.evidence_types.specs.EvidenceValue.{EvidenceValue, EncodesEvidence}
use Rattle.check_evidence.specs.Grounds.{Grounds}
use Rattle.check_evidence.specs.Places.{Place, IsIn, first_of, last_of, stamps_of}
use Rattle.check_evidence.specs.StampStates.{HasTime, HasAlg}
use Rattle.check_evidence.specs.Covering.{covered_of}
use Rattle.check_evidence.specs.Standing.{Stands}
use Rattle.check_evidence.specs.Showing.{Shows}
use Rattle.judge_evidence.specs.Going.{IsLastPlace}
use Rattle.judge_evidence.specs.ShowingChains.{ShowsChains, IsRenewal}
use Rattle.judge_evidence.specs.ShowingLaws.{held_at}
use Rattle.evidence_trees.specs.HashTrees.{HashTree, AreListsOf}
use Rattle.evidence_trees.specs.Groups.{GroupValue, GoodGroup}
use Rattle.evidence_making.specs.Made.{group_lists, stamp_of, stamp_with}
use Rattle.evidence_making.specs.Laws.{TokenStands}
use Rattle.evidence_making.specs.Renewed.{is_named, renewed, rehashed}

-- the test says whether one of these names the algorithm
abbrev pub NamesAreFound : Type 0
NamesAreFound = (alg : Alg) (algorithms : List AlgorithmValue)
    → (is_named alg algorithms ≡ true) ↔ Any (λ a. Names a.oid a.parameters alg) algorithms

-- the last time-stamp of these chains stands
abbrev pub LastStands : Grounds → (data_objects : List (List ℕ)) → List (List StampValue) → Type 0
LastStands g data_objects chains = (p : Place) → IsIn chains p → IsLastPlace p → Stands g data_objects p

-- Chains that showed a moment, as of the moment of a time-stamp that renews them, still show it, where that stands.
abbrev pub ChainsShowAfter : Type 0
ChainsShowAfter = (g : Grounds) (chains renewal : List (List StampValue)) (s : StampValue)
    (data_objects : List (List ℕ)) (m n : ℕ) → IsRenewal chains s renewal → HasTime s n
    → LastStands g data_objects renewal → ShowsChains (held_at n g) chains data_objects m
    → ShowsChains g renewal data_objects m

-- So does a record that is renewed by a time-stamp, or by a hash tree. (That the moment of the new time-stamp is later
-- than that of the one before is part of its standing.)
abbrev pub ShowsStill : (octets : List ℕ) → StampValue → (chains : List (List StampValue)) → (later : List ℕ) → Type 0
ShowsStill octets s chains later = (g : Grounds) (data_objects : List (List ℕ)) (m n : ℕ) → HasTime s n
    → LastStands g data_objects chains → Shows (held_at n g) octets data_objects m → Shows g later data_objects m

abbrev pub RenewedRecordsShow : Type 0
RenewedRecordsShow = (octets later : List ℕ) (v : EvidenceValue) (alg : Alg) (values : List (List ℕ)) (token : List ℕ)
    → EncodesEvidence octets v → EncodesEvidence later (renewed v alg values token)
    → ShowsStill octets (stamp_of alg values token) (renewed v alg values token).chains later

abbrev pub RehashedRecordsShow : Type 0
RehashedRecordsShow = (octets later : List ℕ) (v : EvidenceValue) (alg : Alg) (group values : List (List ℕ))
    (token : List ℕ) → EncodesEvidence octets v → EncodesEvidence later (rehashed v alg group values token)
    → ShowsStill octets (stamp_with alg (group_lists group values) token) (rehashed v alg group values token).chains
    later

-- ---- where the new time-stamp stands

-- Of a record that is renewed by a time-stamp the new one stands, for any data objects: where the lists are those of a
-- leaf of a tree, which is the digest of the last `timeStamp`; where the algorithm of the tree is that of the chain;
-- where the last time-stamp is earlier; and where the token stands on the root of the tree.
abbrev pub RenewedStampsStand : Type 0
RenewedStampsStand = (g : Grounds) (v : EvidenceValue) (tree : HashTree) (values : List (List ℕ)) (token : List ℕ)
    (data_objects : List (List ℕ)) (m : ℕ) (front : List (List StampValue)) (before : List StampValue)
    (last first : StampValue) (k : ℕ) → v.chains ≡ front ++ (before ++ last ∷ []) ∷ []
    → AreListsOf tree (digest_of tree.algorithm last.stamp) values
    → first_of (before ++ last ∷ []) ≡ Some first → HasAlg first tree.algorithm → HasTime last k → k < m
    → TokenStands g tree.algorithm tree.root token m
    → LastStands g data_objects (renewed v tree.algorithm values token).chains

-- Of a record that is renewed by a hash tree the new one stands, for data objects: where the lists are those of a leaf
-- of a tree, which is the node of a group by its algorithm that has what a new chain must cover of each data object;
-- where the last time-stamp is earlier; and where the token stands on the root of the tree.
abbrev pub RehashedStampsStand : Type 0
RehashedStampsStand = (g : Grounds) (v : EvidenceValue) (tree : HashTree) (group : GroupValue)
    (values : List (List ℕ)) (token : List ℕ) (data_objects : List (List ℕ)) (m : ℕ) (last : StampValue) (k : ℕ)
    → GoodGroup group → group.algorithm ≡ tree.algorithm → AreListsOf tree group.node values
    → All (Contains group.values) (map (covered_of tree.algorithm v.chains) data_objects)
    → last_of (stamps_of v.chains) ≡ Some last → HasTime last k → k < m
    → TokenStands g tree.algorithm tree.root token m
    → LastStands g data_objects (rehashed v tree.algorithm group.values values token).chains

-- What records that are made show (RFC 4998, 4.2, 4.3 and 5.3).
use Rattle.std.specs.Prelude.{◌≡◌, ℕ, List, [], ◌∷◌, None, unwrap_or}
use Rattle.digests.specs.Messages.{digest_of}
use Rattle.digests.specs.declared.algorithm.Alg.{Alg}
use Rattle.evidence_types.specs.StampValue.{StampValue}
use Rattle.evidence_types.specs.EvidenceValue.{EncodesEvidence}
use Rattle.check_verdict.specs.Passing.{PassesFor}
use Rattle.check_evidence.specs.Grounds.{Grounds, terms_of, of_root}
use Rattle.check_evidence.specs.Places.{Place}
use Rattle.check_evidence.specs.StampStates.{HasTime}
use Rattle.check_evidence.specs.Standing.{IsInTime, AlgsHold, Lasts, Stands}
use Rattle.check_evidence.specs.Showing.{Shows}
use Rattle.evidence_trees.specs.HashTrees.{HashTree, IsTreeOf, AreListsOf, IsWayFrom}
use Rattle.evidence_making.specs.Made.{stamp_of, made, IsLeafRecord}

-- The token stands on a root by this algorithm, with this moment: it passes, where the root is due as its imprint; its
-- moment isn't later than the one that the user names; and its algorithms and a trusted entry hold until the end of its
-- use, which is the moment that the user names, or else its own.
pub record TokenStands (g : Grounds) (alg : Alg) (root token : List ℕ) (m : ℕ) : Type 0 where
  pub passes : PassesFor (terms_of g) token (of_root alg root) m
  pub in_time : IsInTime None g.at m
  pub algs : AlgsHold g.ends alg passes.imprint.alg passes.fits.alg (unwrap_or g.at m)
  pub lasts : Lasts g passes.signer passes.attributes m (unwrap_or g.at m)

-- the place of an archive time-stamp without others
abbrev pub alone : StampValue → Place
alone s = record { earlier = []; before = []; stamp = s; after = []; later = [] }

-- Where a token stands on the root of a tree, the archive time-stamp with it and the lists of a leaf stands, for the
-- data object of the leaf.
abbrev pub MadeStampsStand : Type 0
MadeStampsStand = (g : Grounds) (tree : HashTree) (data_object : List ℕ) (values : List (List ℕ)) (token : List ℕ)
    (m : ℕ) → AreListsOf tree (digest_of tree.algorithm data_object) values
    → TokenStands g tree.algorithm tree.root token m
    → Stands g (data_object ∷ []) (alone (stamp_of tree.algorithm values token))

-- Where that archive time-stamp stands, the record shows the moment of the token for the data object, also where no
-- other hash value may stand in the first list.
abbrev pub MadeRecordsShow : Type 0
MadeRecordsShow = (g : Grounds) (tree : HashTree) (data_object : List ℕ) (values : List (List ℕ)) (token : List ℕ)
    (octets : List ℕ) (m : ℕ) → AreListsOf tree (digest_of tree.algorithm data_object) values
    → EncodesEvidence octets (made tree.algorithm values token)
    → Stands g (data_object ∷ []) (alone (stamp_of tree.algorithm values token))
    → HasTime (stamp_of tree.algorithm values token) m → Shows g octets (data_object ∷ []) m

-- The octets show the moment of the token for the data object of a leaf of a tree by this algorithm, if these are the
-- values of the leaf's lists and the token stands on the root of the tree.
abbrev pub ShowsLeaf : Alg → (values : List (List ℕ)) → (token octets : List ℕ) → Type 0
ShowsLeaf alg values token octets = (g : Grounds) (tree : HashTree) (data_object : List ℕ) (m : ℕ)
    → tree.algorithm ≡ alg → AreListsOf tree (digest_of alg data_object) values
    → TokenStands g alg tree.root token m → Shows g octets (data_object ∷ []) m

-- A leaf of a tree has one record with a token at most.
abbrev pub LeavesHaveOneRecord : Type 0
LeavesHaveOneRecord = (alg : Alg) (digests : List (List ℕ)) (tree : HashTree) (leaf token octets others : List ℕ)
    → IsTreeOf alg digests tree → IsLeafRecord tree leaf token octets → IsLeafRecord tree leaf token others
    → octets ≡ others

-- The octets are the record of a leaf, if these are the values on the way up from it in a tree by this algorithm.
abbrev pub IsOfLeaf : Alg → (values : List (List ℕ)) → (token octets : List ℕ) → Type 0
IsOfLeaf alg values token octets = (tree : HashTree) (leaf : List ℕ) → tree.algorithm ≡ alg
    → IsWayFrom tree leaf values → IsLeafRecord tree leaf token octets

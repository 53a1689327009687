-- Evidence records that are made (RFC 4998, 3.1, 4.1 and 4.2).
use Rattle.std.specs.Prelude.{ℕ, List, [], ◌∷◌, Option, Some, None, map, drop}
use Rattle.der_core.specs.Values.{AlgorithmValue}
use Rattle.digests.specs.Algorithms.{contents_of}
use Rattle.digests.specs.declared.algorithm.Alg.{Alg}
use Rattle.evidence_types.specs.StampValue.{StampValue}
use Rattle.evidence_types.specs.EvidenceValue.{EvidenceValue, EncodesEvidence}
use Rattle.evidence_trees.specs.HashTrees.{HashTree, IsWayFrom, each_alone}

-- the identifier of an algorithm, without parameters (RFC 5754, 2)
abbrev pub plain : Alg → AlgorithmValue
plain alg = record { oid = contents_of alg; parameters = None }

-- lists of these values, each alone (4.2); if there is none, the field is absent (4.1)
abbrev pub lists_of : (values : List (List ℕ)) → Option (List (List (List ℕ)))
lists_of [] = None
lists_of (v ∷ values) = each_alone (v ∷ values)

-- the lists where the first of these values is the node of a group (4.2): the values of the group in ascending order,
-- and then the other values, each alone
abbrev pub group_lists : (group : List (List ℕ)) → (values : List (List ℕ)) → Option (List (List (List ℕ)))
group_lists group values = Some (group ∷ map (λ v. v ∷ []) (drop 1 values))

-- an archive time-stamp: digestAlgorithm, no attributes, these lists, and the token, which is the whole timeStamp (4.1)
abbrev pub stamp_with : Alg → (lists : Option (List (List (List ℕ)))) → (token : List ℕ) → StampValue
stamp_with alg lists token = record {
  algorithm = Some (plain alg);
  attributes = None;
  lists = lists;
  stamp = token;
}

-- with lists of one value each
abbrev pub stamp_of : Alg → (values : List (List ℕ)) → (token : List ℕ) → StampValue
stamp_of alg values token = stamp_with alg (lists_of values) token

-- a record of one chain of one archive time-stamp (3.1, 5.1)
abbrev pub made : Alg → (values : List (List ℕ)) → (token : List ℕ) → EvidenceValue
made alg values token = record {
  algorithms = plain alg ∷ [];
  crypto_infos = None;
  encryption = None;
  chains = (stamp_of alg values token ∷ []) ∷ [];
}

-- the record of a leaf of a tree, with a token: its lists are the leaf and the neighbours on its way up, each alone
pub record IsLeafRecord (tree : HashTree) (leaf token octets : List ℕ) : Type 0 where
  pub way : List (List ℕ)
  pub is_way : IsWayFrom tree leaf way
  pub encoded : EncodesEvidence octets (made tree.algorithm way token)

-- Worked rows: lists of hash values, what they cover, and their roots. The figure is that of RFC 4998, 4.2, as Bouncy
-- Castle 1.72 made it, and its root is the imprint of the token in that record; the other hash values were computed by
-- Python's hashlib over octets that were put in order by hand.
use Rattle.std.specs.Prelude.{◌≡◌, ℕ, List, [], ◌∷◌, Option, Some, None, codes}
use Rattle.der_core.specs.Hex.{hex}
use Rattle.digests.specs.declared.algorithm.Alg.TheVariants.{Sha256}
use Rattle.evidence_types.specs.StampValue.{StampValue}
use Rattle.evidence_types.specs.EvidenceRows.{bare, empty, of_document, of_neighbour, of_others}
use Rattle.check_evidence.specs.Roots.{IsAscending, IsRoot, IsCovered, HasNoOthers}
use Rattle.check_evidence.specs.Places.{Place}
use Rattle.check_evidence.specs.Covering.{covered_at}

abbrev pub Lists : Type 0
Lists = Option (List (List (List ℕ)))

-- the document with its neighbour, which are a group of data, and then the third document
abbrev pub figure : Lists
figure = Some ((of_document ∷ of_neighbour ∷ []) ∷ (of_others ∷ []) ∷ [])

-- the same with the first list in falling order
abbrev pub turned : Lists
turned = Some ((of_neighbour ∷ of_document ∷ []) ∷ (of_others ∷ []) ∷ [])

abbrev pub imprinted : List ℕ
imprinted = hex "e3207f441e5eef9ef4178f5b643624fbe4cd2d8776dd11a4213076ec612cebd5"

abbrev pub aa : List ℕ
aa = hex "aa"

abbrev pub bb : List ℕ
bb = hex "bb"

pub record RootRows : Type 0 where
  pub of_figure : IsRoot Sha256 figure (of_document ∷ []) imprinted
  pub of_turned : IsRoot Sha256 turned (of_document ∷ []) imprinted
  -- one value is its own node
  pub one_value : IsRoot Sha256 (Some ((aa ∷ []) ∷ [])) (aa ∷ []) aa
  -- several are hashed in ascending order
  pub two_values : IsRoot Sha256 (Some ((bb ∷ aa ∷ []) ∷ [])) (aa ∷ [])
      (hex "d798d1fac6bd4bb1c11f50312760351013379a0ab6f0a8c0af8a506b96b2525a")
  -- a later list that has the value already: it joins it all the same
  pub standing_already : IsRoot Sha256 (Some ((aa ∷ []) ∷ (aa ∷ bb ∷ []) ∷ [])) (aa ∷ [])
      (hex "e99d68f1cd943420dbd31dd648b04c09d5cd1c908dac6526a650b22db71eb605")
  -- no lists: the root is the one value, which may occur twice; of two values there is none
  pub no_lists : IsRoot Sha256 None (aa ∷ []) aa
  pub no_lists_twice : IsRoot Sha256 None (aa ∷ aa ∷ []) aa
  pub no_lists_two : (root : List ℕ) → IsRoot Sha256 None (aa ∷ bb ∷ []) root → ⊥

pub record OrderRows : Type 0 where
  -- the first list of the figure stands in ascending order, and turned round it doesn't
  pub of_figure : IsAscending (of_document ∷ of_neighbour ∷ [])
  pub of_turned : IsAscending (of_neighbour ∷ of_document ∷ []) → ⊥
  -- one value does, and one that stands twice
  pub one_value : IsAscending (aa ∷ [])
  pub standing_twice : IsAscending (aa ∷ aa ∷ bb ∷ [])
  -- octets have no sign, and a value is before one that begins with it
  pub without_sign : IsAscending (hex "7f" ∷ hex "80" ∷ [])
  pub beginning : IsAscending (aa ∷ hex "aa00" ∷ [])
  pub beginning_last : IsAscending (hex "aa00" ∷ aa ∷ []) → ⊥

pub record CoveredRows : Type 0 where
  -- of the figure: the document, its neighbour, both; not the third document
  pub of_one : IsCovered figure (of_document ∷ [])
  pub of_group : IsCovered figure (of_neighbour ∷ of_document ∷ [])
  pub of_third : IsCovered figure (of_others ∷ []) → ⊥
  -- nothing else stands in its first list than the group, and the neighbour beside the document
  pub whole_group : HasNoOthers figure (of_neighbour ∷ of_document ∷ [])
  pub sibling : HasNoOthers figure (of_document ∷ []) → ⊥
  -- without lists one value is covered, and two are not
  pub no_lists : IsCovered None (aa ∷ [])
  pub no_lists_two : IsCovered None (aa ∷ bb ∷ []) → ⊥

-- a stamp of which the time-stamp alone is present, with these before it
abbrev pub place : (earlier : List (List StampValue)) → (before : List StampValue) → Place
place earlier before = record { earlier = earlier; before = before; stamp = bare empty; after = []; later = [] }

-- What must be covered of the data object abc.
pub record CoveringRows : Type 0 where
  -- in the first chain: its hash value
  pub first : covered_at Sha256 (codes "abc" ∷ []) (place [] [])
      ≡ hex "ba7816bf8f01cfea414140de5dae2223b00361a396177a9cb410ff61f20015ad" ∷ []
  -- by a renewed stamp: the hash value of the stamp before, 3000
  pub renewed : covered_at Sha256 (codes "abc" ∷ []) (place [] (bare empty ∷ []))
      ≡ hex "e4f60d0aa6d7f3d3b6a6494b1c861b99f649c6f9ec51abaf201b20f297327c95" ∷ []
  -- in a later chain: of its hash value and then that of the chains before, 3006 3004 3002 3000
  pub later : covered_at Sha256 (codes "abc" ∷ []) (place ((bare empty ∷ []) ∷ []) [])
      ≡ hex "155a728468f7774775a113d0c36229d4b69841aee7282efc31cf329231ae6fc8" ∷ []

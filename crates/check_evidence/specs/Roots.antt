-- Roots of lists of hash values (RFC 4998, 4.2 and 4.3). Facts in no order.
use Rattle.std.specs.Prelude.{◌≡◌, ⊤, ℕ, false, List, [], ◌∷◌, Option, Some, None, All, Contains, IsPermutation}
use Rattle.std.specs.List.{concat}
use Rattle.der_core.specs.Lists.{is_less}
use Rattle.digests.specs.Messages.{digest_of}
use Rattle.digests.specs.declared.algorithm.Alg.{Alg}

-- "binary ascending order" (4.2, step 4): no value is before the one that it follows, octet by octet, without sign; a
-- value is before one that begins with it
abbrev pub IsAscending : List (List ℕ) → Type 0
IsAscending [] = ⊤
IsAscending (v ∷ []) = ⊤
IsAscending (v ∷ w ∷ values) = (is_less w v ≡ false) × IsAscending (w ∷ values)

-- these are the values in ascending order
pub record InOrder (values ordered : List (List ℕ)) : Type 0 where
  pub are : IsPermutation values ordered
  pub ascending : IsAscending ordered

-- the hash value of a group of values: of their octets in ascending order, one after the other (4.2, steps 3 and 4;
-- 4.3, step 3)
pub record IsGroupOf (alg : Alg) (values : List (List ℕ)) (node : List ℕ) : Type 0 where
  pub ordered : List (List ℕ)
  pub in_order : InOrder values ordered
  pub hashed : node ≡ digest_of alg (concat ordered)

-- the node of hash values: one by itself is its own node (4.2, step 4), several are a group
abbrev pub IsNode : Alg → List (List ℕ) → List ℕ → Type 0
IsNode alg [] node = ⊥
IsNode alg (v ∷ []) node = node ≡ v
IsNode alg (v ∷ w ∷ values) node = IsGroupOf alg (v ∷ w ∷ values) node

-- the root of a node and the lists after it: the node joins the values of the next list, whether or not it stands among
-- them, and they have the next node (4.3, step 3)
abbrev pub IsRootAfter : Alg → (node : List ℕ) → (lists : List (List (List ℕ))) → (root : List ℕ) → Type 0
IsRootAfter alg node [] root = root ≡ node
IsRootAfter alg node (values ∷ lists) root = (next : List ℕ) × IsNode alg (node ∷ values) next
    × IsRootAfter alg next lists root

-- the values are one, which may occur more than once
pub record AreOne (values : List (List ℕ)) (value : List ℕ) : Type 0 where
  pub some : Contains values value
  pub only : All (λ v. v ≡ value) values

-- The root of the lists of an archive time-stamp (reducedHashtree) that covers these values. Without lists the
-- time-stamp is on one value, and that is the root (4.2; 4.3, step 4).
abbrev pub IsRoot : Alg → (lists : Option (List (List (List ℕ)))) → (covered : List (List ℕ)) → (root : List ℕ)
    → Type 0
IsRoot alg None covered root = AreOne covered root
IsRoot alg (Some []) covered root = ⊥
IsRoot alg (Some (values ∷ lists)) covered root = (first : List ℕ) × IsNode alg values first
    × IsRootAfter alg first lists root

-- the values are covered: each stands in the first list (4.3, step 2; of a group of data 4.3 again, 5.3); without lists
-- they are one value
abbrev pub IsCovered : (lists : Option (List (List (List ℕ)))) → (covered : List (List ℕ)) → Type 0
IsCovered None covered = (value : List ℕ) × AreOne covered value
IsCovered (Some []) covered = ⊥
IsCovered (Some (values ∷ lists)) covered = All (Contains values) covered

-- nothing else stands in the first list
abbrev pub HasNoOthers : (lists : Option (List (List (List ℕ)))) → (covered : List (List ℕ)) → Type 0
HasNoOthers None covered = ⊤
HasNoOthers (Some []) covered = ⊤
HasNoOthers (Some (values ∷ lists)) covered = All (Contains covered) values

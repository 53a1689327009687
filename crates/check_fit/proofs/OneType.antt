-- The attributes of a type, from the first of them.
use Rattle.std.proofs.Common.{◌≡◌, ◌≢◌, ℕ, Bool, true, false, List, [], ◌∷◌, ◌++◌, None, refl, sym, ap, ◌∙◌}
use Rattle.std.specs.Prelude.{IsTrue, ◌↔◌}
use Rattle.der_core.specs.Lists.{some, only, is_same}
use Rattle.der_core.proofs.Encoded.{same}
use Rattle.der_core.proofs.SameOctets.{is_then_same}
use Rattle.cms_types.specs.AttributeValue.{AttributeValue}
use Rattle.cms_types.specs.OfType.{has_type, NoneHas, IsFirstOf}
use Rattle.check_fit.specs.Attributes.{occurrences}

differs : (x y : List ℕ) → x ≢ y → is_same x y ≡ false
differs x y other = go (is_same x y) refl
  where
    go : (b : Bool) → is_same x y ≡ b → b ≡ false
    go true e = absurd (other (same x y e))
    go false e = refl

pub none_occurs : (xs : List AttributeValue) (id : List ℕ) → NoneHas id xs → occurrences xs id ≡ []
none_occurs [] id h = refl
none_occurs (a ∷ xs) id h = rw (differs a.id id h.0) (none_occurs xs id h.1)

passed : (before xs : List AttributeValue) (id : List ℕ) → NoneHas id before
    → occurrences (before ++ xs) id ≡ occurrences xs id
passed [] xs id h = refl
passed (a ∷ before) xs id h = rw (differs a.id id h.0) (passed before xs id h.1)

-- the first and those of its type behind it
pub first_occurs : (xs : List AttributeValue) (id : List ℕ) (a : AttributeValue) (behind : List AttributeValue)
    → IsFirstOf id xs a behind
    → occurrences xs id ≡ a ∷ occurrences behind id
first_occurs xs id a behind is =
    ap (λ (ys : List AttributeValue). occurrences ys id) is.parts ∙ passed is.before (a ∷ behind) id is.others
    ∙ rw (is_then_same a.id id is.is_type) refl

pub has_none : (xs : List AttributeValue) (id : List ℕ) → some (has_type id) xs ≡ false → occurrences xs id ≡ []
has_none [] id e = refl
has_none (a ∷ xs) id e = go (is_same a.id id) refl (λ k. has_none xs id k)
  where
    go : (b : Bool) → is_same a.id id ≡ b → (some (has_type id) xs ≡ false → occurrences xs id ≡ [])
        → occurrences (a ∷ xs) id ≡ []
    go true k h = let z : true ≡ false = rw k at e in absurd cc
    go false k h = rw k (h (rw k at e))

pub has_more : (xs : List AttributeValue) (id : List ℕ) (a : AttributeValue) → some (has_type id) xs ≡ true
    → only (a ∷ occurrences xs id) ≡ None
has_more [] id a e = absurd cc
has_more (b ∷ xs) id a e = go (is_same b.id id) refl (λ k. has_more xs id a k)
  where
    go : (c : Bool) → is_same b.id id ≡ c → (some (has_type id) xs ≡ true → only (a ∷ occurrences xs id) ≡ None)
        → only (a ∷ occurrences (b ∷ xs) id) ≡ None
    go true k h = rw k refl
    go false k h = rw k (h (rw k at e))

occurs_then : (xs : List AttributeValue) (id : List ℕ) → some (has_type id) xs ≡ true → occurrences xs id ≢ []
occurs_then [] id e = absurd cc
occurs_then (a ∷ xs) id e = go (is_same a.id id) refl (λ k. occurs_then xs id k)
  where
    go : (b : Bool) → is_same a.id id ≡ b → (some (has_type id) xs ≡ true → occurrences xs id ≢ [])
        → occurrences (a ∷ xs) id ≢ []
    go true k h = rw k (λ z. let y = z in cc)
    go false k h = rw k (h (rw k at e))

-- an attribute of the type is there exactly if one occurs
pub has_occurs : (xs : List AttributeValue) (id : List ℕ) (r : Bool) → r ≡ some (has_type id) xs
    → IsTrue r ↔ (occurrences xs id ≢ [])
has_occurs xs id r e = (λ h. occurs_then xs id (sym e ∙ h), λ k. e ∙ go (some (has_type id) xs) refl k)
  where
    go : (b : Bool) → some (has_type id) xs ≡ b → occurrences xs id ≢ [] → b ≡ true
    go true z k = refl
    go false z k = absurd (k (has_none xs id z))

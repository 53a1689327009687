-- A walk along a list: what has been shown of the front of it, behind which the others are left.
use Rattle.std.proofs.Common.{◌≡◌, List, [], ◌∷◌, ◌++◌, sym, ap, ◌∙◌, subst, append_assoc, append-nil}
use Rattle.std.specs.List.{AllByRecursion}

pub record Walked {A : Type 0} (P : List A → Type 0) (left all : List A) : Type 0 where
  pub front : List A
  pub is : all ≡ front ++ left
  pub so : P front

-- of the first that is left, and of the others
pub first_of : {A : Type 0} (R : A → Type 0) (x : A) (left others : List A) → left ≡ x ∷ others → AllByRecursion R left
    → R x × AllByRecursion R others
first_of {A} R x left others is all = subst (λ (xs : List A). AllByRecursion R xs) is all

module _ {A : Type 0} (P : List A → Type 0) (left all : List A) where
  pub begins : left ≡ all → P [] → Walked P left all
  begins same p = record { front = []; is = sym same; so = p }

  pub ends : left ≡ [] → Walked P left all → P all
  ends none w =
      let whole : all ≡ w.front = w.is ∙ ap (λ (l : List A). w.front ++ l) none ∙ append-nil w.front in
      subst P (sym whole) w.so

  module _ (x : A) (others : List A) (next : left ≡ x ∷ others) (w : Walked P left all) where
    pub along : all ≡ w.front ++ x ∷ others
    along = w.is ∙ ap (λ (l : List A). w.front ++ l) next

    pub goes_on : (Q : List A → Type 0) → Q (w.front ++ x ∷ []) → Walked Q others all
    goes_on Q q = record {
      front = w.front ++ x ∷ [];
      is = along ∙ sym (append_assoc w.front (x ∷ []) others);
      so = q;
    }

-- Lists one behind the other: their members, and that there is one of them.
use Rattle.std.proofs.Common.{◌≡◌, zero, suc, List, [], ◌∷◌, ◌++◌, refl, sym, ap, subst, ◌∙◌, arith, inl, inr, ◌⊎◌}
use Rattle.std.specs.Prelude.{Contains}
use Rattle.std.specs.List.{AllByRecursion}
use Rattle.std.proofs.lemmas.List.Elements.{Contains-append_left, Contains-append_right, Contains-append_cases}
use Rattle.check_questions.specs.FileQuestions.{Joined, InOrder, OneOrNone}

pub in_none : {B : Type 0} (y : B) → Contains [] y → ⊥
in_none y (i, within, is) = absurd (omega (arith, within))

pub in_one : {B : Type 0} (x y : B) → Contains (x ∷ []) y → y ≡ x
in_one x y (zero, within, is) = sym is
in_one x y (suc i, within, is) = absurd (omega (arith, within))

pub is_first : {B : Type 0} (x : B) (xs : List B) → Contains (x ∷ xs) x
is_first x xs = (0, omega arith, refl)

-- a member is in the first part or in the others
pub in_joined : {B : Type 0} (First Others : List B → Type 0) (ys : List B) (y : B) (j : Joined First Others ys)
    → Contains ys y
    → Contains j.first y ⊎ Contains j.others y
in_joined {B} First Others ys y j c =
    Contains-append_cases j.first j.others y (subst (λ (l : List B). Contains l y) j.is c)

pub from_first : {B : Type 0} (First Others : List B → Type 0) (ys : List B) (y : B) (j : Joined First Others ys)
    → Contains j.first y → Contains ys y
from_first {B} First Others ys y j c =
    subst (λ (l : List B). Contains l y) (sym j.is) (Contains-append_left j.first j.others y c)

pub from_others : {B : Type 0} (First Others : List B → Type 0) (ys : List B) (y : B) (j : Joined First Others ys)
    → Contains j.others y → Contains ys y
from_others {B} First Others ys y j c =
    subst (λ (l : List B). Contains l y) (sym j.is) (Contains-append_right j.first j.others y c)

-- where a member is
pub record Found {A B : Type 0} (Has : A → List B → Type 0) (xs : List A) (y : B) : Type 0 where
  pub item : A
  pub among : Contains xs item
  pub part : List B
  pub has : Has item part
  pub contains : Contains part y

pub find : {A B : Type 0} (Has : A → List B → Type 0) (xs : List A) (ys : List B) (y : B) → InOrder Has xs ys
    → Contains ys y → Found Has xs y
find {A} {B} Has [] ys y e c = absurd (in_none y (subst (λ (l : List B). Contains l y) e c))
find Has (x ∷ xs) ys y j c = elim (in_joined (Has x) (InOrder Has xs) ys y j c) [
  | inl here ↦ record { item = x; among = is_first x xs; part = j.first; has = j.is_first; contains = here }
  | inr there ↦ behind (find Has xs j.others y j.are_others there)
]
  where
    behind : Found Has xs y → Found Has (x ∷ xs) y
    behind f = record {
      item = f.item;
      among = (suc f.among.0, let w = f.among.1 in omega arith, f.among.2);
      part = f.part;
      has = f.has;
      contains = f.contains;
    }

pub find_back : {A B : Type 0} (Has : A → List B → Type 0) (xs : List A) (ys : List B) (x : A) (y : B)
    → ((part : List B) → Has x part → Contains part y) → Contains xs x → InOrder Has xs ys → Contains ys y
find_back Has [] ys x y f c j = absurd (in_none x c)
find_back {A} {B} Has (z ∷ xs) ys x y f (zero, within, is) j = from_first (Has z) (InOrder Has xs) ys y j
    (f j.first (subst (λ (a : A). Has a j.first) is j.is_first))
find_back {A} {B} Has (z ∷ xs) ys x y f (suc i, within, is) j = from_others (Has z) (InOrder Has xs) ys y j
    (find_back Has xs j.others x y f (i, omega (arith, within), is) j.are_others)

-- ---- one list

pub one_joined : {B : Type 0} (First Others : List B → Type 0) (ys zs : List B)
    → ((a b : List B) → First a → First b → a ≡ b)
    → ((a b : List B) → Others a → Others b → a ≡ b) → Joined First Others ys → Joined First Others zs → ys ≡ zs
one_joined First Others ys zs one one' j k =
    j.is ∙ (λ i. one j.first k.first j.is_first k.is_first i ++ one' j.others k.others j.are_others k.are_others i)
    ∙ sym k.is

pub one_list : {A B : Type 0} (Has : A → List B → Type 0) → ((x : A) (a b : List B) → Has x a → Has x b → a ≡ b)
    → (xs : List A) (ys zs : List B)
    → InOrder Has xs ys → InOrder Has xs zs → ys ≡ zs
one_list Has one [] ys zs j k = j ∙ sym k
one_list Has one (x ∷ xs) ys zs j k = one_joined (Has x) (InOrder Has xs) ys zs (one x) (one_list Has one xs) j k

pub one_or_none : {B : Type 0} (Is : B → Type 0) → ((x y : B) → Is x → Is y → x ≡ y) → (ys zs : List B)
    → OneOrNone Is ys → OneOrNone Is zs → ys ≡ zs
one_or_none {B} Is one ys zs (inl h) (inl g) = h.2 ∙ ap (λ (x : B). x ∷ []) (one h.0 g.0 h.1 g.1) ∙ sym g.2
one_or_none Is one ys zs (inl h) (inr g) = absurd (g.0 h.0 h.1)
one_or_none Is one ys zs (inr h) (inl g) = absurd (h.0 g.0 g.1)
one_or_none Is one ys zs (inr h) (inr g) = h.1 ∙ sym g.1

-- ---- some list

pub some_list : {A B : Type 0} (P : A → Type 0) (Has : A → List B → Type 0)
    → ((x : A) → P x → (part : List B) × Has x part) → (xs : List A)
    → AllByRecursion P xs → (ys : List B) × InOrder Has xs ys
some_list P Has some [] all = ([], refl)
some_list P Has some (x ∷ xs) all =
    let first = some x all.0 in
    let others = some_list P Has some xs all.1 in (
      first.0 ++ others.0,
      record { first = first.0; is_first = first.1; others = others.0; are_others = others.1; is = refl },
    )

-- The type of an attribute, and the attributes before the first of a type.
use Rattle.std.proofs.Common.{◌≡◌, ◌≢◌, ℕ, true, false, List, [], ◌∷◌, Result, Ok, Err, sym, ap, subst, ◌∙◌, inl, inr}
use Rattle.der_core.specs.declared.fault.Fault.{Fault}
use Rattle.der_core.specs.Lists.{is_same}
use Rattle.der_core.specs.declared.fault.Kind.TheVariants.{Oid}
use Rattle.der_core.specs.Contents.{is_oid}
use Rattle.der_core.specs.Reading.{fault, Spot, within, enter_at, oid_in, ◌then◌, whole_of, end_at}
use Rattle.der_core.specs.Results.{◌>>=◌}
use Rattle.der_core.proofs.ReadLengths.{ok_is, ok_fst, ok_snd, chosen}
use Rattle.der_core.proofs.Results.{bind_ok}
use Rattle.der_core.proofs.Encoded.{same}
use Rattle.der_core.proofs.SameOctets.{is_then_same}
use Rattle.cms_types.specs.AttributeReading.{attribute_from, values_in, attribute_in}
use Rattle.cms_types.specs.AttributeValue.{AttributeValue}
use Rattle.cms_types.specs.OfType.{NoneHas, IsFirstOf, IsAtValues}

-- ---- the type of an attribute whose contents are here

type_contents : (s : Spot) (b : List ℕ) → oid_in s ≡ Ok b → b ≡ s.rest
type_contents s b e = elim (chosen (is_oid s.rest) (Ok s.rest) (Err (fault Oid s.pos)) (Ok b) e) [
  | inl h ↦ sym (ok_is s.rest b h.1)
  | inr h ↦ absurd (let z = h.1 in cc)
]

-- what a reading that succeeds has read first
pub whole_read : {A : Type 0} (parts : Spot → Result (A × Spot) Fault) (s : Spot) (v : A) → whole_of parts s ≡ Ok v
    → (x : A × Spot) × (parts s ≡ Ok x) × (x.0 ≡ v)
whole_read parts s v e =
    let all = bind_ok (parts s) (λ x. end_at x.1 >>= λ u. Ok x.0) v e in
    let end = bind_ok (end_at all.0.1) (λ u. Ok all.0.0) v all.2 in
    (all.0, all.1, ok_is all.0.0 v end.2)

pub both_read : {A B : Type 0} (first : Spot → Result (A × Spot) Fault) (second : Spot → Result (B × Spot) Fault)
    (s : Spot) (y : (A × B) × Spot)
    → (first then second) s ≡ Ok y → (x : A × Spot) × (first s ≡ Ok x) × (x.0 ≡ y.0.0) × (second x.1 ≡ Ok (y.0.1, y.1))
both_read {A = A} {B = B} first second s y e =
    let one = bind_ok (first s) (λ x. second x.1 >>= λ z. Ok ((x.0, z.0), z.1)) y e in
    let two = bind_ok (second one.0.1) (λ z. Ok ((one.0.0, z.0), z.1)) y one.2 in
    let is : ((one.0.0, two.0.0), two.0.1) ≡ y = ok_is ((one.0.0, two.0.0), two.0.1) y two.2 in
    (one.0, one.1, ap (λ (p : (A × B) × Spot). p.0.0) is, two.1 ∙ ap (λ (p : (A × B) × Spot). Ok (p.0.1, p.1)) is)

pub contents_read : {A : Type 0} (tag : ℕ) (inside : Spot → Result A Fault) (s : Spot) (y : A × Spot)
    → within tag inside s ≡ Ok y
    → (x : Spot × Spot) × (enter_at tag s ≡ Ok x) × (inside x.0 ≡ Ok y.0) × (y.1 ≡ x.1)
contents_read tag inside s y e =
    let entered = bind_ok (enter_at tag s) (λ x. inside x.0 >>= λ a. Ok (a, x.1)) y e in
    let value = bind_ok (inside entered.0.0) (λ a. Ok (a, entered.0.1)) y entered.2 in (
      entered.0,
      entered.1,
      value.1 ∙ ap Ok (ok_fst (value.0, entered.0.1) y value.2),
      sym (ok_snd (value.0, entered.0.1) y value.2),
    )

-- an attribute that is read is an element whose contents are its type, and one that contains its values
pub type_first : (s : Spot) (a : AttributeValue) → attribute_in s ≡ Ok a
    → (y : Spot × Spot) × (enter_at 0x06 s ≡ Ok y) × (a.id ≡ y.0.rest) × IsAtValues a y.1
unfolding attribute_in
type_first s a e =
    let made = bind_ok (whole_of (within 0x06 oid_in then within 0x31 values_in) s) (λ x. Ok (attribute_from x)) a e in
    let is : attribute_from made.0 ≡ a = ok_is (attribute_from made.0) a made.2 in
    let all = whole_read (within 0x06 oid_in then within 0x31 values_in) s made.0 made.1 in
    let both = both_read (within 0x06 oid_in) (within 0x31 values_in) s all.0 all.1 in
    let id = contents_read 0x06 oid_in s both.0 both.1 in
    let values = contents_read 0x31 values_in both.0.1 (all.0.0.1, all.0.1) both.3 in
    let named : a.id ≡ id.0.0.rest = sym (ap (λ (b : AttributeValue). b.id) is) ∙ sym (ap (λ p. p.0) all.2) ∙ sym both.2
    ∙ type_contents id.0.0 both.0.0 id.2 in
    let valued : values_in values.0.0 ≡ Ok a.values = values.2 ∙ ap (λ p. Ok p.1) all.2
    ∙ ap (λ (b : AttributeValue). Ok b.values) is in
    (id.0, id.1, named, subst (IsAtValues a) id.3 (values.0, values.1, valued))

-- whatever was entered at the front is the type
pub type_is : (s : Spot) (y : Spot × Spot) (a : AttributeValue) → enter_at 0x06 s ≡ Ok y → attribute_in s ≡ Ok a
    → (a.id ≡ y.0.rest) × IsAtValues a y.1
type_is s y a e k =
    let t = type_first s a k in
    subst (λ (z : Spot × Spot). (a.id ≡ z.0.rest) × IsAtValues a z.1) (ok_is t.0 y (sym t.1 ∙ e)) (t.2, t.3)

pub type_there : (s : Spot) (f : Fault) (a : AttributeValue) → enter_at 0x06 s ≡ Err f → attribute_in s ≡ Ok a → ⊥
type_there s f a e k = let t = type_first s a k in let z = sym e ∙ t.1 in cc

-- ---- attributes that are passed over

-- what holds of the attributes that are left holds of all
pub record Passes (id : List ℕ) (xs left : List AttributeValue) : Type 0 where
  pub found : (a : AttributeValue) (behind : List AttributeValue) → IsFirstOf id left a behind
      → IsFirstOf id xs a behind
  pub none : NoneHas id left → NoneHas id xs

pub passes_none : (id : List ℕ) (xs : List AttributeValue) → Passes id xs xs
passes_none id xs = record { found = λ a behind h. h; none = λ h. h }

differs : (x y : List ℕ) → is_same x y ≡ false → x ≢ y
differs x y e is = let z = sym e ∙ is_then_same x y is in cc

pub passes_one : (id : List ℕ) (xs left others : List AttributeValue) (b : AttributeValue) → left ≡ b ∷ others
    → is_same b.id id ≡ false → Passes id xs left
    → Passes id xs others
passes_one id xs left others b at other h = record {
  found = λ a behind is. h.found a behind (record {
    before = b ∷ is.before;
    parts = at ∙ ap (λ (ys : List AttributeValue). b ∷ ys) is.parts;
    others = (differs b.id id other, is.others);
    is_type = is.is_type;
  });
  none = λ is. h.none (subst (λ (ys : List AttributeValue). NoneHas id ys) (sym at) (differs b.id id other, is));
}

pub passes_end : (id : List ℕ) (xs left : List AttributeValue) → left ≡ [] → Passes id xs left → NoneHas id xs
passes_end id xs left at h = h.none (subst (λ (ys : List AttributeValue). NoneHas id ys) (sym at) tt)

pub passes_found : (id : List ℕ) (xs left others : List AttributeValue) (a : AttributeValue) → left ≡ a ∷ others
    → is_same a.id id ≡ true → Passes id xs left
    → IsFirstOf id xs a others
passes_found id xs left others a at is h =
    h.found a others (record { before = []; parts = at; others = tt; is_type = same a.id id is })

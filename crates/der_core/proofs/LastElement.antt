-- The last part of a body that is kept whole is read as one whose contents are kept.
use Rattle.std.proofs.Common.{◌≡◌, ℕ, ◌+◌, true, false, eqb, List, [], ◌++◌, length, Option, Some, None, Result, Ok}
use Rattle.std.proofs.Common.{Err, refl, sym, ap, subst, ◌∙◌, arith, inl}
use Rattle.std.proofs.Common.{inr}
use Rattle.std.specs.Prelude.{IfSome, option_map}
use Rattle.std.proofs.lemmas.Bool.{eq-eqb}
use Rattle.der_core.specs.declared.fault.Fault.{Fault}
use Rattle.der_core.specs.Element.{is_tag, el, IsBytes, has_tag}
use Rattle.der_core.specs.Values.{optional, optional_whole, HasLength}
use Rattle.der_core.specs.Form.{Form, opaque}
use Rattle.der_core.specs.Encoding.{Encodes, anything, next, absent}
use Rattle.der_core.specs.Grammar.{opt}
use Rattle.der_core.specs.Reading.{Spot, spot, Taken, expect_at, enter_at, element_at, none_at, last, any_at}
use Rattle.der_core.specs.LastElement.{last_element}
use Rattle.der_core.specs.Results.{◌>>=◌}
use Rattle.der_core.proofs.ReadLengths.{ok_is, chosen}
use Rattle.der_core.proofs.Results.{bind_ok, bind_err}
use Rattle.der_core.proofs.Moved.{expect_is}
use Rattle.der_core.proofs.Readers.{Follows, Nothing, took, IsReader, any_body}
use Rattle.der_core.proofs.PartReaders.{Last, IsWhole, element_reader, opt_last_reader}

abbrev Part : Type 0
Part = Result (Option (List ℕ) × Spot) Fault

abbrev fails : Fault → Part
fails f = Err f

abbrev part : Option (List ℕ) × Spot → Part
part y = Ok y

module _ (tag : ℕ) (id : is_tag tag ≡ true) where
  abbrev GoodWhole : Option (List ℕ) → Type 0
  GoodWhole o = IfSome o (IsWhole tag)

  abbrev GoodContents : Option (List ℕ) → Type 0
  GoodContents o = IfSome o (λ b. Unit {0} × HasLength b)

  contents_reader : IsReader (last tag any_at) (optional tag) GoodContents (opt tag opaque) Last Nothing
  contents_reader = opt_last_reader tag id any_at (λ b. Unit {0}) opaque any_body

  -- what is kept whole is the element whose contents the other reading keeps
  abbrev Kept : Spot → Option (List ℕ) × Spot → Type 0
  Kept s y = (o : Option (List ℕ)) × (last tag any_at s ≡ part (o, y.1)) × (y.0 ≡ option_map (el tag) o)

  contents_there : (s : Spot) (t : Taken × Spot) → has_tag tag s.rest ≡ true → expect_at tag s ≡ Ok t
      → last tag any_at s ≡ part (Some t.0.body, t.1)
  unfolding enter_at
  contents_there s t h e = rw (h, e) refl

  none_there : (s : Spot) (u : Unit {0}) → has_tag tag s.rest ≡ false → none_at s ≡ Ok u
      → last tag any_at s ≡ part (None, s)
  none_there s u h e = rw (h, e) refl

  kept : (s : Spot) (y : Option (List ℕ) × Spot) → IsBytes s.rest → last_element tag s ≡ Ok y → Kept s y
  unfolding element_at
  kept s y fits e =
      let one : Part = element_at tag s >>= λ x. Ok (Some x.0, x.1) in
      let none : Part = none_at s >>= λ u. Ok (None, s) in
      elim (chosen (has_tag tag s.rest) one none (Ok y) e) [
        | inl h ↦
            let b = bind_ok (element_at tag s) (λ x. Ok (Some x.0, x.1)) y h.1 in
            let c = bind_ok (expect_at tag s) (λ x. Ok (x.0.whole, x.1)) b.0 b.1 in
            let k = expect_is tag s c.0 fits c.1 in
            let w : c.0.0.whole ≡ el tag c.0.0.body = k.1.whole ∙ ap (λ (t : ℕ). el t c.0.0.body) k.0 in
            let same : (Some c.0.0.whole, c.0.1) ≡ y =
            ap (λ (z : List ℕ × Spot). (Some z.0, z.1)) (ok_is (c.0.0.whole, c.0.1) b.0 c.2)
            ∙ ok_is (Some b.0.0, b.0.1) y b.2 in
            subst (Kept s) same (Some c.0.0.body, contents_there s c.0 h.0 c.1, ap (λ (v : List ℕ). Some v) w)
        | inr h ↦
            let b = bind_ok (none_at s) (λ u. Ok (None, s)) y h.1 in
            subst (Kept s) (ok_is (None, s) y b.2) (None, none_there s b.0 h.0 b.1, refl)
      ]

  fault_kept : (s : Spot) (f : Fault) → last_element tag s ≡ Err f → last tag any_at s ≡ fails f
  unfolding element_at enter_at
  fault_kept s f e =
      let one : Part = element_at tag s >>= λ x. Ok (Some x.0, x.1) in
      let none : Part = none_at s >>= λ u. Ok (None, s) in
      elim (chosen (has_tag tag s.rest) one none (fails f) e) [
        | inl h ↦ elim (bind_err (element_at tag s) (λ x. Ok (Some x.0, x.1)) f h.1) [
          | inl b ↦ elim (bind_err (expect_at tag s) (λ x. Ok (x.0.whole, x.1)) f b) [
            | inl c ↦ rw (h.0, c) refl
            | inr c ↦ absurd (let z = c.2 in cc)
          ]
          | inr b ↦ absurd (let z = b.2 in cc)
        ]
        | inr h ↦ elim (bind_err (none_at s) (λ u. Ok (None, s)) f h.1) [
          | inl b ↦ rw (h.0, b) refl
          | inr b ↦ absurd (let z = b.2 in cc)
        ]
      ]

  same_octets : (o : Option (List ℕ)) → optional tag o ≡ optional_whole (option_map (el tag) o)
  same_octets None = refl
  same_octets (Some b) = refl

  good_whole : (o : Option (List ℕ)) → GoodContents o → GoodWhole (option_map (el tag) o)
  good_whole None h = tt
  good_whole (Some b) h = (b, record { identifier = id; size = h.1 }, refl)

  last_takes : (s : Spot) (y : Option (List ℕ) × Spot) → IsBytes s.rest → last_element tag s ≡ Ok y
      → GoodWhole y.0 × Follows s (optional_whole y.0) y.1
  last_takes s y fits e =
      let k = kept s y fits e in
      let t = contents_reader.takes s (k.0, y.1) fits k.1 in
      let followed : Follows s (optional_whole (option_map (el tag) k.0)) y.1 =
      subst (λ (b : List ℕ). Follows s b y.1) (same_octets k.0) t.1 in
      subst (λ (o : Option (List ℕ)). GoodWhole o × Follows s (optional_whole o) y.1) (sym k.2)
      (good_whole k.0 t.0, followed)

  last_again : (x : Option (List ℕ)) (n : ℕ) (r : List ℕ) → GoodWhole x → r ≡ []
      → last_element tag (spot n (optional_whole x ++ r)) ≡ Ok (x, spot (n + length (optional_whole x)) r)
  unfolding none_at
  last_again None n r h l = let e : n + 0 ≡ n = omega arith in rw (l, e) refl
  last_again (Some x) n r h l =
      let b = h.0 in
      let e : eqb tag tag ≡ true = eq-eqb tag tag refl in
      let a = (element_reader tag).again (el tag b) n r (b, h.1, refl) tt in
      let one : last_element tag (spot n (el tag b ++ r)) ≡ part (Some (el tag b), spot (n + length (el tag b)) r) =
      rw (e, a) refl in
      subst (λ (w : List ℕ). last_element tag (spot n (w ++ r)) ≡ part (Some w, spot (n + length w) r)) (sym h.2) one

  last_encodes : (x : Option (List ℕ)) (r : List ℕ) (after : Form) → GoodWhole x → Encodes [] after r
      → Encodes [] (opt tag opaque after) (optional_whole x ++ r)
  last_encodes None r after h m = absent refl m
  last_encodes (Some x) r after h m =
      next tag h.0 r (ap (λ (y : List ℕ). y ++ r) h.2) h.1 (took tag opaque after) refl refl anything m

  pub last_element_reader :
      IsReader (last_element tag) optional_whole (λ o. IfSome o (IsWhole tag)) (opt tag opaque) Last Nothing
  last_element_reader = record {
    plain = contents_reader.plain;
    takes = last_takes;
    again = last_again;
    faults = λ s f fits e after b. contents_reader.faults s f fits (fault_kept s f e) after b;
    goes = λ s y fits e after f h. let k = kept s y fits e in contents_reader.goes s (k.0, y.1) fits k.1 after f h;
    encodes = last_encodes;
  }

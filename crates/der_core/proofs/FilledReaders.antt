-- Parts that may be absent, and whose contents have at least one octet if they are present.
use Rattle.std.proofs.Common.{◌≡◌, ℕ, ◌+◌, ◌<◌, ◌^◌, true, false, eqb, List, [], ◌++◌, length, Option, Some, None}
use Rattle.std.proofs.Common.{Result, Ok, Err, refl, sym, ap, subst}
use Rattle.std.proofs.Common.{◌∙◌, arith, inl, inr}
use Rattle.std.proofs.lemmas.Bool.{eqb-true, eqb-false, eq-eqb, ne_eqb}
use Rattle.std.proofs.lemmas.List.{nil_from_length}
use Rattle.der_core.specs.declared.fault.Fault.{Fault}
use Rattle.der_core.specs.declared.fault.Kind.TheVariants.{Empty}
use Rattle.der_core.specs.Element.{is_tag, len, el, IsElement, IsBytes, has_tag}
use Rattle.der_core.specs.Form.{Form, Optional, full, filled, body_of}
use Rattle.der_core.specs.Encoding.{Encodes, next, absent, has}
use Rattle.der_core.specs.Faults.{Place, place, stays, drops, FaultFrom}
use Rattle.der_core.specs.Grammar.{opt}
use Rattle.der_core.specs.Reading.{fault, Spot, spot, enter_at, none_at, within, filled_in, maybe_filled}
use Rattle.der_core.specs.Reading.{last_filled}
use Rattle.der_core.specs.Results.{◌>>=◌}
use Rattle.der_core.specs.Standing.{Enters}
use Rattle.der_core.proofs.ReadLengths.{chosen, ok_is}
use Rattle.der_core.proofs.Headers.{fails, err_is, fact_is}
use Rattle.der_core.proofs.Results.{bind_ok, bind_err}
use Rattle.der_core.proofs.Readers.{Body, Follows, IsReader, IsBody, Anything, Nothing, took, enter_ok, enter_again}
use Rattle.der_core.proofs.Readers.{enter_fault_here, fault_inside}
use Rattle.der_core.proofs.Readers.{fault_behind, last_gives, last_lacks}
use Rattle.der_core.proofs.Readers.{maybe_gives, none_stands, none_fault}

module _ {A : Type 0} (tag : ℕ) (id : is_tag tag ≡ true) (read : Body A) (enc : A → List ℕ) (Good : A → Type 0)
    (form : Form)
    (law : IsBody read enc Good form) (plain : body_of form ≡ form) where
  -- good, and with contents of at least one octet
  abbrev pub GoodFilled : Option A → Type 0
  GoodFilled None = Unit {0}
  GoodFilled (Some x) = (Good x × (length (enc x) < 2 ^ 32)) × (enc x ≡ [] → ⊥)

  abbrev pub enc_filled : Option A → List ℕ
  enc_filled None = []
  enc_filled (Some x) = el tag (enc x)

  abbrev Part : Type 0
  Part = Result (Option A × Spot) Fault

  abbrev due : Form → Form
  due after = opt tag (filled form) after

  -- contents with an octet are read as without the test
  filled_ok : (n : ℕ) (c : Spot) (x : A) → filled_in n read c ≡ Ok x → (read c ≡ Ok x) × (c.rest ≡ [] → ⊥)
  filled_ok n c x e =
      let empty : Result A Fault = Err (fault Empty n) in
      elim (chosen (eqb (length c.rest) 0) empty (read c) (Ok x) e) [
        | inl h ↦ absurd (let z = h.1 in cc)
        | inr h ↦ (h.1, λ nil. eqb-false _ _ h.0 (ap length nil))
      ]

  pub entered_filled : (n : ℕ) (s : Spot) (y : A × Spot) → IsBytes s.rest → within tag (filled_in n read) s ≡ Ok y
      → (c : Spot) × Enters tag s c y.1 × Good y.0 × (c.rest ≡ enc y.0) × (c.rest ≡ [] → ⊥)
  entered_filled n s y fits e =
      let a = bind_ok (enter_at tag s) (λ x. filled_in n read x.0 >>= λ v. Ok (v, x.1)) y e in
      let b = bind_ok (filled_in n read a.0.0) (λ v. Ok (v, a.0.1)) y a.2 in
      let k = enter_ok tag s a.0 fits a.1 in
      let f = filled_ok n a.0.0 b.0 b.1 in
      let t = law.takes a.0.0 b.0 k.fits f.0 in
      let r = subst (λ (z : A × Spot). Enters tag s a.0.0 z.1 × Good z.0 × (a.0.0.rest ≡ enc z.0))
      (ok_is (b.0, a.0.1) y b.2) (k, t.0, t.1) in
      (a.0.0, r.0, r.1, r.2, f.1)

  filled_takes : (s : Spot) (y : Option A × Spot) → IsBytes s.rest → maybe_filled tag read s ≡ Ok y
      → GoodFilled y.0 × Follows s (enc_filled y.0) y.1
  filled_takes s y fits e =
      elim (maybe_gives tag (filled_in s.pos read) s y e) [
        | inl h ↦
            let w = entered_filled s.pos s (h.0, y.1) fits h.1 in
            let some : enc h.0 ≡ [] → ⊥ = λ nil. w.4 (w.3 ∙ nil) in
            let good : GoodFilled (Some h.0) =
            ((w.2, subst (λ (b : List ℕ). length b < 2 ^ 32) w.3 w.1.element.size), some) in
            let follows : Follows s (el tag (enc h.0)) y.1 = subst (λ (b : List ℕ). Follows s (el tag b) y.1) w.3
            (record { parts = w.1.parts; moved = w.1.moved }) in
            subst (λ (o : Option A). GoodFilled o × Follows s (enc_filled o) y.1) (sym h.2) (good, follows)
        | inr h ↦ subst (λ (z : Option A × Spot). GoodFilled z.0 × Follows s (enc_filled z.0) z.1) (sym h.1)
            (tt, record { parts = refl; moved = omega arith })
      ]

  pub filled_there : (x : A) (n : ℕ) (r : List ℕ) → GoodFilled (Some x)
      → within tag (filled_in n read) (spot n (el tag (enc x) ++ r)) ≡ Ok (x, spot (n + length (el tag (enc x))) r)
  filled_there x n r h =
      let some : eqb (length (enc x)) 0 ≡ false = ne_eqb _ _ (λ z. h.1 (nil_from_length (enc x) z)) in
      rw (
        enter_again tag n (enc x) r (record { identifier = id; size = h.0.1 }),
        some,
        law.again x (n + (1 + length (len (length (enc x))))) h.0.0,
      ) refl

  maybe_again : (x : Option A) (n : ℕ) (r : List ℕ) → GoodFilled x → has_tag tag r ≡ false
      → maybe_filled tag read (spot n (enc_filled x ++ r)) ≡ Ok (x, spot (n + length (enc_filled x)) r)
  maybe_again None n r h l = let e : n + 0 ≡ n = omega arith in rw (l, e) refl
  maybe_again (Some x) n r h l = let e : eqb tag tag ≡ true = eq-eqb tag tag refl in rw (e, filled_there x n r h) refl

  -- a fault of such an element that is present
  filled_fault : (s : Spot) (f : Fault) → IsBytes s.rest → has_tag tag s.rest ≡ true
      → within tag (filled_in s.pos read) s ≡ Err f → (after : Form)
      → FaultFrom (place s.pos s.rest (due after) []) f
  filled_fault s f fits there e after =
      elim (bind_err (enter_at tag s) (λ x. filled_in s.pos read x.0 >>= λ v. Ok (v, x.1)) f e) [
        | inl a ↦ enter_fault_here tag s f fits there a (filled form) after
        | inr a ↦
            let k = enter_ok tag s a.0 fits a.1 in
            elim (bind_err (filled_in s.pos read a.0.0) (λ v. Ok (v, a.0.1)) f a.2) [
              | inr c ↦ absurd (let z = c.2 in cc)
              | inl c ↦
                  let empty : Result A Fault = Err (fault Empty s.pos) in
                  let p : Place = place s.pos s.rest (due after) [] in
                  elim (chosen (eqb (length a.0.0.rest) 0) empty (read a.0.0) (fails f) c) [
                    | inl h ↦
                        let nil : a.0.0.rest ≡ [] = nil_from_length a.0.0.rest (eqb-true _ _ h.0) in
                        let here = subst (λ (b : List ℕ). IsElement tag b × (s.rest ≡ el tag b ++ a.0.1.rest)) nil
                        (k.element, k.parts) in (
                          p,
                          stays,
                          fact_is p (fault Empty s.pos) f (err_is _ _ h.1)
                              (tag, (here.0, took tag (filled form) after, a.0.1.rest, here.1), refl, refl),
                        )
                    | inr h ↦ fault_inside Optional tag s a.0.0 a.0.1 (filled form) after [] f k
                        (subst (λ (g : Form). FaultFrom (place a.0.0.pos a.0.0.rest g []) f) plain
                        (law.faults a.0.0 f k.fits h.1))
                  ]
            ]
      ]

  maybe_fault : (s : Spot) (f : Fault) → IsBytes s.rest → maybe_filled tag read s ≡ Err f → (after : Form)
      → FaultFrom (place s.pos s.rest (due after) []) f
  maybe_fault s f fits e after =
      let some : Part = within tag (filled_in s.pos read) s >>= λ x. Ok (Some x.0, x.1) in
      elim (chosen (has_tag tag s.rest) some (Ok (None, s)) (fails f) e) [
        | inr h ↦ absurd (let z = h.1 in cc)
        | inl h ↦ elim (bind_err (within tag (filled_in s.pos read) s) (λ x. Ok (Some x.0, x.1)) f h.1) [
          | inr b ↦ absurd (let z = b.2 in cc)
          | inl b ↦ filled_fault s f fits h.0 b after
        ]
      ]

  filled_goes : (s : Spot) (y : Option A × Spot) → IsBytes s.rest → maybe_filled tag read s ≡ Ok y
      → (after : Form) (f : Fault)
      → FaultFrom (place y.1.pos y.1.rest after []) f → FaultFrom (place s.pos s.rest (due after) []) f
  filled_goes s y fits e after f q =
      elim (maybe_gives tag (filled_in s.pos read) s y e) [
        | inl h ↦
            let k = entered_filled s.pos s (h.0, y.1) fits h.1 in
            fault_behind Optional tag s k.0 y.1 (filled form) after [] f k.1 q
        | inr h ↦
            let p = subst (λ (z : Option A × Spot). FaultFrom (place z.1.pos z.1.rest after []) f) h.1 q in
            (p.0, drops refl (none_stands tag (filled form) after s.rest h.0) p.1, p.2)
      ]

  filled_encodes : (x : Option A) (r : List ℕ) (after : Form) → GoodFilled x → Encodes [] after r
      → Encodes [] (due after) (enc_filled x ++ r)
  filled_encodes None r after h m = absent refl m
  filled_encodes (Some x) r after h m = next tag (enc x) r refl (record { identifier = id; size = h.0.1 })
      (took tag (filled form) after) refl refl (has h.1 (law.encodes x h.0.0)) m

  -- such an element, if one is present
  pub maybe_filled_reader : IsReader (maybe_filled tag read) enc_filled GoodFilled
      (λ after. opt tag (filled form) after) (λ r. has_tag tag r ≡ false) Anything
  maybe_filled_reader = record {
    plain = λ after. refl;
    takes = filled_takes;
    again = maybe_again;
    faults = λ s f fits e after b. maybe_fault s f fits e after;
    goes = filled_goes;
    encodes = filled_encodes;
  }

  -- ---- the last part of a body

  last_again : (x : Option A) (n : ℕ) (r : List ℕ) → GoodFilled x → r ≡ []
      → last_filled tag read (spot n (enc_filled x ++ r)) ≡ Ok (x, spot (n + length (enc_filled x)) r)
  unfolding none_at
  last_again None n r h l = let e : n + 0 ≡ n = omega arith in rw (l, e) refl
  last_again (Some x) n r h l = let e : eqb tag tag ≡ true = eq-eqb tag tag refl in rw (e, filled_there x n r h) refl

  last_fault : (s : Spot) (f : Fault) → IsBytes s.rest → last_filled tag read s ≡ Err f
      → FaultFrom (place s.pos s.rest (due full) []) f
  last_fault s f fits e = elim (last_lacks tag (filled_in s.pos read) s f e) [
    | inl m ↦ maybe_fault s f fits m full
    | inr h ↦ none_fault tag (filled form) s s.rest f refl h.0 h.1
  ]

  -- such an element, if one is present; if none is, the body must end
  pub last_filled_reader :
      IsReader (last_filled tag read) enc_filled GoodFilled (λ after. opt tag (filled form) after) (λ r. r ≡ []) Nothing
  last_filled_reader = record {
    plain = λ after. refl;
    takes = λ s y fits e. filled_takes s y fits (last_gives tag (filled_in s.pos read) s y e);
    again = last_again;
    faults = λ s f fits e after b. subst (λ (g : Form). FaultFrom (place s.pos s.rest (opt tag (filled form) g) []) f)
        (sym b) (last_fault s f fits e);
    goes = λ s y fits e after f h. filled_goes s y fits (last_gives tag (filled_in s.pos read) s y e) after f h;
    encodes = filled_encodes;
  }

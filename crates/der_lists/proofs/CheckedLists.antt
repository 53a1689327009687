-- Lists whose items are checked: what is read is good and is there, what is good is read, and each fault is one of the
-- grammar.
use Rattle.std.proofs.Common.{◌≡◌, ℕ, zero, suc, ◌+◌, ◌<◌, ◌≤◌, true, false, eqb, List, [], ◌∷◌, ◌++◌, length, Result}
use Rattle.std.proofs.Common.{Ok, Err, refl, sym, ap, subst, ◌∙◌}
use Rattle.std.proofs.Common.{arith, inl, inr}
use Rattle.std.specs.List.{flat_map}
use Rattle.std.proofs.lemmas.Bool.{eqb-true, eqb-false, ne_eqb}
use Rattle.std.proofs.lemmas.List.{nil_from_length, length-append, drop_at}
use Rattle.std.proofs.lemmas.List.Concat.{flat_map-cons}
use Rattle.der_core.specs.declared.fault.Fault.{Fault}
use Rattle.der_core.specs.Element.{IsBytes}
use Rattle.der_core.specs.Form.{Form, full, may_drop, dropped, body_of, Element}
use Rattle.der_core.specs.Encoding.{Encodes, ended, absent}
use Rattle.der_core.specs.Faults.{place, FaultFrom}
use Rattle.der_core.specs.Reading.{Spot, spot}
use Rattle.der_core.specs.Results.{◌>>=◌}
use Rattle.der_core.proofs.ReadLengths.{chosen, ok_is, IsBytes-drop}
use Rattle.der_core.proofs.Headers.{fails}
use Rattle.der_core.proofs.Results.{bind_ok, bind_err}
use Rattle.der_core.proofs.Readers.{Reader, IsBody, Follows}
use Rattle.der_lists.specs.Checked.{Check, checked_from, checked_in}

-- each is good after those before it; the octets for the next check are those that `step` gives
abbrev pub AllFrom : {A : Type 0} → (List ℕ → A → Type 0) → (A → List ℕ) → List ℕ → List A → Type 0
AllFrom Good step last [] = Unit {0}
AllFrom Good step last (x ∷ xs) = Good last x × AllFrom Good step (step x) xs

-- What a check and a reading of an item must satisfy, where such a list is due. State says which octets the last check
-- handed on after these elements.
pub record IsListed {A : Type 0} (check : Check) (read : Reader A) (enc : A → List ℕ) (Good : List ℕ → A → Type 0)
    (step : A → List ℕ)
    (State : List Element → List ℕ → Type 0) (due : Form) : Type 0 where
  pub takes : (last w : List ℕ) (s : Spot) (y : A × Spot) → IsBytes s.rest → check last s ≡ Ok w → read s ≡ Ok y
      → Good last y.0 × Follows s (enc y.0) y.1 × (w ≡ step y.0)
  pub some : (last : List ℕ) (x : A) → Good last x → 0 < length (enc x)
  pub checks : (last : List ℕ) (x : A) (n : ℕ) (r : List ℕ) → Good last x
      → check last (spot n (enc x ++ r)) ≡ Ok (step x)
  pub again : (last : List ℕ) (x : A) (n : ℕ) (r : List ℕ) → Good last x
      → read (spot n (enc x ++ r)) ≡ Ok (x, spot (n + length (enc x)) r)
  pub refuses : (last : List ℕ) (s : Spot) (f : Fault) (ps : List Element) → State ps last → IsBytes s.rest
      → (s.rest ≡ [] → ⊥) → check last s ≡ Err f
      → FaultFrom (place s.pos s.rest due ps) f
  pub faults : (last w : List ℕ) (s : Spot) (f : Fault) (ps : List Element) → State ps last → IsBytes s.rest
      → (s.rest ≡ [] → ⊥) → check last s ≡ Ok w
      → read s ≡ Err f → FaultFrom (place s.pos s.rest due ps) f
  pub goes : (last w : List ℕ) (s : Spot) (y : A × Spot) (f : Fault) (ps : List Element) → State ps last
      → IsBytes s.rest → check last s ≡ Ok w → read s ≡ Ok y
      → ((qs : List Element) → State qs w → FaultFrom (place y.1.pos y.1.rest due qs) f)
      → FaultFrom (place s.pos s.rest due ps) f
  pub encodes : (last : List ℕ) (x : A) (r : List ℕ) (ps : List Element) → State ps last → Good last x
      → ((qs : List Element) → State qs (step x) → Encodes qs due r) → Encodes ps due (enc x ++ r)

pub behind_bytes : (s t : Spot) (x : List ℕ) → Follows s x t → IsBytes s.rest → IsBytes t.rest
behind_bytes s t x p fits = subst IsBytes (drop_at x t.rest (length x) refl)
    (IsBytes-drop (length x) (x ++ t.rest) (subst IsBytes p.parts fits))

module _ {A : Type 0} (check : Check) (read : Reader A) (enc : A → List ℕ) (Good : List ℕ → A → Type 0)
    (step : A → List ℕ)
    (State : List Element → List ℕ → Type 0) (due : Form) (law : IsListed check read enc Good step State due)
    (drops : may_drop due ≡ true) (ends : dropped due ≡ full) (plain : body_of due ≡ due) (begins : State [] []) where
  abbrev Items : Type 0
  Items = Result (List A) Fault

  abbrev pub items : List A → List ℕ
  items xs = flat_map enc xs

  abbrev All : List ℕ → List A → Type 0
  All last xs = AllFrom Good step last xs

  abbrev after : ℕ → Spot → List ℕ → Items
  after k s w = read s >>= λ x. checked_from check read k w x.1 >>= λ xs. Ok (x.0 ∷ xs)

  checked_ok : (k : ℕ) (last : List ℕ) (s : Spot) (xs : List A) → IsBytes s.rest → length s.rest ≤ k
      → checked_from check read k last s ≡ Ok xs
      → All last xs × (s.rest ≡ items xs)
  unfolding checked_from
  checked_ok zero last s xs fits le e =
      subst (λ (v : List A). All last v × (s.rest ≡ items v)) (ok_is [] xs e) (tt, nil_from_length s.rest (omega arith))
  checked_ok (suc k) last s xs fits le e =
      let none : Items = Ok [] in
      elim (chosen (eqb (length s.rest) 0) none (check last s >>= after k s) (Ok xs) e) [
        | inl h ↦ subst (λ (v : List A). All last v × (s.rest ≡ items v)) (ok_is [] xs h.1)
            (tt, nil_from_length s.rest (eqb-true _ _ h.0))
        | inr h ↦
            let c = bind_ok (check last s) (after k s) xs h.1 in
            let a = bind_ok (read s) (λ x. checked_from check read k c.0 x.1 >>= λ ys. Ok (x.0 ∷ ys)) xs c.2 in
            let b = bind_ok (checked_from check read k c.0 a.0.1) (λ ys. Ok (a.0.0 ∷ ys)) xs a.2 in
            let t = law.takes last c.0 s a.0 fits c.1 a.1 in
            let parts : s.rest ≡ enc a.0.0 ++ a.0.1.rest = t.1.parts in
            let shorter : length a.0.1.rest ≤ k =
            omega (arith, le, ap length parts, length-append (enc a.0.0) a.0.1.rest, law.some last a.0.0 t.0) in
            let ih = checked_ok k c.0 a.0.1 b.0 (behind_bytes s a.0.1 (enc a.0.0) t.1 fits) shorter b.1 in
            let all : s.rest ≡ items (a.0.0 ∷ b.0) = parts ∙ ap (λ (r : List ℕ). enc a.0.0 ++ r) ih.1
            ∙ sym (flat_map-cons enc a.0.0 b.0) in
            let good : All last (a.0.0 ∷ b.0) = (t.0, subst (λ (w : List ℕ). All w b.0) t.2 ih.0) in
            subst (λ (v : List A). All last v × (s.rest ≡ items v)) (ok_is (a.0.0 ∷ b.0) xs b.2) (good, all)
      ]

  checked_again : (k : ℕ) (last : List ℕ) (xs : List A) (n : ℕ) → All last xs
      → length (items xs) ≤ k → checked_from check read k last (spot n (items xs)) ≡ Ok xs
  unfolding checked_from
  checked_again zero last [] n h le = refl
  checked_again (suc k) last [] n h le = refl
  checked_again zero last (x ∷ xs) n h le =
      absurd
      (omega (arith, le, ap length (flat_map-cons enc x xs), length-append (enc x) (items xs), law.some last x h.0))
  checked_again (suc k) last (x ∷ xs) n h le =
      let is : items (x ∷ xs) ≡ enc x ++ items xs = flat_map-cons enc x xs in
      let size = length-append (enc x) (items xs) in
      let positive = law.some last x h.0 in
      let some : eqb (length (enc x ++ items xs)) 0 ≡ false = ne_eqb _ _ (λ z. omega (arith, z, size, positive)) in
      let shorter : length (items xs) ≤ k = omega (arith, le, ap length is, size, positive) in
      ap (λ (t : List ℕ). checked_from check read (suc k) last (spot n t)) is
      ∙ rw (
        some,
        law.checks last x n (items xs) h.0,
        law.again last x n (items xs) h.0,
        checked_again k (step x) xs (n + length (enc x)) h.1 shorter,
      ) refl

  checked_fault : (k : ℕ) (last : List ℕ) (s : Spot) (f : Fault) (ps : List Element) → State ps last → IsBytes s.rest
      → checked_from check read k last s ≡ Err f → FaultFrom (place s.pos s.rest due ps) f
  unfolding checked_from
  checked_fault zero last s f ps was fits e = absurd (let z = e in cc)
  checked_fault (suc k) last s f ps was fits e =
      let none : Items = Ok [] in
      elim (chosen (eqb (length s.rest) 0) none (check last s >>= after k s) (fails f) e) [
        | inl h ↦ absurd (let z = h.1 in cc)
        | inr h ↦
            let some : s.rest ≡ [] → ⊥ = λ nil. eqb-false _ _ h.0 (ap length nil) in
            elim (bind_err (check last s) (after k s) f h.1) [
              | inl c ↦ law.refuses last s f ps was fits some c
              | inr c ↦
                  elim (bind_err (read s) (λ x. checked_from check read k c.0 x.1 >>= λ ys. Ok (x.0 ∷ ys)) f c.2) [
                    | inl a ↦ law.faults last c.0 s f ps was fits some c.1 a
                    | inr a ↦ elim (bind_err (checked_from check read k c.0 a.0.1) (λ ys. Ok (a.0.0 ∷ ys)) f a.2) [
                      | inr b ↦ absurd (let z = b.2 in cc)
                      | inl b ↦
                          let t = law.takes last c.0 s a.0 fits c.1 a.1 in
                          law.goes last c.0 s a.0 f ps was fits c.1 a.1
                          (λ qs q. checked_fault k c.0 a.0.1 f qs q (behind_bytes s a.0.1 (enc a.0.0) t.1 fits) b)
                    ]
                  ]
            ]
      ]

  checked_encodes : (last : List ℕ) (ps : List Element) (xs : List A) → State ps last → All last xs
      → Encodes ps due (items xs)
  checked_encodes last ps [] was h = absent drops (subst (λ (g : Form). Encodes [] g []) (sym ends) (ended refl))
  checked_encodes last ps (x ∷ xs) was h =
      subst (Encodes ps due) (sym (flat_map-cons enc x xs))
      (law.encodes last x (items xs) ps was h.0 (λ qs q. checked_encodes (step x) qs xs q h.1))

  -- a body that is such a list
  pub checked_body : IsBody (checked_in check read []) items (All []) due
  unfolding checked_in
  checked_body = record {
    takes = λ s xs fits e. checked_ok (length s.rest) [] s xs fits (omega arith) e;
    again = λ xs n h. checked_again (length (items xs)) [] xs n h (omega arith);
    faults = λ s f fits e. subst (λ (g : Form). FaultFrom (place s.pos s.rest g []) f) (sym plain)
        (checked_fault (length s.rest) [] s f [] begins fits e);
    encodes = λ xs h. checked_encodes [] [] xs begins h;
  }

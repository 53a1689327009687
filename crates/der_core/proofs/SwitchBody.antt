-- A body whose first element decides how the rest is read.
use Rattle.std.proofs.Common.{◌≡◌, ℕ, ◌+◌, ◌<◌, ◌^◌, true, false, cond, eqb, List, [], ◌∷◌, ◌++◌, length, Result, Ok}
use Rattle.std.proofs.Common.{Err, refl, sym, ap, subst, ◌∙◌, inl, inr}
use Rattle.std.proofs.Common.{◌⊎◌}
use Rattle.std.proofs.lemmas.Bool.{eq-eqb, and_parts, not-true}
use Rattle.der_core.specs.declared.fault.Fault.{Fault}
use Rattle.der_core.specs.declared.fault.Kind.TheVariants.{Tag}
use Rattle.der_core.specs.Element.{is_tag, el, IsBytes}
use Rattle.der_core.specs.Form.{Form, switch, takes, behind, body_of, may_stand}
use Rattle.der_core.specs.Encoding.{Encodes, next}
use Rattle.der_core.specs.Faults.{Place, place, stays, Fact, FaultFrom}
use Rattle.der_core.specs.Lists.{is_same}
use Rattle.der_core.specs.Reading.{fault, Spot, spot, Taken, next_at, is_other, expect_at, enter_at, within, switched}
use Rattle.der_core.specs.Results.{◌>>=◌}
use Rattle.der_core.proofs.ReadLengths.{chosen, ok_is}
use Rattle.der_core.proofs.Headers.{fails, err_is, fact_is}
use Rattle.der_core.proofs.Elements.{next_fault}
use Rattle.der_core.proofs.Results.{bind_ok, bind_err}
use Rattle.der_core.proofs.Encoded.{same}
use Rattle.der_core.proofs.EitherReader.{fault_in, fault_after}
use Rattle.der_core.proofs.Readers.{Body, IsBody, swapped, enter_ok, within_ok, within_again}

abbrev Step : Type 0
Step = Result (Taken × Spot) Fault

module _ {A B : Type 0} (tag : ℕ) (id : is_tag tag ≡ true) (inside : Body (List ℕ)) (Good : List ℕ → Type 0)
    (form : Form)
    (law : IsBody inside (λ b. b) Good form)
    (these : List ℕ) (itself : is_same these these ≡ true) (here : Good these) (small : length these < 2 ^ 32)
    (first : Body A) (enc : A → List ℕ) (GoodFirst : A → Type 0) (form' : Form)
    (law' : IsBody first enc GoodFirst form') (plain' : body_of form' ≡ form')
    (second : Body B) (enc' : B → List ℕ) (GoodSecond : B → Type 0) (form'' : Form)
    (law'' : IsBody second enc' GoodSecond form'')
    (plain'' : body_of form'' ≡ form'') where
  abbrev due : Form
  due = switch tag form these form' form''

  abbrev pub enc_switched : A ⊎ (List ℕ × B) → List ℕ
  enc_switched (inl a) = el tag these ++ enc a
  enc_switched (inr p) = el tag p.0 ++ enc' p.1

  abbrev pub GoodSwitched : A ⊎ (List ℕ × B) → Type 0
  GoodSwitched (inl a) = GoodFirst a
  GoodSwitched (inr p) = (Good p.0 × (length p.0 < 2 ^ 32)) × (is_same these p.0 ≡ false) × GoodSecond p.1

  abbrev Read : Type 0
  Read = Result (A ⊎ (List ℕ × B)) Fault

  abbrev left : Spot → Read
  left s = first s >>= λ a. Ok (inl a)

  abbrev right : List ℕ → Spot → Read
  right b s = second s >>= λ c. Ok (inr (b, c))

  abbrev after : List ℕ × Spot → Read
  after x = cond (is_same these x.0) (left x.1) (right x.0 x.1)

  took : takes due tag ≡ true
  took = rw (eq-eqb tag tag refl) refl

  behind_first : (b : List ℕ) → is_same these b ≡ true → behind due b ≡ form'
  behind_first b e = rw e refl

  behind_second : (b : List ℕ) → is_same these b ≡ false → behind due b ≡ form''
  behind_second b e = rw e refl

  switched_takes : (s : Spot) (v : A ⊎ (List ℕ × B)) → IsBytes s.rest → switched tag inside these first second s ≡ Ok v
      → GoodSwitched v × (s.rest ≡ enc_switched v)
  switched_takes s v fits e =
      let x = bind_ok (within tag inside s) after v e in
      let w = within_ok tag id inside (λ b. b) Good form law s x.0 fits x.1 in
      elim (chosen (is_same these x.0.0) (left x.0.1) (right x.0.0 x.0.1) (Ok v) x.2) [
        | inl h ↦
            let a = bind_ok (first x.0.1) (λ a. Ok (inl a)) v h.1 in
            let t = law'.takes x.0.1 a.0 w.1.fits_rest a.1 in
            let is : these ≡ x.0.0 = same these x.0.0 h.0 in
            let parts : s.rest ≡ el tag these ++ enc a.0 = w.1.parts
            ∙ ap (λ (b : List ℕ). el tag b ++ x.0.1.rest) (w.3 ∙ sym is)
            ∙ ap (λ (r : List ℕ). el tag these ++ r) t.1 in
            subst (λ (u : A ⊎ (List ℕ × B)). GoodSwitched u × (s.rest ≡ enc_switched u)) (ok_is (inl a.0) v a.2)
            (t.0, parts)
        | inr h ↦
            let a = bind_ok (second x.0.1) (λ c. Ok (inr (x.0.0, c))) v h.1 in
            let t = law''.takes x.0.1 a.0 w.1.fits_rest a.1 in
            let parts : s.rest ≡ el tag x.0.0 ++ enc' a.0 = w.1.parts ∙ ap (λ (b : List ℕ). el tag b ++ x.0.1.rest) w.3
            ∙ ap (λ (r : List ℕ). el tag x.0.0 ++ r) t.1 in
            let good : GoodSwitched (inr (x.0.0, a.0)) =
            ((w.2, subst (λ (b : List ℕ). length b < 2 ^ 32) w.3 w.1.element.size), h.0, t.0) in
            subst (λ (u : A ⊎ (List ℕ × B)). GoodSwitched u × (s.rest ≡ enc_switched u))
            (ok_is (inr (x.0.0, a.0)) v a.2) (good, parts)
      ]

  switched_again : (v : A ⊎ (List ℕ × B)) (n : ℕ) → GoodSwitched v
      → switched tag inside these first second (spot n (enc_switched v)) ≡ Ok v
  switched_again (inl a) n h = rw (
    within_again tag id inside (λ b. b) Good form law these n (enc a) (here, small),
    itself,
    law'.again a (n + length (el tag these)) h,
  ) refl
  switched_again (inr p) n h = rw (
    within_again tag id inside (λ b. b) Good form law p.0 n (enc' p.1) h.0,
    h.1,
    law''.again p.1 (n + length (el tag p.0)) h.2,
  ) refl

  refuses : (n : ℕ) (xs : List ℕ) → is_other tag xs ≡ true → Fact Tag (place n xs due []) n
  refuses n [] h = absurd cc
  refuses n (t ∷ xs) h =
      let p = and_parts (is_tag t) _ h in
      let none : may_stand due t ≡ false = swapped tag t (not-true (eqb t tag) p.1) in
      (t, xs, ((tt, refl), p.0), none, refl)

  enter_fault : (s : Spot) (f : Fault) → IsBytes s.rest → enter_at tag s ≡ Err f
      → FaultFrom (place s.pos s.rest due []) f
  unfolding enter_at expect_at
  enter_fault s f fits e =
      let p : Place = place s.pos s.rest due [] in
      let other : Step = Err (fault Tag s.pos) in
      elim (bind_err (expect_at tag s) _ f e) [
        | inr b ↦ absurd (let z = b.2 in cc)
        | inl b ↦ elim (chosen (is_other tag s.rest) other (next_at s) (fails f) b) [
          | inl h ↦ (p, stays, fact_is p (fault Tag s.pos) f (err_is _ _ h.1) (refuses s.pos s.rest h.0))
          | inr h ↦ (p, stays, next_fault s f p fits refl refl tt (λ _. (tt, refl)) h.1)
        ]
      ]

  switched_fault : (s : Spot) (f : Fault) → IsBytes s.rest → switched tag inside these first second s ≡ Err f
      → FaultFrom (place s.pos s.rest due []) f
  switched_fault s f fits e =
      elim (bind_err (within tag inside s) after f e) [
        | inl x ↦ elim (bind_err (enter_at tag s) (λ c. inside c.0 >>= λ v. Ok (v, c.1)) f x) [
          | inl a ↦ enter_fault s f fits a
          | inr a ↦
              let k = enter_ok tag s a.0 fits a.1 in
              elim (bind_err (inside a.0.0) (λ v. Ok (v, a.0.1)) f a.2) [
                | inl b ↦ fault_in due tag s a.0.0 a.0.1 [] f took k (law.faults a.0.0 f k.fits b)
                | inr b ↦ absurd (let z = b.2 in cc)
              ]
        ]
        | inr x ↦
            let w = within_ok tag id inside (λ b. b) Good form law s x.0 fits x.1 in
            elim (chosen (is_same these x.0.0) (left x.0.1) (right x.0.0 x.0.1) (fails f) x.2) [
              | inl h ↦ elim (bind_err (first x.0.1) (λ a. Ok (inl a)) f h.1) [
                | inr a ↦ absurd (let z = a.2 in cc)
                | inl a ↦
                    let g : FaultFrom (place x.0.1.pos x.0.1.rest form' []) f =
                    subst (λ (d : Form). FaultFrom (place x.0.1.pos x.0.1.rest d []) f) plain'
                    (law'.faults x.0.1 f w.1.fits_rest a) in
                    let due-is : behind due w.0.rest ≡ form' =
                    behind_first w.0.rest (subst (λ (b : List ℕ). is_same these b ≡ true) (sym w.3) h.0) in
                    fault_after due tag s w.0 x.0.1 [] f took w.1
                    (subst (λ (d : Form). FaultFrom (place x.0.1.pos x.0.1.rest d []) f) (sym due-is) g)
              ]
              | inr h ↦ elim (bind_err (second x.0.1) (λ c. Ok (inr (x.0.0, c))) f h.1) [
                | inr a ↦ absurd (let z = a.2 in cc)
                | inl a ↦
                    let g : FaultFrom (place x.0.1.pos x.0.1.rest form'' []) f =
                    subst (λ (d : Form). FaultFrom (place x.0.1.pos x.0.1.rest d []) f) plain''
                    (law''.faults x.0.1 f w.1.fits_rest a) in
                    let due-is : behind due w.0.rest ≡ form'' =
                    behind_second w.0.rest (subst (λ (b : List ℕ). is_same these b ≡ false) (sym w.3) h.0) in
                    fault_after due tag s w.0 x.0.1 [] f took w.1
                    (subst (λ (d : Form). FaultFrom (place x.0.1.pos x.0.1.rest d []) f) (sym due-is) g)
              ]
            ]
      ]

  switched_encodes : (v : A ⊎ (List ℕ × B)) → GoodSwitched v → Encodes [] due (enc_switched v)
  switched_encodes (inl a) h =
      next tag these (enc a) refl (record { identifier = id; size = small }) took refl refl (law.encodes these here)
      (subst (λ (d : Form). Encodes [] d (enc a)) (sym (behind_first these itself)) (law'.encodes a h))
  switched_encodes (inr p) h =
      next tag p.0 (enc' p.1) refl (record { identifier = id; size = h.0.1 }) took refl refl (law.encodes p.0 h.0.0)
      (subst (λ (d : Form). Encodes [] d (enc' p.1)) (sym (behind_second p.0 h.1)) (law''.encodes p.1 h.2))

  pub switch_body :
      IsBody (switched tag inside these first second) enc_switched GoodSwitched (switch tag form these form' form'')
  switch_body = record {
    takes = switched_takes;
    again = switched_again;
    faults = switched_fault;
    encodes = switched_encodes;
  }

-- Lists of elements with one identifier.
use Rattle.std.proofs.Common.{◌≡◌, ℕ, zero, suc, ◌+◌, ◌-◌, ◌^◌, ◌<◌, ◌≤◌, true, false, not, eqb, List, [], ◌∷◌, ◌++◌}
use Rattle.std.proofs.Common.{length, Result, Ok, Err, refl, sym, ap}
use Rattle.std.proofs.Common.{subst, ◌∙◌, arith, inl, inr}
use Rattle.std.specs.List.{flat_map, AllByRecursion}
use Rattle.std.proofs.lemmas.Bool.{eqb-true, eqb-false, and_parts, not-true, ne_eqb}
use Rattle.std.proofs.lemmas.List.{nil_from_length, length-append}
use Rattle.std.proofs.lemmas.List.Concat.{flat_map-cons}
use Rattle.der_core.specs.declared.fault.Fault.{Fault}
use Rattle.der_core.specs.declared.fault.Kind.TheVariants.{Tag}
use Rattle.der_core.specs.Element.{is_tag, el, IsElement, IsBytes}
use Rattle.der_core.specs.Form.{Many, Form, full, may_stand, Element}
use Rattle.der_core.specs.Encoding.{Encodes, ended, next, absent}
use Rattle.der_core.specs.Faults.{Place, place, stays, Fact, FaultFrom}
use Rattle.der_core.specs.Grammar.{list}
use Rattle.der_core.specs.Reading.{fault, Spot, spot, Taken, next_at, is_other, expect_at, enter_at, within, many_from}
use Rattle.der_core.specs.Reading.{many_in}
use Rattle.der_core.specs.Results.{◌>>=◌}
use Rattle.der_core.specs.Standing.{Enters}
use Rattle.der_core.proofs.ReadLengths.{chosen, ok_is}
use Rattle.der_core.proofs.Headers.{fails, err_is, fact_is}
use Rattle.der_core.proofs.Elements.{next_fault}
use Rattle.der_core.proofs.Results.{bind_ok, bind_err}
use Rattle.der_core.proofs.Readers.{swapped, took, Reader, Body, IsBody, enter_ok, fault_inside, fault_behind}
use Rattle.der_core.proofs.Readers.{within_ok, within_again}

abbrev Step : Type 0
Step = Result (Taken × Spot) Fault

-- the place of a list
abbrev pub at_list : ℕ → Form → Spot → List Element → Place
at_list tag form s ps = place s.pos s.rest (list tag form) ps

list_stands : (tag t : ℕ) (form : Form) → eqb t tag ≡ false → may_stand (list tag form) t ≡ false
list_stands tag t form h = rw (swapped tag t h) refl

list_refuses : (tag n : ℕ) (xs : List ℕ) (form : Form) (ps : List Element) → is_other tag xs ≡ true
    → Fact Tag (place n xs (list tag form) ps) n
list_refuses tag n [] form ps h = absurd cc
list_refuses tag n (t ∷ xs) form ps h =
    let p = and_parts (is_tag t) (not (eqb t tag)) h in
    (t, xs, ((tt, refl), p.0), list_stands tag t form (not-true (eqb t tag) p.1), refl)

pub list_enter_fault : (tag : ℕ) (s : Spot) (f : Fault) → IsBytes s.rest → (s.rest ≡ [] → ⊥) → enter_at tag s ≡ Err f
    → (form : Form) (ps : List Element) → FaultFrom (at_list tag form s ps) f
unfolding enter_at expect_at
list_enter_fault tag s f fits some e form ps =
    let p : Place = at_list tag form s ps in
    let other : Step = Err (fault Tag s.pos) in
    elim (bind_err (expect_at tag s) (λ x. Ok (spot (x.1.pos - length x.0.body) x.0.body, x.1)) f e) [
      | inr b ↦ absurd (let z = b.2 in cc)
      | inl b ↦ elim (chosen (is_other tag s.rest) other (next_at s) (fails f) b) [
        | inl h ↦ (p, stays, fact_is p (fault Tag s.pos) f (err_is _ _ h.1) (list_refuses tag s.pos s.rest form ps h.0))
        | inr h ↦ (p, stays, next_fault s f p fits refl refl tt (λ none. absurd (some none)) h.1)
      ]
    ]

-- how one reads such an element at the front of a list of them: what it does with the identifier and the contents
pub record ReadsMember {A : Type 0} (tag : ℕ) (item : Reader A) (enc : A → List ℕ) (Inside : A → Type 0)
    (form : Form) : Type 0 where
  pub takes : (s : Spot) (y : A × Spot) → IsBytes s.rest → item s ≡ Ok y
      → (c : Spot) × Enters tag s c y.1 × Inside y.0 × (c.rest ≡ enc y.0)
  pub again : (x : A) (n : ℕ) (r : List ℕ) → Inside x
      → item (spot n (el tag (enc x) ++ r)) ≡ Ok (x, spot (n + length (el tag (enc x))) r)
  pub faults : (s : Spot) (f : Fault) (ps : List Element) → IsBytes s.rest → (s.rest ≡ [] → ⊥) → item s ≡ Err f
      → FaultFrom (at_list tag form s ps) f
  pub encodes : (x : A) → Inside x → IsElement tag (enc x) × Encodes [] form (enc x)

module _ {A : Type 0} (tag : ℕ) (item : Reader A) (enc : A → List ℕ) (Inside : A → Type 0) (form : Form)
    (law : ReadsMember tag item enc Inside form) where
  abbrev members : List A → List ℕ
  members xs = flat_map (λ x. el tag (enc x)) xs

  abbrev Items : Type 0
  Items = Result (List A) Fault

  abbrev done : List A → Items
  done xs = Ok xs

  abbrev some_of : ℕ → Spot → Items
  some_of k s = item s >>= λ x. many_from item k x.1 >>= λ xs. Ok (x.0 ∷ xs)

  many_ok : (k : ℕ) (s : Spot) (xs : List A) → IsBytes s.rest → length s.rest ≤ k → many_from item k s ≡ Ok xs
      → AllByRecursion Inside xs × (s.rest ≡ members xs)
  unfolding many_from
  many_ok zero s xs fits le e = subst (λ (v : List A). AllByRecursion Inside v × (s.rest ≡ members v)) (ok_is [] xs e)
      (tt, nil_from_length s.rest (omega arith))
  many_ok (suc k) s xs fits le e =
      elim (chosen (eqb (length s.rest) 0) (done []) (some_of k s) (Ok xs) e) [
        | inl h ↦ subst (λ (v : List A). AllByRecursion Inside v × (s.rest ≡ members v)) (ok_is [] xs h.1)
            (tt, nil_from_length s.rest (eqb-true _ _ h.0))
        | inr h ↦
            let a = bind_ok (item s) (λ x. many_from item k x.1 >>= λ ys. Ok (x.0 ∷ ys)) xs h.1 in
            let b = bind_ok (many_from item k a.0.1) (λ ys. Ok (a.0.0 ∷ ys)) xs a.2 in
            let w = law.takes s a.0 fits a.1 in
            let parts : s.rest ≡ el tag (enc a.0.0) ++ a.0.1.rest =
            subst (λ (c : List ℕ). s.rest ≡ el tag c ++ a.0.1.rest) w.3 w.1.parts in
            let shorter : length a.0.1.rest ≤ k =
            omega (arith, ap length parts, length-append (el tag (enc a.0.0)) a.0.1.rest) in
            let ih = many_ok k a.0.1 b.0 w.1.fits_rest shorter b.1 in
            let all : s.rest ≡ members (a.0.0 ∷ b.0) = parts ∙ ap (λ (r : List ℕ). el tag (enc a.0.0) ++ r) ih.1
            ∙ sym (flat_map-cons (λ x. el tag (enc x)) a.0.0 b.0) in
            subst (λ (v : List A). AllByRecursion Inside v × (s.rest ≡ members v)) (ok_is (a.0.0 ∷ b.0) xs b.2)
            ((w.2, ih.0), all)
      ]

  many_again : (k : ℕ) (xs : List A) (n : ℕ) → AllByRecursion Inside xs → length (members xs) ≤ k
      → many_from item k (spot n (members xs)) ≡ Ok xs
  unfolding many_from
  many_again zero [] n h le = refl
  many_again (suc k) [] n h le = refl
  many_again zero (x ∷ xs) n h le = absurd (omega (arith, ap length (flat_map-cons (λ x. el tag (enc x)) x xs)))
  many_again (suc k) (x ∷ xs) n h le =
      let is : members (x ∷ xs) ≡ el tag (enc x) ++ members xs = flat_map-cons (λ x. el tag (enc x)) x xs in
      let size = length-append (el tag (enc x)) (members xs) in
      let some : eqb (length (el tag (enc x) ++ members xs)) 0 ≡ false = ne_eqb _ _ (λ z. omega (arith, z)) in
      let shorter : length (members xs) ≤ k = omega (arith, ap length is, size) in
      ap (λ (t : List ℕ). many_from item (suc k) (spot n t)) is
      ∙ rw (
        some,
        law.again x n (members xs) h.0,
        many_again k xs (n + length (el tag (enc x))) h.1 shorter,
      ) refl

  many_fault : (k : ℕ) (s : Spot) (f : Fault) (ps : List Element) → IsBytes s.rest → many_from item k s ≡ Err f
      → FaultFrom (at_list tag form s ps) f
  unfolding many_from
  many_fault zero s f ps fits e = absurd (let z = e in cc)
  many_fault (suc k) s f ps fits e =
      elim (chosen (eqb (length s.rest) 0) (done []) (some_of k s) (fails f) e) [
        | inl h ↦ absurd (let z = h.1 in cc)
        | inr h ↦ elim (bind_err (item s) (λ x. many_from item k x.1 >>= λ ys. Ok (x.0 ∷ ys)) f h.1) [
          | inl a ↦ law.faults s f ps fits (λ none. eqb-false _ _ h.0 (ap length none)) a
          | inr a ↦ elim (bind_err (many_from item k a.0.1) (λ ys. Ok (a.0.0 ∷ ys)) f a.2) [
            | inr b ↦ absurd (let z = b.2 in cc)
            | inl b ↦
                let w = law.takes s a.0 fits a.1 in
                fault_behind Many tag s w.0 a.0.1 form full ps f w.1
                (many_fault k a.0.1 f (ps ++ (tag, w.0.rest) ∷ []) w.1.fits_rest b)
          ]
        ]
      ]

  many_encodes : (ps : List Element) (xs : List A) → AllByRecursion Inside xs → Encodes ps (list tag form) (members xs)
  many_encodes ps [] h = absent refl (ended refl)
  many_encodes ps (x ∷ xs) h =
      let here = law.encodes x h.0 in
      next tag (enc x) (members xs) (flat_map-cons (λ y. el tag (enc y)) x xs) here.0 (took tag form full) refl refl
      here.1 (many_encodes (ps ++ (tag, enc x) ∷ []) xs h.1)

  -- a body that is a list of such elements
  pub members_body : IsBody (many_in item) members (AllByRecursion Inside) (list tag form)
  unfolding many_in
  members_body = record {
    takes = λ s xs fits e. many_ok (length s.rest) s xs fits (omega arith) e;
    again = λ xs n h. many_again (length (members xs)) xs n h (omega arith);
    faults = λ s f fits e. many_fault (length s.rest) s f [] fits e;
    encodes = λ xs h. many_encodes [] xs h;
  }

module _ {A : Type 0} (tag : ℕ) (id : is_tag tag ≡ true) (read : Body A) (enc : A → List ℕ) (Good : A → Type 0)
    (form : Form)
    (law : IsBody read enc Good form) where
  abbrev pub items : List A → List ℕ
  items xs = flat_map (λ x. el tag (enc x)) xs

  abbrev Inside : A → Type 0
  Inside x = Good x × (length (enc x) < 2 ^ 32)

  one_takes : (s : Spot) (y : A × Spot) → IsBytes s.rest → within tag read s ≡ Ok y
      → (c : Spot) × Enters tag s c y.1 × Inside y.0 × (c.rest ≡ enc y.0)
  one_takes s y fits e =
      let w = within_ok tag id read enc Good form law s y fits e in
      (w.0, w.1, (w.2, subst (λ (c : List ℕ). length c < 2 ^ 32) w.3 w.1.element.size), w.3)

  one_fault : (s : Spot) (f : Fault) (ps : List Element) → IsBytes s.rest → (s.rest ≡ [] → ⊥)
      → within tag read s ≡ Err f
      → FaultFrom (at_list tag form s ps) f
  one_fault s f ps fits some e =
      elim (bind_err (enter_at tag s) (λ x. read x.0 >>= λ v. Ok (v, x.1)) f e) [
        | inl b ↦ list_enter_fault tag s f fits some b form ps
        | inr b ↦
            let w = enter_ok tag s b.0 fits b.1 in
            elim (bind_err (read b.0.0) (λ v. Ok (v, b.0.1)) f b.2) [
              | inl c ↦ fault_inside Many tag s b.0.0 b.0.1 form full ps f w (law.faults b.0.0 f w.fits c)
              | inr c ↦ absurd (let z = c.2 in cc)
            ]
      ]

  -- a body that is a list of elements with these contents
  pub many_body : IsBody (many_in (within tag read)) items (AllByRecursion Inside) (list tag form)
  many_body = members_body tag (within tag read) enc Inside form (record {
    takes = one_takes;
    again = within_again tag id read enc Good form law;
    faults = one_fault;
    encodes = λ x h. (record { identifier = id; size = h.1 }, law.encodes x h.0);
  })

-- ---- an element that is taken

pub bind_same : {A B : Type 0} (r : Result A Fault) (f g : A → Result B Fault) → ((x : A) → r ≡ Ok x → f x ≡ g x)
    → (r >>= f) ≡ (r >>= g)
bind_same (Ok x) f g h = h x refl
bind_same (Err d) f g h = refl

module _ {A : Type 0} (tag : ℕ) (read : Body A) where
  pub inside_of : (s : Spot) (y : A × Spot) → IsBytes s.rest → within tag read s ≡ Ok y
      → (c : Spot) × Enters tag s c y.1
  inside_of s y fits e =
      let a = bind_ok (enter_at tag s) (λ x. read x.0 >>= λ v. Ok (v, x.1)) y e in
      let b = bind_ok (read a.0.0) (λ v. Ok (v, a.0.1)) y a.2 in
      let k = enter_ok tag s a.0 fits a.1 in
      (a.0.0, subst (λ (z : A × Spot). Enters tag s a.0.0 z.1) (ok_is (b.0, a.0.1) y b.2) k)

  pub Enters-shorter : (s c t : Spot) → Enters tag s c t → length t.rest < length s.rest
  Enters-shorter s c t k = omega (arith, ap length k.parts, length-append (el tag c.rest) t.rest)

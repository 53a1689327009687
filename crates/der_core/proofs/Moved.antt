-- What a call of the cursor must satisfy, from what reading gives.
use Rattle.std.proofs.Common.{◌≡◌, ℕ, ◌+◌, ◌-◌, true, false, List, [], ◌∷◌, ◌++◌, length, Option, Some, None, Result}
use Rattle.std.proofs.Common.{Ok, Err, refl, sym, ap, subst, ◌∙◌, eqb}
use Rattle.std.proofs.Common.{inl, inr}
use Rattle.std.proofs.lemmas.Bool.{eq-eqb, eqb-true}
use Rattle.std.specs.Prelude.{IfOk, IfErr, IfSome, IsSomeAnd, IsOk, ◌⊎◌, option_map, ◌↔◌}
use Rattle.der_core.specs.declared.fault.Fault.{Fault}
use Rattle.der_core.specs.declared.element.Element.{Element}
use Rattle.der_core.specs.declared.fault.Kind.TheVariants.{Tag}
use Rattle.der_core.specs.Element.{is_tag, el, IsElement, IsBytes, has_tag}
use Rattle.der_core.specs.Faults.{Place, place}
use Rattle.der_core.specs.Grammar.{one, opt}
use Rattle.der_core.specs.Reading.{fault, Spot, spot, Taken, Moves, next_at, is_other, expect_at, optional_at, enter_at}
use Rattle.der_core.specs.Results.{◌>>=◌}
use Rattle.der_core.specs.Standing.{IsTaken, IsFaultAt, IsFaultOfOne, IsFaultOfOptional, Enters}
use Rattle.der_core.specs.Seen.{seen}
use Rattle.der_core.proofs.ReadLengths.{chosen, ok_is}
use Rattle.der_core.proofs.Headers.{fails, err_is, fact_is}
use Rattle.der_core.proofs.Readers.{enter_ok, not_other, refuses}
use Rattle.der_core.proofs.Elements.{next_takes, next_again, next_fault}
use Rattle.der_core.proofs.Results.{bind_ok, bind_err}

pub next_found : (s s' : Spot) (r : Result Element Fault) → IsBytes s.rest → Moves seen r s s' (next_at s)
    → IfOk r (λ e. IsTaken s (seen e) s')
next_found s s' (Ok e) fits h = next_takes s (seen e, s') fits h
next_found s s' (Err f) fits h = tt

pub next_faulty : (s s' : Spot) (r : Result Element Fault) → IsBytes s.rest → Moves seen r s s' (next_at s)
    → IfErr r (λ f. IsFaultAt s f)
next_faulty s s' (Ok e) fits h = tt
next_faulty s s' (Err f) fits h = λ p at is must. next_fault s f p fits at is must.0 (λ _. must) h.0

one_read : Taken → Spot → Result (Taken × Spot) Fault
one_read x s = Ok (x, s)

pub next_only : (s s' : Spot) (r : Result Element Fault) → Moves seen r s s' (next_at s) → (t : ℕ) (b rest : List ℕ)
    → IsElement t b → s.rest ≡ el t b ++ rest
    → IfOk r (λ e. (e.tag ≡ t) × (e.body.now ≡ b) × (s'.rest ≡ rest)) × IsOk r
next_only s s' (Ok e) h t b rest k is =
    let a = ap (λ (xs : List ℕ). next_at (spot s.pos xs)) is ∙ next_again s.pos t b rest k in
    let both : (seen e, s') ≡ (record { tag = t; body = b; whole = el t b }, spot (s.pos + length (el t b)) rest) =
    let z = sym h ∙ a in cc in (
      (
        ap (λ (p : Taken × Spot). p.0.tag) both,
        ap (λ (p : Taken × Spot). p.0.body) both,
        ap (λ (p : Taken × Spot). p.1.rest) both,
      ),
      refl,
    )
next_only s s' (Err f) h t b rest k is =
    let a = ap (λ (xs : List ℕ). next_at (spot s.pos xs)) is ∙ next_again s.pos t b rest k in
    absurd (let z = sym h.0 ∙ a in cc)

-- ---- an element with one identifier

abbrev Step : Type 0
Step = Result (Taken × Spot) Fault

abbrev Wants : ℕ → Spot → Element → Spot → Type 0
Wants tag s e s' = (e.tag ≡ tag) × IsTaken s (seen e) s'

pub expect_is : (tag : ℕ) (s : Spot) (x : Taken × Spot) → IsBytes s.rest → expect_at tag s ≡ Ok x
    → (x.0.tag ≡ tag) × IsTaken s x.0 x.1
unfolding expect_at
expect_is tag s x fits e =
    let other : Step = Err (fault Tag s.pos) in
    elim (chosen (is_other tag s.rest) other (next_at s) (Ok x) e) [
      | inl h ↦ absurd (let z = h.1 in cc)
      | inr h ↦
          let k = next_takes s x fits h.1 in (
            not_other tag x.0.tag x.0.body x.1.rest k.element.identifier
                (subst (λ (xs : List ℕ). is_other tag xs ≡ false) k.parts h.0),
            k,
          )
    ]

pub expect_found : (tag : ℕ) (s s' : Spot) (r : Result Element Fault) → IsBytes s.rest
    → Moves seen r s s' (expect_at tag s)
    → IfOk r (λ e. (e.tag ≡ tag) × IsTaken s (seen e) s')
expect_found tag s s' (Ok e) fits h = expect_is tag s (seen e, s') fits h
expect_found tag s s' (Err f) fits h = tt

pub expect_again : (tag n : ℕ) (b r : List ℕ) → IsElement tag b
    → expect_at tag (spot n (el tag b ++ r))
    ≡ Ok (record { tag = tag; body = b; whole = el tag b }, spot (n + length (el tag b)) r)
unfolding expect_at
expect_again tag n b r h =
    let same : eqb tag tag ≡ true = eq-eqb tag tag refl in
    let id : is_tag tag ≡ true = h.identifier in
    rw (same, id, next_again n tag b r h) refl

pub expect_only : (tag : ℕ) (s s' : Spot) (r : Result Element Fault) → Moves seen r s s' (expect_at tag s)
    → (b rest : List ℕ) → IsElement tag b
    → s.rest ≡ el tag b ++ rest
    → IfOk r (λ e. (e.body.now ≡ b) × (s'.rest ≡ rest)) × IsOk r
expect_only tag s s' (Ok e) h b rest k is =
    let a = ap (λ (xs : List ℕ). expect_at tag (spot s.pos xs)) is ∙ expect_again tag s.pos b rest k in
    let both : (seen e, s')
    ≡ (record { tag = tag; body = b; whole = el tag b }, spot (s.pos + length (el tag b)) rest) = let z = sym h
    ∙ a in cc in
    ((ap (λ (p : Taken × Spot). p.0.body) both, ap (λ (p : Taken × Spot). p.1.rest) both), refl)
expect_only tag s s' (Err f) h b rest k is =
    let a = ap (λ (xs : List ℕ). expect_at tag (spot s.pos xs)) is ∙ expect_again tag s.pos b rest k in
    absurd (let z = sym h.0 ∙ a in cc)

pub expect_fact : (tag : ℕ) (s : Spot) (f : Fault) → IsBytes s.rest → expect_at tag s ≡ Err f → IsFaultOfOne tag s f
unfolding expect_at
expect_fact tag s f fits e inside after =
    let p : Place = place s.pos s.rest (one tag inside after) [] in
    let other : Step = Err (fault Tag s.pos) in
    elim (chosen (is_other tag s.rest) other (next_at s) (fails f) e) [
      | inl h ↦ fact_is p (fault Tag s.pos) f (err_is _ _ h.1) (refuses tag s.pos s.rest inside after h.0)
      | inr h ↦ next_fault s f p fits refl refl tt (λ _. (tt, refl)) h.1
    ]

pub expect_faulty : (tag : ℕ) (s s' : Spot) (r : Result Element Fault) → IsBytes s.rest
    → Moves seen r s s' (expect_at tag s)
    → IfErr r (λ f. IsFaultOfOne tag s f)
expect_faulty tag s s' (Ok e) fits h = tt
expect_faulty tag s s' (Err f) fits h = expect_fact tag s f fits h.0

pub open_found : (tag : ℕ) (s s' : Spot) (r : Result (Element × Spot) Fault) → IsBytes s.rest
    → Moves (λ x. x.1) r s s' (enter_at tag s)
    → IfOk r (λ x. Enters tag s x.1 s')
open_found tag s s' (Ok x) fits h = enter_ok tag s (x.1, s') fits h
open_found tag s s' (Err f) fits h = tt

pub open_faulty : (tag : ℕ) (s s' : Spot) (r : Result (Element × Spot) Fault) → IsBytes s.rest
    → Moves (λ x. x.1) r s s' (enter_at tag s)
    → IfErr r (λ f. IsFaultOfOne tag s f)
unfolding enter_at
open_faulty tag s s' (Ok c) fits h = tt
open_faulty tag s s' (Err f) fits h =
    elim (bind_err (expect_at tag s) (λ x. Ok (spot (x.1.pos - length x.0.body) x.0.body, x.1)) f h.0) [
      | inl b ↦ expect_fact tag s f fits b
      | inr b ↦ absurd (let z = b.2 in cc)
    ]

-- ---- such an element or none

abbrev Part : Type 0
Part = Result (Option Taken × Spot) Fault

stands_next : (tag : ℕ) (xs : List ℕ) → has_tag tag xs ≡ true → xs ≡ [] → ⊥
stands_next tag [] h e = absurd cc
stands_next tag (x ∷ xs) h e = absurd cc

stands_is : (tag t : ℕ) (b r : List ℕ) → has_tag tag (el t b ++ r) ≡ true → t ≡ tag
stands_is tag t b r h = eqb-true t tag h

optional_some : (tag : ℕ) (s : Spot) (o : Option Taken) (s' : Spot) → optional_at tag s ≡ Ok (o, s')
    → ((x : Taken) × (o ≡ Some x) × (has_tag tag s.rest ≡ true) × (next_at s ≡ Ok (x, s')))
    ⊎ ((o ≡ None) × (has_tag tag s.rest ≡ false) × (s' ≡ s))
unfolding optional_at
optional_some tag s o s' e =
    let some : Part = next_at s >>= λ x. Ok (Some x.0, x.1) in
    let none : Part = Ok (None, s) in
    elim (chosen (has_tag tag s.rest) some none (Ok (o, s')) e) [
      | inl h ↦
          let b = bind_ok (next_at s) (λ x. Ok (Some x.0, x.1)) (o, s') h.1 in
          let is : (Some b.0.0, b.0.1) ≡ (o, s') = ok_is (Some b.0.0, b.0.1) (o, s') b.2 in
          inl (
            b.0.0,
            sym (ap (λ (z : Option Taken × Spot). z.0) is),
            h.0,
            subst (λ (u : Spot). next_at s ≡ Ok (b.0.0, u)) (ap (λ (z : Option Taken × Spot). z.1) is) b.1,
          )
      | inr h ↦
          let is : (None, s) ≡ (o, s') = ok_is (None, s) (o, s') h.1 in
          inr (sym (ap (λ (z : Option Taken × Spot). z.0) is), h.0, sym (ap (λ (z : Option Taken × Spot). z.1) is))
    ]

abbrev Answer : Type 0
Answer = Result (Option Element) Fault

abbrev nothing : Answer
nothing = Ok None

no_fault : (tag : ℕ) (s : Spot) (f : Fault) → optional_at tag s ≡ Err f → has_tag tag s.rest ≡ false → ⊥
unfolding optional_at
no_fault tag s f e g = let a : optional_at tag s ≡ Ok (None, s) = rw g refl in let z = sym e ∙ a in cc

pub optional_none : (tag : ℕ) (s s' : Spot) (r : Answer) → Moves (option_map seen) r s s' (optional_at tag s)
    → (r ≡ Ok None) ↔ (has_tag tag s.rest ≡ false)
optional_none tag s s' (Ok None) h =
    elim (optional_some tag s None s' h) [
      | inl a ↦ absurd (let z = a.1 in cc)
      | inr a ↦ ((λ _. a.1), (λ _. refl))
    ]
optional_none tag s s' (Ok (Some e)) h =
    elim (optional_some tag s (Some (seen e)) s' h) [
      | inl a ↦ ((λ e. absurd cc), (λ g. absurd (let z = sym a.2 ∙ g in cc)))
      | inr a ↦ absurd (let z = a.0 in cc)
    ]
optional_none tag s s' (Err f) h = ((λ e. absurd cc), λ g. absurd (no_fault tag s f h.0 g))

pub optional_stays : (tag : ℕ) (s s' : Spot) (r : Answer) → Moves (option_map seen) r s s' (optional_at tag s)
    → r ≡ Ok None → s' ≡ s
optional_stays tag s s' (Ok None) h e =
    elim (optional_some tag s None s' h) [ inl a ↦ absurd (let z = a.1 in cc) | inr a ↦ a.2 ]
optional_stays tag s s' (Ok (Some x)) h e = absurd cc
optional_stays tag s s' (Err f) h e = absurd cc

pub optional_found : (tag : ℕ) (s s' : Spot) (r : Answer) → IsBytes s.rest
    → Moves (option_map seen) r s s' (optional_at tag s)
    → IfOk r (λ o. IfSome o (λ e. (e.tag ≡ tag) × IsTaken s (seen e) s'))
optional_found tag s s' (Ok None) fits h = tt
optional_found tag s s' (Ok (Some e)) fits h =
    elim (optional_some tag s (Some (seen e)) s' h) [
      | inl a ↦
          let x-is : seen e ≡ a.0 = let z = a.1 in cc in
          let k : IsTaken s (seen e) s' =
          next_takes s (seen e, s') fits (subst (λ (x : Taken). next_at s ≡ Ok (x, s')) (sym x-is) a.3) in
          (stands_is tag e.tag e.body.now s'.rest (subst (λ (xs : List ℕ). has_tag tag xs ≡ true) k.parts a.2), k)
      | inr a ↦ absurd (let z = a.0 in cc)
    ]
optional_found tag s s' (Err f) fits h = tt

optional_again : (tag n : ℕ) (b r : List ℕ) → IsElement tag b
    → optional_at tag (spot n (el tag b ++ r))
    ≡ Ok (Some (record { tag = tag; body = b; whole = el tag b }), spot (n + length (el tag b)) r)
unfolding optional_at
optional_again tag n b r h =
    let same : eqb tag tag ≡ true = eq-eqb tag tag refl in
    rw (same, next_again n tag b r h) refl

abbrev no_taken : Option Taken
no_taken = None

none_some : (x : Taken) → no_taken ≡ Some x → ⊥
none_some x e = cc

abbrev a_taken : Taken → Option Taken
a_taken x = Some x

some_is : (x y : Taken) → a_taken x ≡ Some y → x ≡ y
some_is x y e = cc

pub optional_only : (tag : ℕ) (s s' : Spot) (r : Answer) → Moves (option_map seen) r s s' (optional_at tag s)
    → (b rest : List ℕ) → IsElement tag b
    → s.rest ≡ el tag b ++ rest
    → IfOk r (λ o. IsSomeAnd o (λ e. (e.body.now ≡ b) × (s'.rest ≡ rest))) × IsOk r
optional_only tag s s' (Ok (Some e)) h b rest k is =
    let a = ap (λ (xs : List ℕ). optional_at tag (spot s.pos xs)) is ∙ optional_again tag s.pos b rest k in
    let t : Taken = record { tag = tag; body = b; whole = el tag b } in
    let both = ok_is (Some (seen e), s') (Some t, spot (s.pos + length (el tag b)) rest) (sym h ∙ a) in
    let one : seen e ≡ t = some_is (seen e) t (ap (λ (p : Option Taken × Spot). p.0) both) in
    ((ap (λ (x : Taken). x.body) one, ap (λ (p : Option Taken × Spot). p.1.rest) both), refl)
optional_only tag s s' (Ok None) h b rest k is =
    let a = ap (λ (xs : List ℕ). optional_at tag (spot s.pos xs)) is ∙ optional_again tag s.pos b rest k in
    absurd (none_some (record { tag = tag; body = b; whole = el tag b }) (ap (λ (z : Option Taken × Spot). z.0)
    (ok_is (None, s') (Some (record { tag = tag; body = b; whole = el tag b }), spot (s.pos + length (el tag b)) rest)
    (sym h ∙ a))))
optional_only tag s s' (Err f) h b rest k is =
    let a = ap (λ (xs : List ℕ). optional_at tag (spot s.pos xs)) is ∙ optional_again tag s.pos b rest k in
    absurd (let z = sym h.0 ∙ a in cc)

optional_fact : (tag : ℕ) (s : Spot) (f : Fault) → IsBytes s.rest → optional_at tag s ≡ Err f
    → IsFaultOfOptional tag s f
unfolding optional_at
optional_fact tag s f fits e inside after =
    let p : Place = place s.pos s.rest (opt tag inside after) [] in
    let some : Part = next_at s >>= λ x. Ok (Some x.0, x.1) in
    let none : Part = Ok (None, s) in
    elim (chosen (has_tag tag s.rest) some none (fails f) e) [
      | inl h ↦ elim (bind_err (next_at s) (λ x. Ok (Some x.0, x.1)) f h.1) [
        | inl b ↦ next_fault s f p fits refl refl tt (λ z. absurd (stands_next tag s.rest h.0 z)) b
        | inr b ↦ absurd (let z = b.2 in cc)
      ]
      | inr h ↦ absurd (let z = h.1 in cc)
    ]

pub optional_faulty : (tag : ℕ) (s s' : Spot) (r : Answer) → IsBytes s.rest
    → Moves (option_map seen) r s s' (optional_at tag s)
    → IfErr r (λ f. IsFaultOfOptional tag s f)
optional_faulty tag s s' (Ok o) fits h = tt
optional_faulty tag s s' (Err f) fits h = optional_fact tag s f fits h.0

-- A fault found in reading a length is one of the grammar.
use Rattle.std.proofs.Common.{◌≡◌, ℕ, ◌+◌, ◌-◌, ◌<◌, ◌≤◌, true, cond, ltb, eqb, List, [], ◌∷◌, length, take, drop}
use Rattle.std.proofs.Common.{Result, Ok, Err, refl, ap, subst, ◌∙◌, arith}
use Rattle.std.proofs.Common.{inl, inr}
use Rattle.std.proofs.lemmas.Bool.{ltb-true, ltb-false, eqb-true, eqb-false}
use Rattle.der_core.specs.declared.fault.Fault.{Fault}
use Rattle.der_core.specs.declared.fault.Kind.TheVariants.{End, Indefinite, LengthForm}
use Rattle.der_core.specs.Element.{is_tag}
use Rattle.der_core.specs.Faults.{Place, IsDue, IsNoLength, Fact}
use Rattle.der_core.specs.Reading.{fault, number_from, begins_short, further_at, length_at}
use Rattle.der_core.proofs.ReadLengths.{chosen}

abbrev pub fails : {A : Type 0} → Fault → Result A Fault
fails f = Err f

pub err_is : {A : Type 0} (d f : Fault) → fails {A = A} d ≡ fails f → d ≡ f
err_is {A} d f e = cc

pub fact_is : (p : Place) (d f : Fault) → d ≡ f → Fact d.kind p d.at → Fact f.kind p f.at
fact_is p d f e h = subst (λ (g : Fault). Fact g.kind p g.at) e h

abbrev Read : Type 0
Read = Result (ℕ × List ℕ) Fault

short_is : (k : ℕ) (o : ℕ) (os : List ℕ) → 0 < k → begins_short k (o ∷ os) ≡ true → IsNoLength ((128 + k) ∷ o ∷ os)
short_is k o os pos h =
    elim (chosen (eqb k 1) (ltb o 128) (eqb o 0) true h) [
      | inl a ↦ inr (inr (omega (arith, eqb-true k 1 a.0), ltb-true o 128 a.1))
      | inr a ↦ inr (inl (omega arith, eqb-true o 0 a.1))
    ]

no_short : (k : ℕ) (xs : List ℕ) → 0 < k → begins_short k xs ≡ true → IsNoLength ((128 + k) ∷ xs)
no_short k [] pos h = absurd cc
no_short k (o ∷ os) pos h = short_is k o os pos h

module _ (p : Place) (t : ℕ) (due : IsDue p.due) (id : is_tag t ≡ true) where
  further_fault : (x : ℕ) (os : List ℕ) (f : Fault) → p.rest ≡ t ∷ x ∷ os → 128 < x → x ≤ 132
      → further_at (x - 128) (p.at + 1) os ≡ Err f → Fact f.kind p f.at
  unfolding further_at
  further_fault x os f is low high e =
      let k : ℕ = x - 128 in
      let n : ℕ = p.at + 1 in
      let missing : Read = Err (fault End (n + 1 + length os)) in
      let form : Read = Err (fault LengthForm n) in
      let got : Read = Ok (number_from 0 (take k os), drop k os) in
      elim (chosen (begins_short k os) form (cond (ltb (length os) k) missing got) (fails f) e) [
        | inl h ↦
            let x-is : 128 + k ≡ x = omega arith in
            fact_is p (fault LengthForm n) f (err_is _ _ h.1) (
              t,
              x ∷ os,
              ((due, is), id),
              subst (λ (m : ℕ). IsNoLength (m ∷ os)) x-is (no_short k os (omega arith) h.0),
              refl,
            )
        | inr h ↦ elim (chosen (ltb (length os) k) missing got (fails f) h.1) [
          | inl g ↦ fact_is p (fault End (n + 1 + length os)) f (err_is _ _ g.1)
              (inr (t, 1 + length os, x ∷ os, ((due, is), id), (low, high, ltb-true _ _ g.0, refl), omega arith))
          | inr g ↦ absurd cc
        ]
      ]

  no_length : (x : ℕ) (os : List ℕ) → 132 < x → IsNoLength (x ∷ os)
  no_length x [] h = h
  no_length x (o ∷ os) h = inl h

  pub length_fault : (xs : List ℕ) (f : Fault) → p.rest ≡ t ∷ xs → length_at (p.at + 1) xs ≡ Err f → Fact f.kind p f.at
  unfolding length_at
  length_fault [] f is e =
      fact_is p (fault End (p.at + 1)) f (err_is _ _ e) (inr (t, 0, [], ((due, is), id), refl, omega arith))
  length_fault (x ∷ os) f is e =
      let n : ℕ = p.at + 1 in
      let short : Read = Ok (x, os) in
      let indefinite : Read = Err (fault Indefinite n) in
      let form : Read = Err (fault LengthForm n) in
      elim (chosen (ltb x 128) short (cond (eqb x 128) indefinite (cond (ltb 132 x) form (further_at (x - 128) n os)))
      (fails f) e) [
        | inl h ↦ absurd cc
        | inr h ↦
            elim (chosen (eqb x 128) indefinite (cond (ltb 132 x) form (further_at (x - 128) n os)) (fails f) h.1) [
              | inl g ↦
                  let x-is = eqb-true _ _ g.0 in
                  fact_is p (fault Indefinite n) f (err_is _ _ g.1)
                  (t, os, ((due, is ∙ ap (λ (m : ℕ). t ∷ m ∷ os) x-is), id), refl)
              | inr g ↦ elim (chosen (ltb 132 x) form (further_at (x - 128) n os) (fails f) g.1) [
                | inl m ↦ fact_is p (fault LengthForm n) f (err_is _ _ m.1)
                    (t, x ∷ os, ((due, is), id), no_length x os (ltb-true _ _ m.0), refl)
                | inr m ↦ further_fault x os f is (omega (arith, ltb-false _ _ h.0, eqb-false _ _ g.0))
                    (omega (arith, ltb-false _ _ m.0)) m.1
              ]
            ]
      ]

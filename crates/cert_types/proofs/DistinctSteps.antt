-- The steps of a loop that checks the extensions of a certificate.
use Rattle.std.proofs.Common.{◌≡◌, ℕ, zero, suc, ◌+◌, ◌-◌, ◌≤◌, Bool, true, false, ◌||◌, cond, eqb, List, [], ◌∷◌}
use Rattle.std.proofs.Common.{length, Result, Ok, Err, refl, ap, subst}
use Rattle.std.proofs.Common.{◌∙◌, arith}
use Rattle.std.proofs.lemmas.Bool.{eqb-false, eq-eqb}
use Rattle.der_core.specs.declared.fault.Fault.{Fault}
use Rattle.der_core.specs.declared.fault.Kind.TheVariants.{Value}
use Rattle.der_core.specs.Element.{IsBytes}
use Rattle.der_core.specs.Reading.{fault, Spot, enter_at, within}
use Rattle.der_core.specs.Results.{◌>>=◌}
use Rattle.der_core.proofs.Lists.{bind_same, Enters-shorter}
use Rattle.der_lists.proofs.Items.{HasCount, Agrees, agrees_cons, agrees_end_of}
use Rattle.cert_types.specs.ExtensionValue.{ExtensionValue}
use Rattle.cert_types.specs.ExtensionReading.{extension_in}
use Rattle.cert_types.specs.DistinctExtensions.{is_subject_key_identifier, is_ext_key_usage, is_again, distinct_from}
use Rattle.cert_types.specs.DistinctExtensions.{distinct_at}
use Rattle.cert_types.proofs.DistinctReader.{stood}

abbrev Read : Type 0
Read = Result (List ExtensionValue) Fault

abbrev tested : Spot → Bool → Bool → (ExtensionValue × Spot → Read) → ExtensionValue × Spot → Read
tested s a b then x = cond (is_again a b x.0) (Err (fault Value s.pos)) (then x >>= λ es. Ok (x.0 ∷ es))

same_then : (s : Spot) (a b : Bool) (f g : ExtensionValue × Spot → Read) (x : ExtensionValue × Spot) → f x ≡ g x
    → tested s a b f x ≡ tested s a b g x
same_then s a b f g x h =
    ap (λ (r : Read). cond (is_again a b x.0) (Err (fault Value s.pos)) (r >>= λ es. Ok (x.0 ∷ es))) h

distinct_fuel : (k j : ℕ) (a b : Bool) (s : Spot) → IsBytes s.rest → length s.rest ≤ k → length s.rest ≤ j
    → distinct_from k a b s ≡ distinct_from j a b s
unfolding distinct_from
distinct_fuel zero zero a b s fits h g = refl
distinct_fuel zero (suc j) a b s fits h g = let e : eqb (length s.rest) 0 ≡ true = eq-eqb _ _ (omega arith) in rw e refl
distinct_fuel (suc k) zero a b s fits h g = let e : eqb (length s.rest) 0 ≡ true = eq-eqb _ _ (omega arith) in rw e refl
distinct_fuel (suc k) (suc j) a b s fits h g =
    ap (λ (r : Read). cond (eqb (length s.rest) 0) (Ok []) r) (bind_same (within 0x30 extension_in s) _ _ (λ x e.
    let w = stood s x fits e in
    let shorter = Enters-shorter 0x30 extension_in s w.c x.1 w.entered in
    same_then s a b (λ y. distinct_from k (a || is_subject_key_identifier y.0) (b || is_ext_key_usage y.0) y.1)
    (λ y. distinct_from j (a || is_subject_key_identifier y.0) (b || is_ext_key_usage y.0) y.1) x
    (distinct_fuel k j (a || is_subject_key_identifier x.0) (b || is_ext_key_usage x.0) x.1 w.entered.fits_rest
    (omega arith) (omega arith))))

-- extensions that aren't at their end consist of one and the others
distinct_step : (a b : Bool) (s : Spot) → IsBytes s.rest → eqb (length s.rest) 0 ≡ false
    → distinct_at a b s ≡ (within 0x30 extension_in s
    >>= tested s a b (λ x. distinct_at (a || is_subject_key_identifier x.0) (b || is_ext_key_usage x.0) x.1))
unfolding distinct_from
distinct_step a b s fits some =
    let k : ℕ = length s.rest - 1 in
    let k-is : length s.rest ≡ suc k = omega (arith, eqb-false _ _ some) in
    let one : distinct_from (suc k) a b s ≡ (within 0x30 extension_in s >>= tested s a b
    (λ x. distinct_from k (a || is_subject_key_identifier x.0) (b || is_ext_key_usage x.0) x.1)) = rw some refl in
    ap (λ (m : ℕ). distinct_from m a b s) k-is ∙ one ∙ bind_same (within 0x30 extension_in s) _ _ (λ x e.
    let w = stood s x fits e in
    let shorter = Enters-shorter 0x30 extension_in s w.c x.1 w.entered in
    same_then s a b (λ y. distinct_from k (a || is_subject_key_identifier y.0) (b || is_ext_key_usage y.0) y.1)
    (λ y. distinct_at (a || is_subject_key_identifier y.0) (b || is_ext_key_usage y.0) y.1) x
    (distinct_fuel k (length x.1.rest) (a || is_subject_key_identifier x.0)
    (b || is_ext_key_usage x.0) x.1 w.entered.fits_rest (omega arith) (omega arith)))

module _ (n : ℕ) (a b : Bool) (s : Spot) (all : Read) (fits : IsBytes s.rest) (some : eqb (length s.rest) 0 ≡ false)
    (agrees : Agrees n (distinct_at a b s) all) where
  pub distinct_enter_err : (f : Fault) → enter_at 0x30 s ≡ Err f → all ≡ Err f
  distinct_enter_err f e =
      let one : within 0x30 extension_in s ≡ Err f = rw e refl in
      let step : distinct_at a b s ≡ Err f = distinct_step a b s fits some ∙ rw one refl in
      subst (λ (r : Read). Agrees n r all) step agrees

  module _ (c s' : Spot) (entered : enter_at 0x30 s ≡ Ok (c, s')) where
    pub distinct_err : (f : Fault) → extension_in c ≡ Err f → all ≡ Err f
    distinct_err f e =
        let one : within 0x30 extension_in s ≡ Err f = rw (entered, e) refl in
        let step : distinct_at a b s ≡ Err f = distinct_step a b s fits some ∙ rw one refl in
        subst (λ (r : Read). Agrees n r all) step agrees

    module _ (x : ExtensionValue) (is : extension_in c ≡ Ok x) where
      one : within 0x30 extension_in s ≡ Ok (x, s')
      one = rw (entered, is) refl

      pub distinct_second : is_again a b x ≡ true → all ≡ Err (fault Value s.pos)
      distinct_second h =
          let step : distinct_at a b s ≡ Err (fault Value s.pos) = distinct_step a b s fits some ∙ rw (one, h) refl in
          subst (λ (r : Read). Agrees n r all) step agrees

      pub distinct_next : is_again a b x ≡ false
          → Agrees (n + 1) (distinct_at (a || is_subject_key_identifier x) (b || is_ext_key_usage x) s') all
      distinct_next h =
          let step : distinct_at a b s
          ≡ (distinct_at (a || is_subject_key_identifier x) (b || is_ext_key_usage x) s' >>= λ es. Ok (x ∷ es)) =
          distinct_step a b s fits some ∙ rw (one, h) refl in
          agrees_cons n x (distinct_at (a || is_subject_key_identifier x) (b || is_ext_key_usage x) s') all
          (subst (λ (r : Read). Agrees n r all) step agrees)

distinct_none : (k : ℕ) (a b : Bool) (s : Spot) → eqb (length s.rest) 0 ≡ true → distinct_from k a b s ≡ Ok []
unfolding distinct_from
distinct_none zero a b s e = refl
distinct_none (suc k) a b s e = rw e refl

pub distinct_end : (n : ℕ) (a b : Bool) (s : Spot) (all : Read) → eqb (length s.rest) 0 ≡ true
    → Agrees n (distinct_at a b s) all → HasCount n all
distinct_end n a b s all e h = agrees_end_of n all (distinct_none (length s.rest) a b s e) h

-- A part that may be absent, by the octet that was looked at.
use Rattle.std.proofs.Common.{◌≡◌, Bool, true, false, cond, eqb, ℕ, length, Option, Some, None, Result, Ok, Err, refl}
use Rattle.std.proofs.Common.{sym, ap, ◌∙◌}
use Rattle.der_core.specs.declared.fault.Fault.{Fault}
use Rattle.der_core.specs.Element.{has_tag}
use Rattle.der_core.specs.Reading.{Spot, none_in}
use Rattle.der_core.specs.Results.{◌>>=◌}
use Rattle.cms_stream_laws.specs.OpenReading.{OpenSpot, OpenBody, body_of, closed, lost, looked, enter_openly}
use Rattle.cms_stream_laws.specs.OpenReading.{within_openly, maybe_openly, last_openly}
use Rattle.cms_stream.specs.Passing.{body_to, past, peeked, missed}

abbrev pub Peek : Type 0
Peek = Result Bool Fault

abbrev pub peek : Bool → Peek
peek b = Ok b

module _ {A : Type 0} (tag : ℕ) (openly : OpenBody A) (w : OpenSpot) where
  abbrev Part : Type 0
  Part = Result (Option A × OpenSpot) Fault

  abbrev present : Part
  present = within_openly tag openly w >>= λ x. Ok (Some x.0, x.1)

  abbrev none : Part
  none = none_in (closed w) (body_of w) >>= λ u. Ok (None, w)

  abbrev nothing : Part
  nothing = Ok (None, w)

  -- an octet is looked at, or none is left
  looked_is : (b c : Bool) (r : Part) (v : Bool) → cond b (peek v) (cond c (Err lost) (peek v)) ≡ peek v
      → cond b r (cond c (Err lost) r) ≡ r
  looked_is true c r v e = refl
  looked_is false true r v e = absurd cc
  looked_is false false r v e = refl

  value_is : (b c v u : Bool) → cond b (peek v) (cond c (Err lost) (peek v)) ≡ peek u → v ≡ u
  value_is true c v u e = cc
  value_is false true v u e = absurd cc
  value_is false false v u e = cc

  fault_is : (b c : Bool) (r : Part) (v : Bool) (f : Fault) → cond b (peek v) (cond c (Err lost) (peek v)) ≡ Err f
      → cond b r (cond c (Err lost) r) ≡ Err f
  fault_is true c r v f e = absurd cc
  fault_is false true r v f e = cc
  fault_is false false r v f e = absurd cc

  stands_is : (u : Bool) → peeked tag w ≡ Ok u → has_tag tag (body_of w) ≡ u
  stands_is u e = value_is (eqb w.left 0) (eqb (length w.rest) 0) (has_tag tag (body_of w)) u e

  there : (u : Bool) (r : Part) → peeked tag w ≡ Ok u → looked w r ≡ r
  there u r e =
      looked_is (eqb w.left 0) (eqb (length w.rest) 0) r (has_tag tag (body_of w)) (e ∙ ap peek (sym (stands_is u e)))

  pub last_stands : peeked tag w ≡ Ok true → last_openly tag openly w ≡ present
  last_stands e = there true (cond (has_tag tag (body_of w)) present none) e
      ∙ ap (λ (b : Bool). cond b present none) (stands_is true e)

  pub last_absent : peeked tag w ≡ Ok false → last_openly tag openly w ≡ (missed w >>= λ u. Ok (None, w))
  last_absent e =
      ap (looked w) (ap (λ (b : Bool). cond b present none) (stands_is false e))
      ∙ by_left (eqb w.left 0) (eqb (length w.rest) 0) (none_in (closed w) (body_of w))
    where
      by_left : (b c : Bool) (r : Result (Unit {0}) Fault)
          → cond b (r >>= λ u. nothing) (cond c (Err lost) (r >>= λ u. nothing))
          ≡ (cond b r (cond c (Err lost) r) >>= λ u. nothing)
      by_left true c r = refl
      by_left false true r = refl
      by_left false false r = refl

  pub last_lacks : (f : Fault) → peeked tag w ≡ Err f → last_openly tag openly w ≡ Err f
  last_lacks f e = fault_is (eqb w.left 0) (eqb (length w.rest) 0) (cond (has_tag tag (body_of w)) present none)
      (has_tag tag (body_of w)) f e

  pub maybe_stands : peeked tag w ≡ Ok true → maybe_openly tag openly w ≡ present
  maybe_stands e = there true (cond (has_tag tag (body_of w)) present nothing) e
      ∙ ap (λ (b : Bool). cond b present nothing) (stands_is true e)

  pub maybe_absent : peeked tag w ≡ Ok false → maybe_openly tag openly w ≡ nothing
  maybe_absent e = there false (cond (has_tag tag (body_of w)) present nothing) e
      ∙ ap (λ (b : Bool). cond b present nothing) (stands_is false e)

  pub maybe_lacks : (f : Fault) → peeked tag w ≡ Err f → maybe_openly tag openly w ≡ Err f
  maybe_lacks f e = fault_is (eqb w.left 0) (eqb (length w.rest) 0) (cond (has_tag tag (body_of w)) present nothing)
      (has_tag tag (body_of w)) f e

-- ---- the same, as a pass finds it

pub within_not : {A : Type 0} (tag : ℕ) (openly : OpenBody A) (w a b : OpenSpot) (f : Fault)
    → enter_openly tag w ≡ Ok (a, b) → openly a ≡ Err f
    → within_openly tag openly w ≡ Err f
within_not tag openly w a b f e h = rw (e, h) refl

module _ {A : Type 0} (tag : ℕ) (openly : OpenBody A) (end : ℕ) where
  abbrev pub none_at : Spot → Result (Option A × OpenSpot) Fault
  none_at s = Ok (None, body_to end s)

  pub last_missed : (b : Bool) (r s t : Spot) (u : Unit {0}) → peeked tag (body_to end r) ≡ Ok b → b ≡ false → s ≡ r
      → missed (body_to end s) ≡ Ok u → t ≡ s
      → last_openly tag openly (body_to end r) ≡ none_at t
  last_missed b r s t u p is same e moved =
      let here : missed (body_to end r) ≡ Ok u = ap (λ (z : Spot). missed (body_to end z)) (sym same) ∙ e in
      last_absent tag openly (body_to end r) (p ∙ ap peek is)
      ∙ ap (λ (z : Result (Unit {0}) Fault). z >>= λ v. none_at r) here
      ∙ ap none_at (sym (moved ∙ same))

  pub within_at : (inner : ℕ) (s t u : Spot) (c : A)
      → enter_openly tag (body_to end s) ≡ Ok (body_to inner t, body_to end (past inner t))
      → openly (body_to inner t) ≡ Ok c → u ≡ past inner t
      → within_openly tag openly (body_to end s) ≡ Ok (c, body_to end u)
  within_at inner s t u c e h moved = rw (e, h, moved) refl

use Rattle.std.proofs.Common.{◌≡◌, ◌%◌, ◌≤◌, false, nat_eq, inl, inr, refl, sym, ◌∙◌, ap, rules}
use Rattle.curve_points.specs.Words.{number}
use Rattle.curve_points.specs.Points.{affine, infinity}
use Rattle.curve_points.specs.Standing.{point_of}
use Rattle.curve_points.proofs.Congruence.{equal}
use Rattle.ecdsa_signatures.specs.Signatures.{is_scalar, leaves, found_point}
use Rattle.ecdsa_signatures.proofs.Verdicts.{bad_key, bad_x, bad_y, bad_r, bad_s, key_is, last_is, not_none, witness_at}
use Rattle.ecdsa_signatures.proofs.Verdicts.{quotient_is, compared_is}
use Rattle.ecdsa_signatures.proofs.verifying.is_signature.Goals as goal

pub returns-in_default-clause-found : goal.returns-in_default-clause-found
returns-in_default-clause-found g c =
    let high : g.C.Curve.parameters.p ≤ number c.args.x.now = search rules in
    bad_key g.C.Curve.parameters (number c.args.x.now) (number c.args.y.now) (number c.args.e.now)
    (number c.args.r.now) (number c.args.s.now)
    (bad_x g.C.Curve.parameters.p g.C.Curve.parameters.b (number c.args.x.now) (number c.args.y.now) high)

pub returns-in_default-coordinate-clause-found : goal.returns-in_default-coordinate-clause-found
returns-in_default-coordinate-clause-found g c =
    let high : g.C.Curve.parameters.p ≤ number c.args.y.now = search rules in
    bad_key g.C.Curve.parameters (number c.args.x.now) (number c.args.y.now) (number c.args.e.now)
    (number c.args.r.now) (number c.args.s.now)
    (bad_y g.C.Curve.parameters.p g.C.Curve.parameters.b (number c.args.x.now) (number c.args.y.now) high)

pub returns-then-not-is_met-clause-found : goal.returns-then-not-is_met-clause-found
returns-then-not-is_met-clause-found g c =
    bad_key g.C.Curve.parameters (number c.args.x.now) (number c.args.y.now) (number c.args.e.now)
    (number c.args.r.now) (number c.args.s.now)
    (key_is g.C.Curve.parameters _ _ _ _ _ _ c.is_met.result g.met.C.Curve.same_prime c.in-Some.ensures.found.0
    c.in-Some-coordinate.ensures.found.0 c.coefficient.ensures c.in-Some.ensures.found.1
    c.in-Some-coordinate.ensures.found.1 c.is_met.ensures ∙ c.if-not-is_met.true)

pub returns-in_default-scalar-clause-found : goal.returns-in_default-scalar-clause-found
returns-in_default-scalar-clause-found g c =
    let none : is_scalar g.C.Curve.parameters.n (number c.args.r.now) ≡ false = search rules in
    bad_r g.C.Curve.parameters (number c.args.x.now) (number c.args.y.now) (number c.args.e.now)
    (number c.args.r.now) (number c.args.s.now)
    (key_is g.C.Curve.parameters _ _ _ _ _ _ c.is_met.result g.met.C.Curve.same_prime c.in-Some.ensures.found.0
    c.in-Some-coordinate.ensures.found.0 c.coefficient.ensures c.in-Some.ensures.found.1
    c.in-Some-coordinate.ensures.found.1 c.is_met.ensures ∙ c.if-not-is_met.false)
    none

pub returns-in_default-scalar-2-clause-found : goal.returns-in_default-scalar-2-clause-found
returns-in_default-scalar-2-clause-found g c =
    let none : is_scalar g.C.Curve.parameters.n (number c.args.s.now) ≡ false = search rules in
    bad_s g.C.Curve.parameters (number c.args.x.now) (number c.args.y.now) (number c.args.e.now)
    (number c.args.r.now) (number c.args.s.now)
    (key_is g.C.Curve.parameters _ _ _ _ _ _ c.is_met.result g.met.C.Curve.same_prime c.in-Some.ensures.found.0
    c.in-Some-coordinate.ensures.found.0 c.coefficient.ensures c.in-Some.ensures.found.1
    c.in-Some-coordinate.ensures.found.1 c.is_met.ensures ∙ c.if-not-is_met.false)
    c.in-Some-scalar.ensures.found.1 none

pub returns-in_err-inverse-clause-none : goal.returns-in_err-inverse-clause-none
returns-in_err-inverse-clause-none g c =
    let apart = not_none g.C.Curve.parameters.n g.C.Scalar.Residue.modulus (number c.args.s.now)
    (g.C.Scalar.Residue.value c.in-Some-scalar-2.divisor) g.met.C.Curve.same_order g.met.C.Scalar.Residue.large
    c.in-Some-scalar-2.ensures.found.0 c.in-Some-scalar-2.ensures.found.1 in
    λ e. inr (witness_at g.C.Curve.parameters.n g.C.Scalar.Residue.modulus g.met.C.Curve.same_order
    (_, c.in_err-inverse.ensures.none refl apart))

pub returns-in_err-to_affine-clause-none : goal.returns-in_err-to_affine-clause-none
returns-in_err-to_affine-clause-none g c =
    λ e. inl (witness_at g.C.Curve.parameters.p g.C.Coordinate.Residue.modulus g.met.C.Curve.same_prime
    (c.in_err-to_affine.ensures.none refl _
    (c.added.ensures _ _ (c.multiple-first.ensures _ c.at.ensures) (c.multiple-second.ensures _ c.at-2.ensures))))

pub returns-in-Infinity-clause-found : goal.returns-in-Infinity-clause-found
returns-in-Infinity-clause-found g c =
    let n = g.C.Curve.parameters.n in
    let first = quotient_is n g.C.Scalar.Residue.modulus (number c.args.e.now) (number c.args.s.now) _ _ _ _ _
    g.met.C.Curve.same_order g.met.C.Scalar.Residue.large c.in-Some-scalar-2.ensures.found.0
    c.in_ok-inverse.ensures.found c.reduced.ensures c.times-by_digest.ensures.product c.words.ensures.value in
    let second = quotient_is n g.C.Scalar.Residue.modulus (number c.args.r.now) (number c.args.s.now) _ _ _ _ _
    g.met.C.Curve.same_order g.met.C.Scalar.Residue.large c.in-Some-scalar-2.ensures.found.0
    c.in_ok-inverse.ensures.found (equal n _ _ c.in-Some-scalar.ensures.found.0) c.times-by_key.ensures.product
    c.words-2.ensures.value in
    let is_point = compared_is g.C.Curve.parameters _ _ _ _ _ _ _ _ _ (number c.args.x.now) (number c.args.y.now)
    (number c.args.e.now)
    (number c.args.r.now) (number c.args.s.now)
    g.met.C.Curve.same_prime c.words.ensures.bits c.words-2.ensures.bits c.base_x.ensures.value c.base_y.ensures.value
    c.in-Some.ensures.found.0 c.in-Some-coordinate.ensures.found.0 first second in
    let found = c.in_ok-to_affine.ensures.found _
    (c.added.ensures _ _ (c.multiple-first.ensures _ c.at.ensures) (c.multiple-second.ensures _ c.at-2.ensures)) in
    let is_infinity :
    found_point g.C.Curve.parameters (number c.args.x.now) (number c.args.y.now) (number c.args.e.now)
    (number c.args.r.now) (number c.args.s.now) ≡ infinity =
    sym is_point ∙ found ∙ ap (point_of g.C.Coordinate.Residue.value) c.in-Infinity.is in
    last_is g.C.Curve.parameters (number c.args.x.now) (number c.args.y.now) (number c.args.e.now)
    (number c.args.r.now) (number c.args.s.now) false
    (key_is g.C.Curve.parameters _ _ _ _ _ _ c.is_met.result g.met.C.Curve.same_prime c.in-Some.ensures.found.0
    c.in-Some-coordinate.ensures.found.0 c.coefficient.ensures c.in-Some.ensures.found.1
    c.in-Some-coordinate.ensures.found.1 c.is_met.ensures ∙ c.if-not-is_met.false)
    c.in-Some-scalar.ensures.found.1 c.in-Some-scalar-2.ensures.found.1
    (ap (leaves n (number c.args.r.now)) (sym is_infinity))

pub returns-clause-found : goal.returns-clause-found
returns-clause-found g c =
    let n = g.C.Curve.parameters.n in
    let first = quotient_is n g.C.Scalar.Residue.modulus (number c.args.e.now) (number c.args.s.now) _ _ _ _ _
    g.met.C.Curve.same_order g.met.C.Scalar.Residue.large c.in-Some-scalar-2.ensures.found.0
    c.in_ok-inverse.ensures.found c.reduced.ensures c.times-by_digest.ensures.product c.words.ensures.value in
    let second = quotient_is n g.C.Scalar.Residue.modulus (number c.args.r.now) (number c.args.s.now) _ _ _ _ _
    g.met.C.Curve.same_order g.met.C.Scalar.Residue.large c.in-Some-scalar-2.ensures.found.0
    c.in_ok-inverse.ensures.found (equal n _ _ c.in-Some-scalar.ensures.found.0) c.times-by_key.ensures.product
    c.words-2.ensures.value in
    let is_point = compared_is g.C.Curve.parameters _ _ _ _ _ _ _ _ _ (number c.args.x.now) (number c.args.y.now)
    (number c.args.e.now)
    (number c.args.r.now) (number c.args.s.now)
    g.met.C.Curve.same_prime c.words.ensures.bits c.words-2.ensures.bits c.base_x.ensures.value c.base_y.ensures.value
    c.in-Some.ensures.found.0 c.in-Some-coordinate.ensures.found.0 first second in
    let found = c.in_ok-to_affine.ensures.found _
    (c.added.ensures _ _ (c.multiple-first.ensures _ c.at.ensures) (c.multiple-second.ensures _ c.at-2.ensures)) in
    let is_pair : found_point g.C.Curve.parameters (number c.args.x.now) (number c.args.y.now) (number c.args.e.now)
    (number c.args.r.now) (number c.args.s.now)
    ≡ affine (g.C.Coordinate.Residue.value c.in-At.found) (g.C.Coordinate.Residue.value c.in-At.field-1) =
    sym is_point ∙ found ∙ ap (point_of g.C.Coordinate.Residue.value) c.in-At.is in
    last_is g.C.Curve.parameters (number c.args.x.now) (number c.args.y.now) (number c.args.e.now)
    (number c.args.r.now) (number c.args.s.now) c.is_remainder.result
    (key_is g.C.Curve.parameters _ _ _ _ _ _ c.is_met.result g.met.C.Curve.same_prime c.in-Some.ensures.found.0
    c.in-Some-coordinate.ensures.found.0 c.coefficient.ensures c.in-Some.ensures.found.1
    c.in-Some-coordinate.ensures.found.1 c.is_met.ensures ∙ c.if-not-is_met.false)
    c.in-Some-scalar.ensures.found.1 c.in-Some-scalar-2.ensures.found.1
    (c.is_remainder.ensures
    ∙ ap (λ k. nat_eq (g.C.Coordinate.Residue.value c.in-At.found % n) k) c.in-Some-scalar.ensures.found.0
    ∙ ap (leaves n (number c.args.r.now)) (sym is_pair))

use Rattle.std.proofs.Common.{rules, arith, sym, ap, subst, ◌∙◌, ◌*◌, ◌^◌, ◌≤◌, take}
use Rattle.ecdsa_octets.specs.Fields.{fields_value}
use Rattle.ecdsa_octets.specs.Octets.{number_of, is_natural}
use Rattle.ecdsa_octets.proofs.NumberSteps.{leading_is, array_fits, count_fits}
use Rattle.ecdsa_octets.proofs.Verdicts.{no_value, negative_r, negative_s, high_r, high_s, high_x, high_y, last_is}
use Rattle.ecdsa_octets.proofs.Verdicts.{octets_of, some_map}
use Rattle.ecdsa_octets.proofs.verifying.is_signature_in_octets.Goals as goal

pub returns-in-Err-clause-found : goal.returns-in-Err-clause-found
returns-in-Err-clause-found g c =
    no_value g.C.Curve.parameters c.args.x.now c.args.y.now c.args.digest.now c.args.signature.now
    c.in-Err.field-0 c.in-Err.ensures.exact

pub returns-then-not-is_natural-clause-found : goal.returns-then-not-is_natural-clause-found
returns-then-not-is_natural-clause-found g c =
    negative_r g.C.Curve.parameters c.args.x.now c.args.y.now c.args.digest.now c.args.signature.now
    (fields_value c.in-Ok.value) c.in-Ok.ensures.exact
    (sym (ap is_natural c.bytes.ensures.octets) ∙ sym c.is_natural.ensures ∙ c.if-not-is_natural.true)

pub returns-then-not-is_natural-2-clause-found : goal.returns-then-not-is_natural-2-clause-found
returns-then-not-is_natural-2-clause-found g c =
    negative_s g.C.Curve.parameters c.args.x.now c.args.y.now c.args.digest.now c.args.signature.now
    (fields_value c.in-Ok.value) c.in-Ok.ensures.exact
    (sym (ap is_natural c.bytes-2.ensures.octets) ∙ sym c.is_natural-2.ensures ∙ c.if-not-is_natural-2.true)

pub number_of-requires : goal.number_of-requires
number_of-requires g c = array_fits g.row.WORDS g.met.C.Curve.few

pub number_of-requires-2 : goal.number_of-requires-2
number_of-requires-2 g c = array_fits g.row.WORDS g.met.C.Curve.few

pub number_of-requires-3 : goal.number_of-requires-3
number_of-requires-3 g c = array_fits g.row.WORDS g.met.C.Curve.few

pub number_of-requires-4 : goal.number_of-requires-4
number_of-requires-4 g c = array_fits g.row.WORDS g.met.C.Curve.few

pub number_of-requires-5 : goal.number_of-requires-5
number_of-requires-5 g c = array_fits g.row.WORDS g.met.C.Curve.few

pub is_signature-requires : goal.is_signature-requires
is_signature-requires g c = array_fits g.row.WORDS g.met.C.Curve.few

pub overflow_mul-min : goal.overflow_mul-min
overflow_mul-min g c = omega (arith, count_fits g.row.WORDS g.met.C.Curve.few)

pub returns-in_default-clause-found : goal.returns-in_default-clause-found
returns-in_default-clause-found g c =
    let many : 256 ^ (8 * g.row.WORDS) ≤ number_of c.bytes-3.result.now = search rules in
    high_r g.C.Curve.parameters c.args.x.now c.args.y.now c.args.digest.now c.args.signature.now
    (fields_value c.in-Ok.value) c.in-Ok.ensures.exact
    (sym (ap is_natural c.bytes.ensures.octets) ∙ sym c.is_natural.ensures ∙ c.if-not-is_natural.false)
    (sym (ap is_natural c.bytes-2.ensures.octets) ∙ sym c.is_natural-2.ensures ∙ c.if-not-is_natural-2.false)
    (256 ^ (8 * g.row.WORDS)) g.met.C.Curve.order_fits
    (subst (λ k. 256 ^ (8 * g.row.WORDS) ≤ number_of k) c.bytes-3.ensures.octets many)

pub returns-in_default-number_of-clause-found : goal.returns-in_default-number_of-clause-found
returns-in_default-number_of-clause-found g c =
    let many : 256 ^ (8 * g.row.WORDS) ≤ number_of c.bytes-4.result.now = search rules in
    high_s g.C.Curve.parameters c.args.x.now c.args.y.now c.args.digest.now c.args.signature.now
    (fields_value c.in-Ok.value) c.in-Ok.ensures.exact
    (sym (ap is_natural c.bytes.ensures.octets) ∙ sym c.is_natural.ensures ∙ c.if-not-is_natural.false)
    (sym (ap is_natural c.bytes-2.ensures.octets) ∙ sym c.is_natural-2.ensures ∙ c.if-not-is_natural-2.false)
    (256 ^ (8 * g.row.WORDS)) g.met.C.Curve.order_fits
    (subst (λ k. 256 ^ (8 * g.row.WORDS) ≤ number_of k) c.bytes-4.ensures.octets many)

pub returns-in_default-number_of-2-clause-found : goal.returns-in_default-number_of-2-clause-found
returns-in_default-number_of-2-clause-found g c =
    let many : 256 ^ (8 * g.row.WORDS) ≤ number_of c.args.x.now = search rules in
    high_x g.C.Curve.parameters c.args.x.now c.args.y.now c.args.digest.now c.args.signature.now
    (fields_value c.in-Ok.value) c.in-Ok.ensures.exact
    (sym (ap is_natural c.bytes.ensures.octets) ∙ sym c.is_natural.ensures ∙ c.if-not-is_natural.false)
    (sym (ap is_natural c.bytes-2.ensures.octets) ∙ sym c.is_natural-2.ensures ∙ c.if-not-is_natural-2.false)
    (256 ^ (8 * g.row.WORDS)) g.met.C.Curve.prime_fits many

pub returns-in_default-number_of-3-clause-found : goal.returns-in_default-number_of-3-clause-found
returns-in_default-number_of-3-clause-found g c =
    let many : 256 ^ (8 * g.row.WORDS) ≤ number_of c.args.y.now = search rules in
    high_y g.C.Curve.parameters c.args.x.now c.args.y.now c.args.digest.now c.args.signature.now
    (fields_value c.in-Ok.value) c.in-Ok.ensures.exact
    (sym (ap is_natural c.bytes.ensures.octets) ∙ sym c.is_natural.ensures ∙ c.if-not-is_natural.false)
    (sym (ap is_natural c.bytes-2.ensures.octets) ∙ sym c.is_natural-2.ensures ∙ c.if-not-is_natural-2.false)
    (256 ^ (8 * g.row.WORDS)) g.met.C.Curve.prime_fits many

pub returns-clause-found : goal.returns-clause-found
returns-clause-found g c =
    some_map c.is_signature.result _ _
    (λ b h. last_is g.C.Curve.parameters c.args.x.now c.args.y.now c.args.digest.now c.args.signature.now
    (fields_value c.in-Ok.value) c.in-Ok.ensures.exact
    (sym (ap is_natural c.bytes.ensures.octets) ∙ sym c.is_natural.ensures ∙ c.if-not-is_natural.false)
    (sym (ap is_natural c.bytes-2.ensures.octets) ∙ sym c.is_natural-2.ensures ∙ c.if-not-is_natural-2.false)
    b _ _ _ _ _ c.in-Some-number_of-2.ensures.found c.in-Some-number_of-3.ensures.found
    (c.in-Some-number_of-4.ensures.found
    ∙ ap number_of (leading_is c.min.result (8 * g.row.WORDS) c.args.digest.now c.min.ensures
    ∙ ap (λ k. take k c.args.digest.now) (octets_of g.C.Curve.parameters g.row.WORDS g.met.C.Curve.same_bits)))
    (c.in-Some.ensures.found ∙ ap number_of c.bytes-3.ensures.octets)
    (c.in-Some-number_of.ensures.found ∙ ap number_of c.bytes-4.ensures.octets)
    h)
    c.is_signature.ensures.found

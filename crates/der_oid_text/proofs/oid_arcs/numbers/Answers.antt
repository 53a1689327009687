use Rattle.std.proofs.Common.{◌≡◌, ◌<◌, ◌∙◌, refl, sym, ap, map, length, arith}
use Rattle.std.specs.List.{slice_split}
use Rattle.std.proofs.lemmas.List.{take_all, length-map, get_or-map}
use Rattle.der_oid_text.specs.OidSteps.{is_point}
use Rattle.der_oid_text.proofs.DecimalTexts.{no_numbers, all_numbers}
use Rattle.der_oid_text.proofs.oid_arcs.numbers.Goals as goal

pub returns-in_default-clause-refused : goal.returns-in_default-clause-refused
returns-in_default-clause-refused c =
    let parts = c.deref-part-items.result.now in
    let i = c.loop-part.part-index in
    let texts : map (λ part. part.now) parts ≡ slice_split is_point c.args.text.now =
    ap (map (λ part. part.now)) c.deref-part-items.ensures.value
    ∙ c.in_ok-parts.ensures in
    let inside : i < length (map (λ part. part.now) parts) =
    omega (arith, length-map parts (λ part. part.now), c.loop-part-test.true) in
    λ _. no_numbers (map (λ part. part.now) parts) i _ c.args.text.now texts inside
    (sym (get_or-map (λ part. part.now) parts i _ _ c.loop-part-test.true)) (c.in_default.ensures.refused refl)

pub returns-clause-found : goal.returns-clause-found
returns-clause-found c =
    let parts = c.deref-part-items.result.now in
    let all = take_all c.loop-part.part-index parts c.loop-part-test.false in
    let texts : map (λ part. part.now) parts ≡ slice_split is_point c.args.text.now =
    ap (map (λ part. part.now)) c.deref-part-items.ensures.value
    ∙ c.in_ok-parts.ensures in
    let k = all_numbers (map (λ part. part.now) parts) c.args.text.now c.loop-part.found.items texts
    (ap (map (λ part. part.now)) (sym all) ∙ c.loop-part.invariant.texts) in
    (k.0, k.1, c.loop-part.invariant.small)

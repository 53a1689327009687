use Rattle.std.proofs.Common.{◌∷◌, ◌++◌, ◌∙◌, sym, ap, take, get_or}
use Rattle.std.proofs.lemmas.List.{take_more}
use Rattle.std.specs.Fmt.{decimal}
use Rattle.der_oid_text.specs.OidText.{dotted}
use Rattle.der_oid_text.proofs.DecimalTexts.{dotted_push}
use Rattle.der_oid_text.proofs.oid_arcs.dotted.Goals as goal

pub loop-arc-preserved : goal.loop-arc-preserved
loop-arc-preserved c =
    let i = c.loop-arc.arc-index in
    let others = c.in-Some.others.now in
    let first = c.first_arcs-first.result.0 in
    let second = c.first_arcs-first.result.1 in
    let arc = get_or others i 0 in
    c.in_ok-write.ensures.bytes
    ∙ ap (λ t. t ++ (46 ∷ decimal arc)) c.loop-arc.invariant
    ∙ sym (dotted_push first (second ∷ take i others) arc)
    ∙ ap (λ l. dotted (first ∷ second ∷ l)) (sym (take_more others i 0 c.loop-arc-test.true))

use Rattle.std.proofs.Common.{◌-◌, ◌^◌, ◌<◌, ◌∷◌, ◌∙◌, refl, sym, ap, length, get_or, take, drop, flat_map, arith}
use Rattle.std.proofs.lemmas.List.{take_all}
use Rattle.der_oid_text.specs.OidSteps.{base_128}
use Rattle.der_oid_text.specs.OidText.{dotted, are_small}
use Rattle.der_oid_text.proofs.Spelling.{spelled_once, spells_two, spells_first, spells_these, two_first}
use Rattle.der_oid_text.proofs.oid_arcs.oid_parse.Goals as goal

pub returns-in_default-clause-refused : goal.returns-in_default-clause-refused
returns-in_default-clause-refused c =
    let few : length c.in_ok-numbers.numbers.items < 2 =
    omega (arith, ap length c.as_slice.ensures.value, c.in_default.len_below) in
    λ _ b s. spells_two c.args.text.now c.in_ok-numbers.numbers.items b c.in_ok-numbers.ensures.found.0
    c.in_ok-numbers.ensures.found.1
    c.in_ok-numbers.ensures.found.2 few s

pub returns-in_default-first_subidentifier-clause-refused : goal.returns-in_default-first_subidentifier-clause-refused
returns-in_default-first_subidentifier-clause-refused c =
    let ns = c.as_slice.result.now in
    let parts = sym c.as_slice.ensures.value ∙ two_first ns c.in-len2-up.len_at_least in
    λ _ b s. spells_first c.args.text.now c.in_ok-numbers.numbers.items b (get_or ns 0 0) (get_or ns 1 0)
    (take (length ns - 2) (drop 2 ns))
    c.in_ok-numbers.ensures.found.0 parts c.in_ok-numbers.ensures.found.2
    (c.in_default-first_subidentifier.ensures.refused refl) s

pub returns-clause-found : goal.returns-clause-found
returns-clause-found c =
    let ns = c.as_slice.result.now in
    let others = take (length ns - 2) (drop 2 ns) in
    let parts = sym c.as_slice.ensures.value ∙ two_first ns c.in-len2-up.len_at_least in
    let fits : c.in-Some.leading < 2 ^ 128 = omega arith in
    let made = c.loop-number.invariant ∙ ap (λ l. flat_map base_128 (c.in-Some.leading ∷ l))
    (take_all c.loop-number.number-index others c.loop-number-test.false) in
    spells_these c.args.text.now c.loop-number.contents.items (get_or ns 0 0) (get_or ns 1 0) c.in-Some.leading others
    (c.in_ok-numbers.ensures.found.0 ∙ ap dotted parts)
    (ap are_small (sym parts) ∙ c.in_ok-numbers.ensures.found.2) c.in-Some.ensures.found fits made

pub returns-clause-only : goal.returns-clause-only
returns-clause-only c = λ b s. spelled_once c.args.text.now c.loop-number.contents.items b (returns-clause-found c) s

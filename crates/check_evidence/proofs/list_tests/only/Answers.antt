use Rattle.std.proofs.Common.{◌≡◌, ◌∙◌, ℕ, List, true, false, sym, ap}
use Rattle.std.specs.List.{list_all}
use Rattle.der_core.specs.Lists.{is_same}
use Rattle.digests.specs.Digests.{octets_of}
use Rattle.check_evidence.proofs.Tests.{one_says, one_only}
use Rattle.check_evidence.proofs.list_tests.only.Goals as goal

pub returns-then-are_same-clause-one : goal.returns-then-are_same-clause-one
returns-then-are_same-clause-one c = λ due are.
    let first : List ℕ = octets_of c.in_ok-first.first in
    let p = c.in_ok-first.ensures.values due are in
    let all : list_all (is_same first) p.0 ≡ true =
    ap (λ (o : List ℕ). list_all (is_same o) p.0) (sym c.bytes.ensures.octets) ∙ sym (c.are_same.ensures p.0 p.2)
    ∙ c.if-are_same.true in
    one_says first p.0 due p.1 all

pub returns-else-are_same-clause-one : goal.returns-else-are_same-clause-one
returns-else-are_same-clause-one c = λ due are value one.
    let first : List ℕ = octets_of c.in_ok-first.first in
    let p = c.in_ok-first.ensures.values due are in
    let other : list_all (is_same first) p.0 ≡ false =
    ap (λ (o : List ℕ). list_all (is_same o) p.0) (sym c.bytes.ensures.octets) ∙ sym (c.are_same.ensures p.0 p.2)
    ∙ c.if-are_same.false in
    one_only first p.0 due p.1 other value one

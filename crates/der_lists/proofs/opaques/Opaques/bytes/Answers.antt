use Rattle.std.proofs.Common.{List, ℕ, ap, subst, ◌∙◌}
use Rattle.std.specs.List.{flat_map, AllByRecursion}
use Rattle.der_core.specs.Values.{IsOpaque}
use Rattle.der_lists.proofs.OpaqueLists.{opaques_there}
use Rattle.der_lists.proofs.opaques.Opaques.bytes.Goals as goal

pub returns-clause-joined : goal.returns-clause-joined
returns-clause-joined c =
    let there = opaques_there c.self.inside.list c.rest.ensures.octets c.self.invariant.0 in
    c.rest.ensures.rest ∙ there.0 ∙ ap (λ (xs : List (List ℕ)). flat_map (λ x. x) xs) c.self.view_is

pub returns-clause-each : goal.returns-clause-each
returns-clause-each c = subst (AllByRecursion IsOpaque) c.self.view_is
    (opaques_there c.self.inside.list c.rest.ensures.octets c.self.invariant.0).1

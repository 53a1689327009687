use Rattle.std.proofs.Common.{ℕ, List, refl, sym, subst}
use Rattle.tsp_requester.specs.Answering.{IsNamed}
use Rattle.tsp_requester.proofs.AnsweringLaw.{is_first, not_first, denied}
use Rattle.tsp_requester.proofs.answering.names_one_of.Goals as goal

pub returns-then-is_named : goal.returns-then-is_named
returns-then-is_named c = (
  λ h. is_first
      (IsNamed c.args.attributes.now) c.args.elements.now c.loop-element.left c.in-Some.others c.in-Some.element
      c.loop-element.invariant c.in-Some.ensures
      (subst (λ (b : List ℕ). IsNamed c.args.attributes.now b) c.whole.ensures
      (c.is_named.ensures.0 c.if-is_named.true)),
  λ a. refl,
)

pub loop-element-preserved : goal.loop-element-preserved
loop-element-preserved c =
    not_first (IsNamed c.args.attributes.now) c.args.elements.now c.loop-element.left c.in-Some.others c.in-Some.element
    c.loop-element.invariant c.in-Some.ensures
    (λ n. denied
    (IsNamed c.args.attributes.now c.whole.result.now) c.is_named.result c.is_named.ensures c.if-is_named.false
    (subst (λ (b : List ℕ). IsNamed c.args.attributes.now b) (sym c.whole.ensures) n))

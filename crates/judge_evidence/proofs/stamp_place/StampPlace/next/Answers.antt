use Rattle.std.proofs.Common.{◌≡◌, Option, Some, None, MatchOption, IfSome, inl, subst}
use Rattle.check_evidence.specs.Places.{Place}
use Rattle.judge_evidence.specs.Going.{IsLastPlace, IsNextPlace, GoesOn, EndsAt}
use Rattle.judge_evidence.specs.PlaceParts.{place_of}
use Rattle.judge_evidence.proofs.Going.{next_goes_on, last_ends}
use Rattle.judge_evidence.proofs.PlaceParts.{next_parts, next_in_chain, later_parts, after_chain}
use Rattle.judge_evidence.proofs.stamp_place.StampPlace.next.Goals as goal

pub invariant_of-result : goal.invariant_of-result
invariant_of-result c = next_parts _ _ _ _ _ _ _ c.self.invariant c.in-Some.next c.in-Some.others c.in-Some.ensures

pub first_of-requires : goal.first_of-requires
first_of-requires c = later_parts _ _ _ _ _ _ _ c.self.invariant

pub returns-in-Some-clause-next : goal.returns-in-Some-clause-next
returns-in-Some-clause-next c =
    let i = c.self.inside in
    let q : Place = place_of i.chains i.onward i.later i.chain c.in-Some.next c.in-Some.others in
    subst (λ (p : Place). IsNextPlace p q) c.self.view_is
    (inl (next_in_chain _ _ _ _ _ _ _ c.self.invariant c.in-Some.next c.in-Some.others c.in-Some.ensures))

pub returns-in-Some-clause-goes_on : goal.returns-in-Some-clause-goes_on
returns-in-Some-clause-goes_on c = next_goes_on _ _ (returns-in-Some-clause-next c)

pub returns-in-None-clause-next : goal.returns-in-None-clause-next
returns-in-None-clause-next c =
    subst (λ (p : Place). MatchOption c.first_of.result (IsLastPlace p) (IsNextPlace p)) c.self.view_is
    (after_chain _ _ _ _ _ _ _ c.self.invariant c.first_of.result c.in-None.ensures c.first_of.ensures)

goes_on : (p : Place) (q : Option Place) → MatchOption q (IsLastPlace p) (IsNextPlace p) → IfSome q (GoesOn p)
goes_on p None h = tt
goes_on p (Some q) h = next_goes_on p q h

ends : (p : Place) (q : Option Place) → MatchOption q (IsLastPlace p) (IsNextPlace p) → q ≡ None → EndsAt p
ends p None h e = last_ends p h
ends p (Some q) h e = absurd cc

pub returns-in-None-clause-goes_on : goal.returns-in-None-clause-goes_on
returns-in-None-clause-goes_on c = goes_on c.args.self c.first_of.result (returns-in-None-clause-next c)

pub returns-in-None-clause-ends : goal.returns-in-None-clause-ends
returns-in-None-clause-ends c = ends c.args.self c.first_of.result (returns-in-None-clause-next c)

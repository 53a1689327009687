use Rattle.std.proofs.Common.{subst}
use Rattle.std.specs.Option.{option_copied}
use Rattle.check_evidence.specs.Places.{following}
use Rattle.judge_evidence.proofs.EndOfUse.{IsAheadBy, until_last, until_ahead, no_until}
use Rattle.judge_evidence.proofs.lapsing.until_of.Goals as goal

pub returns-then-last-clause-found : goal.returns-then-last-clause-found
returns-then-last-clause-found c = λ time.
    let p = c.args.place.now in
    until_last (following p) c.args.at p.stamp c.args.last (option_copied c.args.ahead) c.args.moment c.unwrap_or.result
    c.requires c.if-last.true c.unwrap_or.ensures time

pub returns-in-Some-clause-found : goal.returns-in-Some-clause-found
returns-in-Some-clause-found c = λ time.
    let p = c.args.place.now in
    until_ahead (following p) c.args.at p.stamp c.args.last c.in-Some.ahead.now c.moment.result
    (subst (λ o. IsAheadBy (following p) c.args.last (option_copied o)) c.in-Some.is c.requires) c.if-last.false
    c.moment.ensures

pub returns-in-None-clause-none : goal.returns-in-None-clause-none
returns-in-None-clause-none c = λ none shows.
    let p = c.args.place.now in
    no_until (following p) c.args.last
    (subst (λ o. IsAheadBy (following p) c.args.last (option_copied o)) c.in-None.is c.requires) c.if-last.false shows

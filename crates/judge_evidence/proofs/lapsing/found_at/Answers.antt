use Rattle.std.proofs.Common.{rules, ◌≡◌, Option, None, subst}
use Rattle.std.specs.Option.{option_copied}
use Rattle.evidence_stamps.specs.StateValue.{StateValue, IsStateOf}
use Rattle.judge_evidence.specs.Terms.{grounds_of}
use Rattle.judge_evidence.proofs.EndOfUse.{found_if, fits_at}
use Rattle.judge_evidence.proofs.lapsing.found_at.Goals as goal

pub returns-in_default-clause-judged : goal.returns-in_default-clause-judged
returns-in_default-clause-judged g c = λ ds f shows.
    let t = grounds_of c.args.terms.now (g.V.Verifier.vouches c.args.verifier.now) in
    let time = fits_at t ds c.args.place.now c.args.fit.now.alg c.args.fit.now.moment f in
    let none : option_copied c.args.state ≡ None = search rules in
    absurd (subst (λ (o : Option StateValue). IsStateOf c.args.place.now.stamp.stamp o) none c.requires.state time.0
    time.1)

pub returns-clause-judged : goal.returns-clause-judged
returns-clause-judged g c = λ ds f.
    let t = grounds_of c.args.terms.now (g.V.Verifier.vouches c.args.verifier.now) in
    let time = fits_at t ds c.args.place.now c.args.fit.now.alg c.args.fit.now.moment f in
    found_if t ds c.args.place.now c.lapse_at.result (c.lapse_at.ensures.judged ds f
    (c.in-Some-until_of.ensures.found time))

pub returns-in_default-clause-only : goal.returns-in_default-clause-only
returns-in_default-clause-only g c = λ ds f test tests. g.V.Verifier.asked_nothing test _

pub returns-in_default-until_of-clause-only : goal.returns-in_default-until_of-clause-only
returns-in_default-until_of-clause-only g c = λ ds f test tests. g.V.Verifier.asked_nothing test _

pub returns-clause-only : goal.returns-clause-only
returns-clause-only g c = λ ds f.
    let t = grounds_of c.args.terms.now (g.V.Verifier.vouches c.args.verifier.now) in
    c.lapse_at.ensures.only ds f (c.in-Some-until_of.ensures.found (fits_at t ds c.args.place.now c.args.fit.now.alg
    c.args.fit.now.moment f))

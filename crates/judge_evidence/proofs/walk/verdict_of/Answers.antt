use Rattle.std.proofs.Common.{rules, ◌≡◌, true, false, Some, None}
use Rattle.judge_evidence.proofs.Running.{lapsed_fails, others_fail, over_shows}
use Rattle.judge_evidence.proofs.walk.verdict_of.Goals as goal

pub returns-in-Some-clause-judged : goal.returns-in-Some-clause-judged
returns-in-Some-clause-judged c = λ g chains ds h.
    lapsed_fails g ds chains c.args.run.now h c.in-Some.lapse c.in-Some.is

pub returns-in-Some-begun-clause-judged : goal.returns-in-Some-begun-clause-judged
returns-in-Some-begun-clause-judged c = λ g chains ds h.
    let none : c.args.run.now.lapsed ≡ None = search rules in
    let is : c.args.run.now.begun ≡ Some h.beginning = h.begun in
    let others : h.beginning.others ≡ true = cc in
    others_fail g ds chains c.args.run.now h h.beginning none is others

pub returns-in-Some-2-clause-judged : goal.returns-in-Some-2-clause-judged
returns-in-Some-2-clause-judged c = λ g chains ds h.
    let none : c.args.run.now.lapsed ≡ None = search rules in
    let others : c.in-Some-2.begun.others ≡ false = cc in
    over_shows g ds chains c.args.run.now h c.in-Some-2.begun none c.in-Some-2.is others

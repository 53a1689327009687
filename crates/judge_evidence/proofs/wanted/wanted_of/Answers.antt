use Rattle.std.proofs.Common.{refl}
use Rattle.judge_evidence.proofs.Wanting.{next_wanted, all_wanted}
use Rattle.judge_evidence.proofs.wanted.wanted_of.Goals as goal

pub loop-next-preserved : goal.loop-next-preserved
loop-next-preserved c = next_wanted c.args.chains.now c.loop-next.place c.loop-next.wanted
    c.with_alg_of-wanted.result c.loop-next.invariant c.with_alg_of-wanted.ensures.kept c.with_alg_of-wanted.ensures.own
    c.with_alg_of-wanted.ensures.only c.in-Some.next c.in-Some.ensures.goes_on

pub returns-in-None : goal.returns-in-None
returns-in-None c = all_wanted c.args.chains.now c.loop-next.place c.loop-next.wanted c.with_alg_of-wanted.result
    c.loop-next.invariant c.with_alg_of-wanted.ensures.kept c.with_alg_of-wanted.ensures.own
    c.with_alg_of-wanted.ensures.only (c.in-None.ensures.ends refl)

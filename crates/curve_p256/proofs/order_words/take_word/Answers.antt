use Rattle.std.proofs.Common.{rules, arith, ◌^◌, ◌<◌}
use Rattle.curve_p256.specs.Numbers.{five_words, four_words, order}
use Rattle.curve_words.proofs.Montgomery.{step_small}
use Rattle.curve_p256.proofs.order_words.take_word.Goals as goal

pub returns-clause-small : goal.returns-clause-small
returns-clause-small c =
    let times_fits : c.clear_low-clear.result.times < 2 ^ 64 = search rules in
    step_small order _ (five_words c.args.t.t0 c.args.t.t1 c.args.t.t2 c.args.t.t3 c.args.t.t4) c.args.a
    (four_words c.args.b.w0 c.args.b.w1 c.args.b.w2 c.args.b.w3) c.clear_low-clear.result.times
    (omega arith) c.requires.small (omega arith) c.requires.reduced times_fits

use Rattle.curve_p384.proofs.WordSteps.{listed}
use Rattle.curve_p384.proofs.numbers.to_words.Goals as goal

pub returns : goal.returns
returns c = listed c.args.a.w0 c.args.a.w1 c.args.a.w2 c.args.a.w3 c.args.a.w4 c.args.a.w5

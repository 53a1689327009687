use Rattle.curve_p384.proofs.WordSteps.{read_words}
use Rattle.curve_p384.proofs.numbers.from_words.Goals as goal

pub returns : goal.returns
returns c = read_words c.args.words.now c.told-words

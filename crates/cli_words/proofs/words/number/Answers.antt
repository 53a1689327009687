use Rattle.std.specs.Str.Parse.{ParsesUnsigned, ExplainsUnsignedError, HasUnsignedDigitsIfOk}
use Rattle.cli_words.proofs.Numbers.{number_in}
use Rattle.cli_words.proofs.words.number.Goals as goal

pub returns : goal.returns
returns c = number_in (λ t x. ParsesUnsigned 64 10 t x × ExplainsUnsignedError 10 t x × HasUnsignedDigitsIfOk t x)
    (λ t x g. g.0) _ _
    c.get_one.result c.get_one.ensures.none c.get_one.ensures.value

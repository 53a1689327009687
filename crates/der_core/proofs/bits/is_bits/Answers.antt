use Rattle.std.proofs.Common.{◌∙◌, arith}
use Rattle.der_core.proofs.BitsEnds.{ends_decide}
use Rattle.der_core.proofs.bits.is_bits.Goals as goal

pub returns-then-unused-lt8 : goal.returns-then-unused-lt8
returns-then-unused-lt8 c = c.ends_in_zeros.ensures ∙ ends_decide c.args.body.now (omega arith) (omega arith)

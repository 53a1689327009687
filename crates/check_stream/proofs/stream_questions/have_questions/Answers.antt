use Rattle.std.proofs.Common.{arith, subst}
use Rattle.der_core.specs.Element.{IsBytes}
use Rattle.check_questions.proofs.Files.{some_of_signers}
use Rattle.check_stream.proofs.stream_questions.have_questions.Goals as goal

pub returns : goal.returns
returns c = some_of_signers c.args.trust.now c.args.signers.now
    (subst IsBytes c.requires (λ i. omega (arith, c.type_inv.octets i)))

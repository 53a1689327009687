use Rattle.der_core.proofs.laws.inputs_are_judged.Goals as goal
use Rattle.der_core.proofs.Judged.{judged}

pub returns : goal.returns
returns c = judged

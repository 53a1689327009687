use Rattle.der_core.proofs.laws.encodings_have_no_fault.Goals as goal
use Rattle.der_core.proofs.OpenlyRefuted.{openly_refuted}

pub returns : goal.returns
returns c = openly_refuted

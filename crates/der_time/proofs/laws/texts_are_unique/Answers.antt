use Rattle.der_time.proofs.Unique.{texts_are_unique}
use Rattle.der_time.proofs.laws.texts_are_unique.Goals as goal

pub returns : goal.returns
returns c = texts_are_unique

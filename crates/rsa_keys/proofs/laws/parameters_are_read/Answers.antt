use Rattle.rsa_keys.proofs.ParameterLaws.{pss_says}
use Rattle.rsa_keys.proofs.laws.parameters_are_read.Goals as goal

pub returns : goal.returns
returns c = pss_says

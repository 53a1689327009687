use Rattle.rsa_keys.proofs.KeyLaws.{keys_say}
use Rattle.rsa_keys.proofs.laws.keys_are_read.Goals as goal

pub returns : goal.returns
returns c = keys_say

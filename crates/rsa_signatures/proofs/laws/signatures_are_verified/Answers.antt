use Rattle.rsa_signatures.proofs.Told.{info_says, pkcs1_says, pss_says}
use Rattle.rsa_signatures.proofs.laws.signatures_are_verified.Goals as goal

pub returns : goal.returns
returns c = record { pkcs1 = pkcs1_says; info = info_says; pss = pss_says }

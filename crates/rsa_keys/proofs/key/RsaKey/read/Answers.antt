use Rattle.std.proofs.Common.{◌∙◌}
use Rattle.rsa_keys.proofs.KeyLaws.{found, keys_say}
use Rattle.rsa_keys.proofs.key.RsaKey.read.Goals as goal

pub returns-clause-found : goal.returns-clause-found
returns-clause-found c =
    found c.read_key.result c.args.octets.now (λ i. (c.type_inv.octets i).fits) c.read_key.ensures

pub returns-clause-only : goal.returns-clause-only
returns-clause-only c = λ key k.
    c.read_key.ensures ∙ (keys_say c.args.octets.now key (λ i. (c.type_inv.octets i).fits)).1 k

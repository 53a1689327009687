use Rattle.std.proofs.Common.{◌≡◌, List, ℕ, rules}
use Rattle.der_core.specs.Lists.{is_same}
use Rattle.der_core.proofs.Encoded.{same}
use Rattle.der_core.proofs.SameOctets.{is_then_same}
use Rattle.rsa_keys.proofs.Judging.{same_answer}
use Rattle.rsa_keys.proofs.octets.is_same.Goals as goal

pub returns : goal.returns
returns c =
    let octets : List ℕ = c.args.octets.now in
    let others : List ℕ = c.args.others.now in
    same_answer c.eq.result (is_same octets others) (octets ≡ others) (search rules)
    (same octets others, is_then_same octets others)

use Rattle.der_time.proofs.Texts.{other_length}
use Rattle.der_time.proofs.generalized.is_end.Goals as goal

pub returns-then-octets-ne1 : goal.returns-then-octets-ne1
returns-then-octets-ne1 c = other_length c.args.octets.now c.if-octets-ne1.true

use Rattle.std.proofs.Common.{◌∙◌, sym, ap}
use Rattle.der_core.specs.Lists.{is_same}
use Rattle.der_core.specs.Element.{el, len}
use Rattle.cert_types.specs.Purposes.{id_time_stamping}
use Rattle.der_core.proofs.SameOctets.{same_again}
use Rattle.cert_types.proofs.DistinctReader.{same_is}
use Rattle.cert_types.proofs.purposes.names_stamping_alone.Goals as goal

pub returns : goal.returns
unfolding len
returns c = (
  λ yes. same_is c.args.octets.now (el 0x30 (el 0x06 id_time_stamping)) (sym c.is_same.ensures ∙ yes),
  λ same. c.is_same.ensures ∙ ap (λ o. is_same o (el 0x30 (el 0x06 id_time_stamping))) same
      ∙ same_again (el 0x30 (el 0x06 id_time_stamping)),
)

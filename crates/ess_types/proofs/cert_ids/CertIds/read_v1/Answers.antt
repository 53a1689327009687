use Rattle.der_core.specs.Reading.{within}
use Rattle.der_lists.specs.Items.{all_in}
use Rattle.ess_types.specs.SigningCertificateReading.{plain_id_in}
use Rattle.ess_types.proofs.SigningCertificateReaders.{plain_list, plain_values}
use Rattle.ess_types.proofs.cert_ids.CertIds.read_v1.Goals as goal

pub invariant_of-result : goal.invariant_of-result
invariant_of-result c = plain_list c.args.list
    (all_in (within 0x30 plain_id_in) c.args.list) c.rest-octets.ensures.octets c.in_ok-scan_items.ensures.1

pub returns : goal.returns
returns c = plain_values c.args.list
    (all_in (within 0x30 plain_id_in) c.args.list) c.rest-octets.ensures.octets c.in_ok-scan_items.ensures.1

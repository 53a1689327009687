use Rattle.big_numbers.proofs.OctetLaws.{bits_are, i2osp-os2ip, length-i2osp, os2ip-i2osp}
use Rattle.big_numbers.proofs.laws.octets_stand_for_numbers.Goals as goal

pub returns : goal.returns
returns c = record {
  octets = i2osp-os2ip;
  numbers = os2ip-i2osp;
  length = λ len x. length-i2osp x len;
  bits = bits_are;
}

use Rattle.std.proofs.Common.{◌≡◌, ◌^◌, ◌<◌, take}
use Rattle.curve_points.specs.Words.{number}
use Rattle.ecdsa_octets.specs.Octets.{number_of}
use Rattle.ecdsa_octets.proofs.numbers.number_of.Given as goal

abbrev pub invariant-loop-i : goal.invariant-loop-i
invariant-loop-i g l = record {
  value : number l.now ≡ number_of (take l.i l.octets);
  small : number l.now < 256 ^ l.i;
}

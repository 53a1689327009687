use Rattle.std.proofs.Common.{◌≢◌, get_or-set_other, ◌∙◌, arith}
use Rattle.rsa_signatures.proofs.MaskSteps.{xor_goes_on}
use Rattle.rsa_signatures.proofs.masks.add_octets.Goals as goal

pub octets-preserved : goal.octets-preserved
octets-preserved c = record {
  added = xor_goes_on c.octets.octets c.args.octets.now c.args.mask.now c.octets.i
      (omega arith) c.octets.auto.octets c.requires
      c.octets.invariant.added (c.octets.invariant.rest c.octets.i (omega arith));
  rest = λ k h.
      let ne : k ≢ c.octets.i = omega arith in
      get_or-set_other c.octets.octets c.octets.i k _ 0 ne ∙ c.octets.invariant.rest k (omega arith);
}

use Rattle.std.proofs.Common.{rules, refl, ◌+◌, ◌*◌, length}
use Rattle.ecdsa_octets.proofs.NumberSteps.{next_number, still_small, too_long, grows}
use Rattle.ecdsa_octets.proofs.numbers.number_of.Goals as goal

pub loop-i-preserved : goal.loop-i-preserved
loop-i-preserved g c = record {
  value = next_number _ _ c.loop-i.i c.args.octets.now c.loop-i-test.true c.loop-i.invariant.value
      c.in-Some.ensures.found;
  small = still_small _ _ c.loop-i.i _ c.loop-i.invariant.small (search rules) c.in-Some.ensures.found;
}

pub returns-in-None-clause-none : goal.returns-in-None-clause-none
returns-in-None-clause-none g c e =
    grows (c.loop-i.i + 1) _ _ c.args.octets.now (c.in-None.ensures.none refl)
    (next_number _ _ c.loop-i.i c.args.octets.now c.loop-i-test.true c.loop-i.invariant.value refl)

pub returns-in-None-clause-long : goal.returns-in-None-clause-long
returns-in-None-clause-long g c e =
    too_long _ _ c.loop-i.i (8 * g.row.WORDS) (length c.args.octets.now) (c.in-None.ensures.none refl)
    c.loop-i.invariant.small (search rules) c.loop-i-test.true

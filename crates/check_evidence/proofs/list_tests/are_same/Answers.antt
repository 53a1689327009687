use Rattle.std.proofs.Common.{◌≡◌, ℕ, List, true, false, rules}
use Rattle.std.specs.List.{list_all}
use Rattle.der_core.specs.Lists.{is_same}
use Rattle.digests.specs.Digests.{octets_of}
use Rattle.check_evidence.proofs.Going.{all_left, one_fewer, settled, none_left, all_on, all_off}
use Rattle.check_evidence.proofs.list_tests.are_same.Goals as goal

pub loop-value-init : goal.loop-value-init
loop-value-init c = record {
  given = c.requires;
  stays = all_left c.args.alg c.args.covered.now (list_all (is_same c.args.octets.now));
}

pub loop-value-preserved : goal.loop-value-preserved
loop-value-preserved c =
    let v : List ℕ = octets_of c.in-Some.value in
    let on : (is_same c.args.octets.now) v ≡ true = search rules in
    record {
      given = c.in-Some.ensures.given;
      stays = one_fewer c.args.alg c.args.covered.now c.loop-value.left
          (list_all (is_same c.args.octets.now)) c.loop-value.invariant.stays v
          c.in-Some.others c.in-Some.ensures.values (all_on (is_same c.args.octets.now) v on);
    }

pub returns-then-not-is_same : goal.returns-then-not-is_same
returns-then-not-is_same c =
    let v : List ℕ = octets_of c.in-Some.value in
    let off : (is_same c.args.octets.now) v ≡ false = search rules in
    settled c.args.alg c.args.covered.now c.loop-value.left
    (list_all (is_same c.args.octets.now)) c.loop-value.invariant.stays v c.in-Some.others
    false c.in-Some.ensures.values (all_off (is_same c.args.octets.now) v off)

pub returns : goal.returns
returns c = none_left c.args.alg c.args.covered.now c.loop-value.left
    (list_all (is_same c.args.octets.now)) c.loop-value.invariant.stays
    c.in_default.ensures.values

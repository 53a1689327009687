use Rattle.std.proofs.Common.{◌≡◌, ℕ, List, true, false, rules}
use Rattle.std.specs.List.{list_all}
use Rattle.digests.specs.Digests.{octets_of}
use Rattle.check_evidence.specs.ListTests.{is_among}
use Rattle.check_evidence.proofs.Going.{all_left, one_fewer, settled, none_left, all_on, all_off}
use Rattle.check_evidence.proofs.list_tests.are_among.Goals as goal

pub loop-value-init : goal.loop-value-init
loop-value-init c = record {
  given = c.requires;
  stays = all_left c.args.alg c.args.covered.now (list_all (is_among c.args.values.now));
}

pub loop-value-preserved : goal.loop-value-preserved
loop-value-preserved c =
    let v : List ℕ = octets_of c.in-Some.value in
    let on : (is_among c.args.values.now) v ≡ true = search rules in
    record {
      given = c.in-Some.ensures.given;
      stays = one_fewer c.args.alg c.args.covered.now c.loop-value.left
          (list_all (is_among c.args.values.now)) c.loop-value.invariant.stays v
          c.in-Some.others c.in-Some.ensures.values (all_on (is_among c.args.values.now) v on);
    }

pub returns-then-not-is_listed : goal.returns-then-not-is_listed
returns-then-not-is_listed c =
    let v : List ℕ = octets_of c.in-Some.value in
    let off : (is_among c.args.values.now) v ≡ false = search rules in
    settled c.args.alg c.args.covered.now c.loop-value.left
    (list_all (is_among c.args.values.now)) c.loop-value.invariant.stays v c.in-Some.others
    false c.in-Some.ensures.values (all_off (is_among c.args.values.now) v off)

pub returns : goal.returns
returns c = none_left c.args.alg c.args.covered.now c.loop-value.left
    (list_all (is_among c.args.values.now)) c.loop-value.invariant.stays
    c.in_default.ensures.values

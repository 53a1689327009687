use Rattle.std.proofs.Common.{◌≡◌, ℕ, List, true, false, rules}
use Rattle.std.specs.List.{list_any}
use Rattle.der_core.specs.Lists.{is_same}
use Rattle.digests.specs.Digests.{octets_of}
use Rattle.check_evidence.proofs.Going.{all_left, one_fewer, settled, none_left, any_on, any_off}
use Rattle.check_evidence.proofs.list_tests.is_of.Goals as goal

pub loop-other-init : goal.loop-other-init
loop-other-init c = record {
  given = c.requires;
  stays = all_left c.args.alg c.args.covered.now (list_any (is_same c.args.value.now));
}

pub loop-other-preserved : goal.loop-other-preserved
loop-other-preserved c =
    let v : List ℕ = octets_of c.in-Some.other in
    let on : (is_same c.args.value.now) v ≡ false = search rules in
    record {
      given = c.in-Some.ensures.given;
      stays = one_fewer c.args.alg c.args.covered.now c.loop-other.left
          (list_any (is_same c.args.value.now)) c.loop-other.invariant.stays v
          c.in-Some.others c.in-Some.ensures.values (any_on (is_same c.args.value.now) v on);
    }

pub returns-then-is_same : goal.returns-then-is_same
returns-then-is_same c =
    let v : List ℕ = octets_of c.in-Some.other in
    let off : (is_same c.args.value.now) v ≡ true = search rules in
    settled c.args.alg c.args.covered.now c.loop-other.left
    (list_any (is_same c.args.value.now)) c.loop-other.invariant.stays v c.in-Some.others
    true c.in-Some.ensures.values (any_off (is_same c.args.value.now) v off)

pub returns : goal.returns
returns c = none_left c.args.alg c.args.covered.now c.loop-other.left
    (list_any (is_same c.args.value.now)) c.loop-other.invariant.stays
    c.in_default.ensures.values

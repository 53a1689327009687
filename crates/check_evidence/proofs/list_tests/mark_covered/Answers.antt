use Rattle.std.proofs.Common.{◌≡◌, ℕ, List, sym, subst}
use Rattle.std.specs.Prelude.{true}
use Rattle.digests.specs.Digests.{octets_of}
use Rattle.check_evidence.specs.ListTests.{is_among}
use Rattle.check_evidence.proofs.Marking.{all_within, first_within, others_within}
use Rattle.check_evidence.proofs.list_tests.mark_covered.Goals as goal

pub loop-value-init : goal.loop-value-init
loop-value-init c = record {
  given = c.requires.given;
  stays = all_within c.args.alg c.args.covered.now;
  marked = λ due are old. old;
}

pub loop-value-preserved : goal.loop-value-preserved
loop-value-preserved c =
    let h = c.loop-value.invariant in
    let v : List ℕ = octets_of c.in-Some.value in
    record {
      given = c.in-Some.ensures.given;
      stays = others_within c.args.alg c.args.covered.now c.loop-value.left h.stays v c.in-Some.others
          c.in-Some.ensures.values;
      marked = λ due are old. c.mark.ensures due
          (subst (λ (o : List ℕ). is_among due o ≡ true) (sym c.bytes.ensures.octets)
          (first_within c.args.alg c.args.covered.now c.loop-value.left h.stays v c.in-Some.others
          c.in-Some.ensures.values due are)) (h.marked due are old);
    }

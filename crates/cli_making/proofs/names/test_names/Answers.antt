use Rattle.std.proofs.Common.{ap, arith, sym, ◌∙◌, length}
use Rattle.std.specs.Str.{IsUtf8}
use Rattle.std.proofs.lemmas.Str.{IsUtf8-from_is_utf8}
use Rattle.cli_making.proofs.Walked.{all_walked, next_all, next_number}
use Rattle.cli_making.proofs.names.test_names.Goals as goal

pub loop-sum-preserved : goal.loop-sum-preserved
loop-sum-preserved c =
    let text = sym c.in_ok-has_text.ensures ∙ c.if-not-branch.false in
    let longer = ap length c.in-Some.ensures in
    record {
      numbered = omega (arith, longer, c.loop-sum.invariant.numbered);
      named = next_all (λ s. IsUtf8 s.name) c.in-Some.sum _ _ _ c.in-Some.ensures
          (IsUtf8-from_is_utf8 c.in-Some.sum.name text) c.loop-sum.invariant.named;
      same = next_number c.in-Some.sum _ _ _ c.in-Some.ensures text ∙ c.loop-sum.invariant.same;
    }

pub returns-clause-named : goal.returns-clause-named
returns-clause-named c = all_walked (λ s. IsUtf8 s.name) c.loop-sum.left c.args.sums.now c.in_default.ensures
    c.loop-sum.invariant.named

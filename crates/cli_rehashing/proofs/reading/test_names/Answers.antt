use Rattle.std.proofs.Common.{refl, inr}
use Rattle.std.specs.Str.{IsUtf8}
use Rattle.cli_renewing.proofs.Zips.{all_push}
use Rattle.cli_rehashing.specs.Lines.{AreNamed}
use Rattle.cli_rehashing.proofs.Named.{text_there, no_text_there}
use Rattle.cli_rehashing.proofs.Walks.{along, begins, ends, goes_on}
use Rattle.cli_rehashing.proofs.reading.test_names.Goals as goal

pub loop-sum-init : goal.loop-sum-init
loop-sum-init c = begins (λ front. AreNamed front) _ _ c.again-left.ensures tt

pub loop-sum-preserved : goal.loop-sum-preserved
loop-sum-preserved c = goes_on (λ front. AreNamed front) _ _ c.in-Some.sum _ c.in-Some.ensures c.loop-sum.invariant
    (λ front. AreNamed front)
    (all_push (λ s. IsUtf8 s.name) c.loop-sum.invariant.front c.in-Some.sum c.loop-sum.invariant.so
    (text_there c.first-first.result.name c.in-Some.sum.name c.in_ok-has_text.field-0 c.first-first.ensures.name
    c.in_ok-has_text.ensures c.if-not-branch.false))

pub returns-then-not-branch-clause-refused : goal.returns-then-not-branch-clause-refused
returns-then-not-branch-clause-refused c = inr (record {
  front = c.loop-sum.invariant.front;
  misnamed = c.in-Some.sum;
  others = _;
  all = along (λ front. AreNamed front) _ _ c.in-Some.sum _ c.in-Some.ensures c.loop-sum.invariant;
  named = c.loop-sum.invariant.so;
  no_text = no_text_there c.first-first.result.name c.in-Some.sum.name c.in_ok-has_text.field-0
      c.first-first.ensures.name c.in_ok-has_text.ensures c.if-not-branch.true;
  told = refl;
})

pub returns-clause-named : goal.returns-clause-named
returns-clause-named c = ends (λ front. AreNamed front) c.loop-sum.left c.args.sums.now c.in_default.ensures
    c.loop-sum.invariant

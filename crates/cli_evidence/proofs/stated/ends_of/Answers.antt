use Rattle.std.proofs.Common.{ℕ, List, [], inr}
use Rattle.std.specs.Borrow.{Bor}
use Rattle.std.proofs.lemmas.Result.{err_from_is_err_and}
use Rattle.check_evidence.specs.Grounds.{AlgEnd}
use Rattle.cli_failures.specs.Ends.{IsEndIn, StatesNoEnd}
use Rattle.cli_renewing.proofs.Zips.{any_at, zip_more}
use Rattle.cli_evidence.proofs.stated.ends_of.Goals as goal

pub loop-word-preserved : goal.loop-word-preserved
loop-word-preserved c =
    rw c.in_ok-push.ensures.items
    (zip_more (λ (w : Bor (List ℕ)) (e : AlgEnd). IsEndIn w.now e) c.args.words.now.items
    c.deref-word-items.result.now c.loop-word.ends.items c.loop-word.word-index
    (record { ref_ptr = (0, 0); now = [] }) c.in_ok-end_of.field-0 c.deref-word-items.ensures.value
    c.loop-word-test.true c.loop-word.invariant c.in_ok-end_of.ensures.found)

pub returns-in_err-end_of-clause-refused : goal.returns-in_err-end_of-clause-refused
returns-in_err-end_of-clause-refused c =
    let p = err_from_is_err_and c.from_residual.result c.from_residual.ensures.1 in
    rw (p.1, p.2) (inr (
      c.in_err-end_of.ensures.refused.0,
      any_at (λ (w : Bor (List ℕ)). StatesNoEnd w.now) c.args.words.now.items c.deref-word-items.result.now
          c.loop-word.word-index (record { ref_ptr = (0, 0); now = [] }) c.deref-word-items.ensures.value
          c.loop-word-test.true c.in_err-end_of.ensures.refused.1,
    ))

use Rattle.std.proofs.Common.{◌≡◌, ◌∙◌, ℕ, List, true, sym, ap}
use Rattle.check_evidence.specs.CoveredValues.{AreValues}
use Rattle.check_evidence.specs.ListTests.{is_among}
use Rattle.check_evidence.proofs.Marking.{none_marked, value_there, others_searchable, passed_one}
use Rattle.check_evidence.proofs.list_tests.pass_marked.Goals as goal
use Rattle.check_evidence.proofs.list_tests.pass_marked.Goals.{else-not-marked-via-then-not-marked+else-not-is_of}
use Rattle.check_evidence.proofs.list_tests.pass_marked.Goals.{else-not-marked-via-else-not-marked}

pub loop-marked-preserved : goal.loop-marked-preserved
loop-marked-preserved c =
    let h = c.loop-marked.invariant in
    let values = c.args.values.now in
    let left = c.loop-marked.left in
    let v : List ℕ = c.in-Some.value in
    let behind = c.in-Some.behind in
    let there = value_there values left c.loop-marked.marked-index v behind h.behind c.in-Some.ensures in
    let is : (due : List (List ℕ)) → AreValues c.args.alg c.args.covered.now due → is_among due v ≡ true =
    λ due are. elim c.else-not-marked.branch [
      | else-not-marked-via-then-not-marked+else-not-is_of w ↦
          ap (is_among due) (sym w.bytes.ensures) ∙ sym (w.is_of.ensures due are) ∙ w.if-not-is_of.false
      | else-not-marked-via-else-not-marked w ↦ sym (ap (is_among due) there.0)
          ∙ c.mark_covered.ensures due are
          (none_marked due values 16384) c.loop-marked.marked-index w.if-not-marked.false
    ] in
    record {
      behind = there.1;
      searchable = others_searchable c.args.size left v behind c.in-Some.ensures h.searchable;
      passed = λ due are. passed_one due values left v behind c.in-Some.ensures (is due are) (h.passed due are);
    }

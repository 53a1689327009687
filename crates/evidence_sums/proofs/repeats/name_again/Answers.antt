use Rattle.std.proofs.Common.{◌≡◌, ◌∷◌, true, false, sym, ◌∙◌, arith, subst}
use Rattle.std.specs.BTreeSet.{BTreeSet, contains}
use Rattle.evidence_sums.specs.LineTests.{is_continued}
use Rattle.evidence_sums.specs.Lines.{lines_of}
use Rattle.evidence_sums.specs.Names.{unescaped}
use Rattle.evidence_sums.specs.Sums.{is_among}
use Rattle.evidence_sums.proofs.PassedNames.{Keeps, Marked, marked_cmp, keeps_more, not_kept, passed_more, passed_over}
use Rattle.evidence_sums.proofs.PassedNames.{formed_behind, is_kept, name_among, name_stands, passed_found}
use Rattle.evidence_sums.proofs.repeats.name_again.Goals as goal
use Rattle.evidence_sums.proofs.repeats.name_again.Goals.{then-not-is_continued+in_ok-insert+else-not-branch}
use Rattle.evidence_sums.proofs.repeats.name_again.Goals.{else-not-is_continued}

pub loop-left-preserved : goal.loop-left-preserved
loop-left-preserved c =
    let may = c.args.may_continue in
    let alg = c.args.alg in
    let line = c.first_line.result.0.now in
    let lines = lines_of c.loop-left.left.now in
    let others = lines_of c.first_line.result.1.now in
    let before = c.loop-left.invariant in
    let passed = before.same.0 in
    record {
      numbered = omega (arith, c.first_line.ensures.less, before.numbered);
      formed = formed_behind may alg lines others line c.first_line.ensures.cut before.formed;
      same = elim c.if-not-is_continued.branch [
        | then-not-is_continued+in_ok-insert+else-not-branch w ↦
            let name = w.escaped_in-name.result in
            let head : is_continued may line ≡ false = sym c.is_continued.ensures ∙ w.if-not-is_continued.true in
            let new : is_among passed (unescaped name.now) ≡ false =
            name_among may alg lines others line c.first_line.ensures.cut before.formed name head
            w.escaped_in-name.ensures passed c.loop-left.names w.mark_of.result before.same.1 w.mark_of.ensures
            ∙ not_kept (contains marked_cmp c.loop-left.names (w.mark_of.result, name)) w.in_ok-insert.field-0
            w.in_ok-insert.ensures.added w.if-not-branch.false in (
              unescaped name.now ∷ passed,
              subst (λ (kept : BTreeSet Marked). Keeps (unescaped name.now ∷ passed) kept) (sym w.names-is)
                  (keeps_more passed c.loop-left.names w.insert.new.self w.mark_of.result name w.mark_of.ensures
                  (name_stands may alg lines others line c.first_line.ensures.cut before.formed name head
                  w.escaped_in-name.ensures) w.in_ok-insert.ensures.updates before.same.1),
              sym (passed_more may alg passed lines others c.loop-left.number line c.first_line.ensures.cut name.now
                  head w.escaped_in-name.ensures new) ∙ before.same.2,
            )
        | else-not-is_continued w ↦ (
          passed,
          subst (λ (kept : BTreeSet Marked). Keeps passed kept) (sym w.names-is) before.same.1,
          sym (passed_over may alg passed lines others c.loop-left.number line c.first_line.ensures.cut
              (sym c.is_continued.ensures ∙ w.if-not-is_continued.false)) ∙ before.same.2,
        )
      ];
    }

pub returns-then-not-branch : goal.returns-then-not-branch
returns-then-not-branch c =
    let may = c.args.may_continue in
    let alg = c.args.alg in
    let line = c.first_line.result.0.now in
    let lines = lines_of c.loop-left.left.now in
    let others = lines_of c.first_line.result.1.now in
    let name = c.escaped_in-name.result in
    let before = c.loop-left.invariant in
    let passed = before.same.0 in
    let head : is_continued may line ≡ false = sym c.is_continued.ensures ∙ c.if-not-is_continued.true in
    let old : is_among passed (unescaped name.now) ≡ true =
    name_among may alg lines others line c.first_line.ensures.cut before.formed name head c.escaped_in-name.ensures
    passed c.loop-left.names c.mark_of.result before.same.1 c.mark_of.ensures
    ∙ is_kept (contains marked_cmp c.loop-left.names (c.mark_of.result, name)) c.in_ok-insert.field-0
    c.in_ok-insert.ensures.added c.if-not-branch.true in
    sym (passed_found may alg passed lines others c.loop-left.number line c.first_line.ensures.cut name.now head
    c.escaped_in-name.ensures old) ∙ before.same.2

use Rattle.std.proofs.Common.{◌+◌, ℕ, List, [], get_or, refl, sym, subst, inl, inr, arith}
use Rattle.std.specs.Borrow.{Bor}
use Rattle.std.proofs.lemmas.Result.{err_from_is_err_and}
use Rattle.check_verdict.specs.Checkers.{CheckerValue}
use Rattle.cli_commands.specs.Lists.{IsCheckerOf}
use Rattle.cli_files.specs.Lines.{IsLine, none, check_of}
use Rattle.cli_files.specs.Names.{line_of}
use Rattle.cli_failures.proofs.Taking.{appends_none}
use Rattle.cli_files.proofs.Telling.{cut_next, told_next, said_by, still_answers}
use Rattle.cli_files.proofs.checking.check_all.Goals as goal

pub returns-in_err-answers-clause-refused : goal.returns-in_err-answers-clause-refused
returns-in_err-answers-clause-refused g c =
    let p = err_from_is_err_and c.from_residual-in_err-answers.result c.from_residual-in_err-answers.ensures.1 in
    rw (p.1, p.2) (inl (inr c.in_err-answers.ensures.refused, refl))

pub loop-path-init : goal.loop-path-init
loop-path-init g c = record {
  told = ([], none, appends_none (g.O.Write.contents c.args.out.now));
  goes_by = subst (λ (k : CheckerValue). IsCheckerOf g.R.File.Read.remaining c.args.each.now.sha1 k)
      (sym c.of-checker.ensures)
      (c.in_ok-trust.ensures.found, c.with_sha1.ensures);
  answers = c.in_ok-answers.ensures.found;
}

pub loop-path-preserved : goal.loop-path-preserved
loop-path-preserved g c =
    let (text, said, took) = c.in_ok-put_said.ensures.put in
    let h = c.loop-path.invariant in
    let path : Bor (List ℕ) = get_or c.args.paths.now c.loop-path.path-index (record { ref_ptr = (0, 0); now = [] }) in
    record {
      told =
          told_next (IsLine g.R.File.Read.remaining g.R.File.Describes.says (check_of c.args.each.now)) c.args.paths.now
          (record { ref_ptr = (0, 0); now = [] })
          c.loop-path.path-index (c.loop-path.path-index + 1)
          (g.O.Write.contents c.args.out.now) (g.O.Write.contents c.loop-path.out)
          (g.O.Write.contents c.put_said.new.out)
          c.loop-path.worst c.worse-worst.result c.loop-path-test.true (omega arith) h.told (record {
            line = line_of path.now text;
            ends = c.in_ok-put_said.field-0;
            says = (
              text,
              said_by (λ (v : _). v.items) g.R.File.Read.remaining g.R.File.Describes.says
                  (check_of c.args.each.now path) c.check_by-said.result text
                  c.in_ok-put_said.field-0 said
                  (c.check_by-said.ensures.accepted h.goes_by h.answers)
                  (c.check_by-said.ensures.refused h.goes_by h.answers),
              refl,
            );
            takes = took;
            worse = c.worse-worst.ensures;
          });
      goes_by = subst (λ (k : CheckerValue). IsCheckerOf g.R.File.Read.remaining c.args.each.now.sha1 k)
          (sym c.check_by-said.ensures.stays) h.goes_by;
      answers = still_answers g.R.File.Read.remaining _ _ c.check_by-said.ensures.same h.answers;
    }

pub returns-in_err-put_said-clause-refused : goal.returns-in_err-put_said-clause-refused
returns-in_err-put_said-clause-refused g c =
    let p = err_from_is_err_and c.from_residual-in_err-put_said.result c.from_residual-in_err-put_said.ensures.1 in
    let (lost, (text, ends, said, begun)) = c.in_err-put_said.ensures.lost in
    let h = c.loop-path.invariant in
    let path : Bor (List ℕ) = get_or c.args.paths.now c.loop-path.path-index (record { ref_ptr = (0, 0); now = [] }) in
    rw (p.1, p.2) (inr (
      lost,
      cut_next (IsLine g.R.File.Read.remaining g.R.File.Describes.says (check_of c.args.each.now)) c.args.paths.now
          (record { ref_ptr = (0, 0); now = [] }) c.loop-path.path-index (g.O.Write.contents c.args.out.now)
          (g.O.Write.contents c.loop-path.out)
          (g.O.Write.contents c.put_said.new.out) c.loop-path.worst ends
          (line_of path.now text) c.loop-path-test.true h.told (
            text,
            said_by (λ (v : _). v.items) g.R.File.Read.remaining g.R.File.Describes.says
                (check_of c.args.each.now path) c.check_by-said.result text ends said
                (c.check_by-said.ensures.accepted h.goes_by h.answers)
                (c.check_by-said.ensures.refused h.goes_by h.answers),
            refl,
          ) begun,
    ))

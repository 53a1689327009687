use Rattle.std.proofs.Common.{◌+◌, ℕ, List, [], get_or, refl, inr, arith}
use Rattle.std.specs.Borrow.{Bor}
use Rattle.std.proofs.lemmas.Result.{err_from_is_err_and}
use Rattle.cli_files.specs.Lines.{IsLine, none, fit_of}
use Rattle.cli_files.specs.Names.{line_of}
use Rattle.cli_failures.proofs.Taking.{appends_none}
use Rattle.cli_files.proofs.Telling.{cut_next, told_next, said_by}
use Rattle.cli_files.proofs.fitting.fit_all.Goals as goal

pub loop-path-init : goal.loop-path-init
loop-path-init g c = ([], none, appends_none (g.O.Write.contents c.args.out.now))

pub loop-path-preserved : goal.loop-path-preserved
loop-path-preserved g c =
    let (text, said, took) = c.in_ok-put_said.ensures.put in
    let path : Bor (List ℕ) = get_or c.args.paths.now c.loop-path.path-index (record { ref_ptr = (0, 0); now = [] }) in
    told_next (IsLine g.R.File.Read.remaining g.R.File.Describes.says (fit_of c.args.each.now)) c.args.paths.now
    (record { ref_ptr = (0, 0); now = [] })
    c.loop-path.path-index (c.loop-path.path-index + 1)
    (g.O.Write.contents c.args.out.now) (g.O.Write.contents c.loop-path.out) (g.O.Write.contents c.put_said.new.out)
    c.loop-path.worst c.worse-worst.result c.loop-path-test.true (omega arith) c.loop-path.invariant (record {
      line = line_of path.now text;
      ends = c.in_ok-put_said.field-0;
      says = (
        text,
        said_by (λ (v : _). v.items) g.R.File.Read.remaining g.R.File.Describes.says
            (fit_of c.args.each.now path) c.text_of-said.result text
            c.in_ok-put_said.field-0 said c.text_of-said.ensures.done c.text_of-said.ensures.failed,
        refl,
      );
      takes = took;
      worse = c.worse-worst.ensures;
    })

pub returns-in_err-put_said-clause-refused : goal.returns-in_err-put_said-clause-refused
returns-in_err-put_said-clause-refused g c =
    let p = err_from_is_err_and c.from_residual.result c.from_residual.ensures.1 in
    let (lost, (text, ends, said, begun)) = c.in_err-put_said.ensures.lost in
    let path : Bor (List ℕ) = get_or c.args.paths.now c.loop-path.path-index (record { ref_ptr = (0, 0); now = [] }) in
    rw (p.1, p.2) (inr (
      lost,
      cut_next (IsLine g.R.File.Read.remaining g.R.File.Describes.says (fit_of c.args.each.now)) c.args.paths.now
          (record { ref_ptr = (0, 0); now = [] }) c.loop-path.path-index (g.O.Write.contents c.args.out.now)
          (g.O.Write.contents c.loop-path.out)
          (g.O.Write.contents c.put_said.new.out) c.loop-path.worst ends
          (line_of path.now text) c.loop-path-test.true c.loop-path.invariant (
            text,
            said_by (λ (v : _). v.items) g.R.File.Read.remaining g.R.File.Describes.says
                (fit_of c.args.each.now path) c.text_of-said.result text ends said
                c.text_of-said.ensures.done c.text_of-said.ensures.failed,
            refl,
          ) begun,
    ))

use Rattle.std.proofs.Common.{◌∙◌}
use Rattle.std.proofs.lemmas.Result.{err_from_is_err_and}
use Rattle.cli_files.proofs.Telling.{headed_whole, headed_part, headed_cut, headed_failure}
use Rattle.cli_files.proofs.asking.put_asked.Goals as goal

pub returns-in_err-put_heading-in-Ok-clause-lost : goal.returns-in_err-put_heading-in-Ok-clause-lost
returns-in_err-put_heading-in-Ok-clause-lost g c =
    let p = err_from_is_err_and c.from_residual.result c.from_residual.ensures.1 in
    let (lost, begun) = c.in_err-put_heading-in-Ok.ensures.lost in
    rw (p.1, p.2) (
      lost,
      headed_part (λ (v : _). v.items) c.args.said.now c.args.path.now c.in-Ok.text (g.O.Write.contents c.args.out.now)
          (g.O.Write.contents c.put_heading.new.out) c.in-Ok.is begun,
    )

pub returns-in_err-put-in-Ok-clause-lost : goal.returns-in_err-put-in-Ok-clause-lost
returns-in_err-put-in-Ok-clause-lost g c =
    let p = err_from_is_err_and c.from_residual-in_err-put-in-Ok.result c.from_residual-in_err-put-in-Ok.ensures.1 in
    let (lost, begun) = c.in_err-put-in-Ok.ensures.cut in
    rw (p.1, p.2) (
      lost,
      headed_cut (λ (v : _). v.items) c.args.said.now c.args.path.now c.in-Ok.text c.behind_first_line.result.now
          (g.O.Write.contents c.args.out.now) (g.O.Write.contents c.put_heading.new.out)
          (g.O.Write.contents c.put.new.out) c.in-Ok.is
          (λ xs e. c.behind_first_line.ensures xs (c.as_slice.ensures.value ∙ e)) c.in_ok-put_heading-in-Ok.ensures.put
          begun,
    )

pub returns-in_ok-put-in-Ok-clause-put : goal.returns-in_ok-put-in-Ok-clause-put
returns-in_ok-put-in-Ok-clause-put g c = headed_whole (λ (v : _). v.items) c.args.said.now c.args.path.now c.in-Ok.text
    c.behind_first_line.result.now (g.O.Write.contents c.args.out.now) (g.O.Write.contents c.put_heading.new.out)
    (g.O.Write.contents c.put.new.out) c.in-Ok.is
    (λ xs e. c.behind_first_line.ensures xs (c.as_slice.ensures.value ∙ e)) c.in_ok-put_heading-in-Ok.ensures.put
    c.in_ok-put-in-Ok.ensures.all

pub returns-in-Err-clause-lost : goal.returns-in-Err-clause-lost
returns-in-Err-clause-lost g c = headed_failure (λ (v : _). v.items) c.args.said.now c.args.path.now c.in-Err.failure
    (g.O.Write.contents c.args.out.now)
    (g.O.Write.contents c.put_failure.new.out) c.put_failure.result c.in-Err.is c.put_failure.ensures.lost

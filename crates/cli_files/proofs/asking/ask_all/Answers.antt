use Rattle.std.proofs.Common.{◌+◌, ◌++◌, ℕ, List, [], get_or, refl, inr, arith}
use Rattle.std.specs.Borrow.{Bor}
use Rattle.std.proofs.lemmas.Result.{err_from_is_err_and}
use Rattle.cli_failures.specs.declared.status.Status.TheVariants as status
use Rattle.cli_files.specs.Lines.{IsAsked, first_line, none}
use Rattle.cli_failures.proofs.Taking.{appends_both, appends_none, begins_behind}
use Rattle.cli_files.proofs.Telling.{all_told, cut_next, told_next, headed_by}
use Rattle.cli_files.proofs.asking.ask_all.Goals as goal

pub returns-in_err-put-clause-refused : goal.returns-in_err-put-clause-refused
returns-in_err-put-clause-refused g c =
    let p = err_from_is_err_and c.from_residual-in_err-put.result c.from_residual-in_err-put.ensures.1 in
    let (lost, begun) = c.in_err-put.ensures.cut in
    rw (p.1, p.2) (inr (lost, (0, first_line, status.Done, (_, [], c.in_ok-trust.ensures.found, none, refl), begun)))

pub loop-path-init : goal.loop-path-init
loop-path-init g c = (
  g.O.Write.contents c.put.new.out,
  c.in_ok-put.ensures.all,
  ([], none, appends_none (g.O.Write.contents c.put.new.out)),
)

pub loop-path-preserved : goal.loop-path-preserved
loop-path-preserved g c =
    let (text, said, took) = c.in_ok-put_asked.ensures.put in
    let (headed, begun, told) = c.loop-path.invariant in
    let path : Bor (List ℕ) =
    get_or c.args.paths.now c.loop-path.path-index (record { ref_ptr = (0, 0); now = [] }) in (
      headed,
      begun,
      told_next (IsAsked g.R.File.Read.remaining g.R.File.Describes.says c.args.each.now) c.args.paths.now
          (record { ref_ptr = (0, 0); now = [] })
          c.loop-path.path-index (c.loop-path.path-index + 1) headed (g.O.Write.contents c.loop-path.out)
          (g.O.Write.contents c.put_asked.new.out) c.loop-path.worst c.worse-worst.result c.loop-path-test.true
          (omega arith) told (record {
            line = text;
            ends = c.in_ok-put_asked.field-0;
            says = headed_by
                (λ (v : _). v.items) g.R.File.Read.remaining g.R.File.Describes.says c.args.each.now path
                c.asked_about-said.result text
                c.in_ok-put_asked.field-0 said (c.asked_about-said.ensures.asked c.in_ok-trust.ensures.found)
                (c.asked_about-said.ensures.refused c.in_ok-trust.ensures.found);
            takes = took;
            worse = c.worse-worst.ensures;
          }),
    )

pub returns-in_err-put_asked-clause-refused : goal.returns-in_err-put_asked-clause-refused
returns-in_err-put_asked-clause-refused g c =
    let p = err_from_is_err_and c.from_residual-in_err-put_asked.result c.from_residual-in_err-put_asked.ensures.1 in
    let (lost, (text, ends, said, cut)) = c.in_err-put_asked.ensures.lost in
    let (headed, begun, told) = c.loop-path.invariant in
    let path : Bor (List ℕ) = get_or c.args.paths.now c.loop-path.path-index (record { ref_ptr = (0, 0); now = [] }) in
    let (count, texts, worst, all, part) =
    cut_next (IsAsked g.R.File.Read.remaining g.R.File.Describes.says c.args.each.now) c.args.paths.now
    (record { ref_ptr = (0, 0); now = [] }) c.loop-path.path-index headed (g.O.Write.contents c.loop-path.out)
    (g.O.Write.contents c.put_asked.new.out) c.loop-path.worst ends text c.loop-path-test.true told
    (headed_by
    (λ (v : _). v.items) g.R.File.Read.remaining g.R.File.Describes.says c.args.each.now path c.asked_about-said.result
    text ends said
    (c.asked_about-said.ensures.asked c.in_ok-trust.ensures.found)
    (c.asked_about-said.ensures.refused c.in_ok-trust.ensures.found)) cut in
    rw (p.1, p.2) (inr (
      lost,
      (
        count,
        first_line ++ texts,
        worst,
        (_, texts, c.in_ok-trust.ensures.found, all, refl),
        begins_behind (g.O.Write.contents c.args.out.now) headed
            (g.O.Write.contents c.put_asked.new.out) first_line texts begun part,
      ),
    ))

pub returns-clause-told : goal.returns-clause-told
returns-clause-told g c =
    let (headed, begun, (text, told, took)) = c.loop-path.invariant in (
      first_line ++ text,
      (
        _,
        text,
        c.in_ok-trust.ensures.found,
        all_told (IsAsked g.R.File.Read.remaining g.R.File.Describes.says c.args.each.now) c.args.paths.now
            c.loop-path.path-index text
            c.loop-path.worst
            (omega arith) told,
        refl,
      ),
      appends_both (g.O.Write.contents c.args.out.now) headed
          (g.O.Write.contents c.loop-path.out) first_line text begun took,
    )

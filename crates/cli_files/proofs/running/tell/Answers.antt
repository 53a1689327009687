use Rattle.std.proofs.Common.{inl}
use Rattle.cli_files.proofs.NeverUsage.{all_not_usage, ends_so, reported_so, reported_ends, so_not_usage, so_quiet}
use Rattle.cli_files.proofs.running.tell.Goals as goal

pub returns-in-Ok-clause-told : goal.returns-in-Ok-clause-told
returns-in-Ok-clause-told g c = inl (inl c.in-Ok.ensures.told)

pub returns-in-Ok-clause-silent : goal.returns-in-Ok-clause-silent
returns-in-Ok-clause-silent g c =
    let (text, told, took) = c.in-Ok.ensures.told in
    all_not_usage g.R.File.Read.remaining g.R.File.Describes.says c.args.each.now c.args.paths.now text _ told

pub returns-in-Err-clause-told : goal.returns-in-Err-clause-told
returns-in-Err-clause-told g c =
    reported_ends g.R.File.Read.remaining g.R.File.Describes.says g.O.Write.contents c.args.each.now c.args.paths.now
    c.in-Err.failure
    c.stop.result c.args.out.now c.all.new.out c.stop.new.out c.in-Err.ensures.refused
    (ends_so g.R.File.Read.remaining g.R.File.Describes.says c.in-Err.failure c.stop.result c.stop.ensures.status)
    c.stop.ensures.told
    c.stop.ensures.cut c.stop.ensures.kept

pub returns-in-Err-clause-silent : goal.returns-in-Err-clause-silent
returns-in-Err-clause-silent g c = so_not_usage g.R.File.Read.remaining g.R.File.Describes.says c.stop.result
    (reported_so g.R.File.Read.remaining g.R.File.Describes.says c.args.each.now c.in-Err.failure c.stop.result
    c.in-Err.ensures.refused
    (ends_so g.R.File.Read.remaining g.R.File.Describes.says c.in-Err.failure c.stop.result c.stop.ensures.status))

pub returns-in-Err-clause-quiet : goal.returns-in-Err-clause-quiet
returns-in-Err-clause-quiet g c = so_quiet g.R.File.Read.remaining g.R.File.Describes.says c.stop.result
    (reported_so g.R.File.Read.remaining g.R.File.Describes.says c.args.each.now c.in-Err.failure c.stop.result
    c.in-Err.ensures.refused
    (ends_so g.R.File.Read.remaining g.R.File.Describes.says c.in-Err.failure c.stop.result c.stop.ensures.status))
    c.stop.ensures.quiet

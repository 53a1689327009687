use Rattle.std.proofs.lemmas.Result.{IfOk-weaker}
use Rattle.cli_failures.proofs.Whole.{found_in_file}
use Rattle.cli_failures.proofs.folder.found_below.Goals as goal

pub returns-in_ok-open-in-File : goal.returns-in_ok-open-in-File
returns-in_ok-open-in-File g c =
    IfOk-weaker c.found_in.result _ _
    (found_in_file g.R.File.Read.remaining c.in_ok-open-in-File.field-0 c.args.octets.now) c.found_in.ensures

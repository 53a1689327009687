use Rattle.std.proofs.Common.{subst}
use Rattle.cli_commands.specs.Asking.{Attempt, AsksPass}
use Rattle.cli_commands.proofs.Unasked.{not_asked, printed_part}
use Rattle.cli_commands.proofs.asking.ask_by.Goals as goal

pub returns-clause-refused : goal.returns-clause-refused
returns-clause-refused g c = λ trusted.
    let (limit, bounds, (last, unread, pass)) = c.in_ok-asked_as_stated.ensures.asked in
    not_asked g.R.File.Read.remaining g.R.File.Describes.says c.args.words.now c.args.trust.now _ last limit trusted
    bounds (g.O.Write.contents c.args.out.now)
    (g.O.Write.contents c.asked_as_stated.new.out) c.in-Err.fault c.failure_of.result
    (subst (λ (r : Attempt). AsksPass c.args.trust.now (g.R.File.Read.remaining last) limit r
    (g.O.Write.contents c.args.out.now) (g.O.Write.contents c.asked_as_stated.new.out)) c.in-Err.is pass)
    c.failure_of.ensures

pub returns-clause-cut : goal.returns-clause-cut
returns-clause-cut g c = λ trusted.
    let (limit, bounds, (last, unread, pass)) = c.in_ok-asked_as_stated.ensures.asked in
    printed_part g.R.File.Read.remaining g.R.File.Describes.says c.args.words.now c.args.trust.now _ last limit trusted
    bounds (g.O.Write.contents c.args.out.now)
    (g.O.Write.contents c.asked_as_stated.new.out) c.in-Err.fault c.failure_of.result
    (subst (λ (r : Attempt). AsksPass c.args.trust.now (g.R.File.Read.remaining last) limit r
    (g.O.Write.contents c.args.out.now) (g.O.Write.contents c.asked_as_stated.new.out)) c.in-Err.is pass)
    c.failure_of.ensures

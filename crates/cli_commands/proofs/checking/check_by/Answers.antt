use Rattle.std.proofs.Common.{Bool, subst, rules}
use Rattle.std.specs.Prelude.{IfErr, IfOk}
use Rattle.cli_commands.specs.Checking.{ShowsAccepted, ShowsRefused}
use Rattle.cli_commands.specs.Lists.{IsAnswersOf, IsCheckerOf}
use Rattle.cli_commands.specs.Rooms.{IsLimit}
use Rattle.cli_commands.proofs.JudgedFiles.{given_by}
use Rattle.cli_commands.proofs.Checked.{shows}
use Rattle.cli_commands.proofs.checking.check_by.Goals as goal

pub returns : goal.returns
returns g c =
    let (last, unread, streamed) = c.in_ok-verdict.ensures.judged in
    let shown : IsCheckerOf g.R.File.Read.remaining c.args.words.now.sha1 c.args.checker.now
    → IsAnswersOf g.R.File.Read.remaining c.args.answers.now
    → IfOk c.line_of.result (λ line. (file : _) × ShowsAccepted g.R.File.Read.remaining c.args.words.now
    (g.R.File.Read.remaining file) line.items)
    × IfErr c.line_of.result (ShowsRefused g.R.File.Read.remaining g.R.File.Describes.says c.args.words.now)
    = λ goes_by vouched_for.
    shows (λ (v : _). v.items) g.R.File.Read.remaining g.R.File.Describes.says _ _ c.args.words.now _ _ _
    c.limit_of-limit.result _ _ _ _ (λ s content all. given_by g.R.File.Read.remaining s.inner content all) last
    c.line_of.result (record {
      policy_is = goes_by.1;
      trusted = goes_by.0;
      vouched_for = vouched_for;
      handed = c.in_ok-content.ensures.handed;
      bounds = (
        c.stated-stated.result,
        c.stated-stated.ensures,
        subst (λ (again : Bool). IsLimit c.args.words.now.buffer again c.limit_of-limit.result) c.is_some.ensures
            c.limit_of-limit.ensures,
      );
    }) (c.in_ok-verdict.verdict, streamed, c.line_of.ensures) in
    record {
      accepted = λ goes_by vouched_for. (shown goes_by vouched_for).0;
      refused = λ goes_by vouched_for. (shown goes_by vouched_for).1;
      same = search rules;
      stays = search rules;
    }

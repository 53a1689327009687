use Rattle.std.proofs.Common.{◌≡◌, None, rules}
use Rattle.std.specs.Prelude.{is_some}
use Rattle.std.specs.Option.{option_copied}
use Rattle.evidence_stamps.proofs.Named.{shown_if}
use Rattle.evidence_stamps.proofs.algorithm.shows_alg.Goals as goal

pub returns-else-is_some : goal.returns-else-is_some
returns-else-is_some c =
    let absent : c.args.stamp.now.algorithm ≡ None = search rules in
    let same : c.is_some-else-is_some.result ≡ is_some (option_copied c.args.state) = search rules in
    shown_if c.args.stamp.now (option_copied c.args.state) c.requires absent c.is_some-else-is_some.result same

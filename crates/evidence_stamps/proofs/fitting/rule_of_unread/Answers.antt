use Rattle.evidence_stamps.proofs.Unread.{stated_here}
use Rattle.evidence_stamps.proofs.fitting.rule_of_unread.Goals as goal

pub unreachable-requires : goal.unreachable-requires
unreachable-requires c =
    let x = stated_here c.with_sha1.result c.args.token.now c.in-Ok.field-0 c.in-Ok.ensures in
    c.requires x.0 x.1

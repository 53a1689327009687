use Rattle.std.proofs.Common.{List, subst}
use Rattle.cms_types.specs.Fields.{sid_value}
use Rattle.trust_lists.specs.Entries.{EntryValue}
use Rattle.trust_lists.specs.Marks.{IsNext}
use Rattle.check_verdict.proofs.Beside.{IsMatched, next_counted}
use Rattle.check_verdict.proofs.trusted.Trusted.next.Goals as goal

pub returns : goal.returns
returns c =
    subst (λ (es : List EntryValue).
    IsNext (IsMatched c.args.role (sid_value c.args.sid.now)) es c.args.from c.next_candidate.result)
    c.self.view_is
    (next_counted c.self.inside.shown c.args.role (sid_value c.args.sid.now) c.self.inside.list.now c.args.from
    c.next_candidate.result c.next_candidate.ensures)

use Rattle.std.proofs.Common.{ℕ, Vec, Global}
use Rattle.library_records.specs.Records.{IsRecordOf, MakesNoRecord}
use Rattle.library_records.proofs.Trees.{told}
use Rattle.library_records.proofs.record.tell_record.Goals as goal

pub returns : goal.returns
returns c =
    told (IsRecordOf c.args.tree.now c.args.digest.now c.args.token.now)
    (MakesNoRecord c.args.tree.now c.args.digest.now c.args.token.now) c.tell_result.result.said
    c.tell_result.result.status _
    c.tell_result.result.size _ (λ (v : Vec ℕ Global). v.items) c.record_of-made.result c.record_of-made.ensures.made
    c.record_of-made.ensures.refused c.tell_result.ensures

use Rattle.std.proofs.Common.{◌≡◌, sym, subst, List}
use Rattle.std.specs.List.{AllByRecursion}
use Rattle.digests.specs.Selection.{set_given}
use Rattle.digests.specs.declared.selection.WantedDigests.{WantedDigests}
use Rattle.judge_evidence.specs.Data.{AreOfData}
use Rattle.check_under.specs.Under.{data_of}
use Rattle.library_calls.specs.Checked.{handed}
use Rattle.library_records.proofs.EvidenceSaid.{have_wanted, judged_unopened, judged_by_digests}
use Rattle.library_records.proofs.under.record_verdict.Goals as goal

pub returns-in-Err-clause-verdict : goal.returns-in-Err-clause-verdict
returns-in-Err-clause-verdict c =
    judged_unopened _ _ _ c.in-Err.failed c.records_are_judged.ensures.never_both c.in-Err.ensures

pub check_evidence-requires : goal.check_evidence-requires
check_evidence-requires c = have_wanted _ c.in-Ok.wanted c.deref.result.now c.in-Ok.ensures
    (subst (λ (ds : List WantedDigests). AllByRecursion (λ d. set_given d ≡ c.in-Ok.wanted) ds)
    (sym c.deref.ensures.value) c.in-Ok-digests_of_both.ensures.of_wanted)

pub returns-clause-verdict : goal.returns-clause-verdict
returns-clause-verdict c =
    let objects = data_of c.args.signed.file.now (handed c.args.signed.given c.args.signed.content.now) in
    let are : AreOfData c.deref.result.now objects =
    subst (λ (ds : List WantedDigests). AreOfData ds objects) (sym c.deref.ensures.value)
    c.in-Ok-digests_of_both.ensures.of_data in
    judged_by_digests _ _ _ c.check_evidence.result (c.check_evidence.ensures.judged objects are)
    (c.check_evidence.ensures.complete objects are) c.check_evidence.ensures.count

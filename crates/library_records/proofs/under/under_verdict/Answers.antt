use Rattle.std.proofs.Common.{Bool, List, Option, ℕ, Result, map, sym, subst}
use Rattle.trust_lists.specs.Asking.{Asked}
use Rattle.check_evidence.specs.Grounds.{Grounds}
use Rattle.check_evidence.specs.Showing.{Shows}
use Rattle.check_verdict.specs.Beside.{beside}
use Rattle.check_verdict.specs.TokenVerdicts.{terms_of}
use Rattle.check_under.specs.Under.{data_of}
use Rattle.check_under.specs.declared.refused.UnderRefused.{UnderRefused}
use Rattle.library_calls.specs.Checked.{IsKnownVerdict, handed}
use Rattle.library_records.specs.Under.{grounds_by, IsUnderJudged}
use Rattle.library_records.proofs.UnderSaid.{judged_shown, judged_unshown}
use Rattle.library_records.proofs.under.under_verdict.Goals as goal

pub returns-in-Err-clause-verdict : goal.returns-in-Err-clause-verdict
returns-in-Err-clause-verdict c =
    rw (← c.input.view_is) (judged_unshown _ _ _ _ c.in-Err.failed c.in-Err.ensures.verdict)

pub returns-clause-verdict : goal.returns-clause-verdict
returns-clause-verdict c =
    let grounds : Grounds = grounds_by c.args.list.now c.args.asked.now c.args.ends.now c.args.at in
    let octets : List ℕ = c.input.inside.evidence.now in
    let file : List ℕ = c.input.inside.signed.file.now in
    let content : Option (List ℕ) = handed c.input.inside.signed.given c.input.inside.signed.content.now in
    let shows : Shows grounds octets (data_of file content) c.shown.inside.moment =
    subst (λ (k : ℕ). Shows grounds octets (data_of file content) k) (sym c.shown.view_is)
    c.in-Ok.ensures.verdict.verdict in
    let (policy, allows, known) = c.signed_verdict.ensures.verdict in
    rw (← c.input.view_is)
    (subst (λ (r : Result ℕ UnderRefused). IsUnderJudged grounds octets file content r) (sym c.said_under.ensures)
    (judged_shown c.under_is_judged.ensures.one_moment c.under_is_judged.ensures.never_both grounds octets file content
    c.shown.inside.moment policy shows allows c.signed_verdict.result
    (subst (λ (v : Asked → Bool).
    IsKnownVerdict (terms_of policy (map (beside c.shown.inside.moment) c.args.list.now) v) file content
    c.signed_verdict.result) c.in-Ok.ensures.same known)))

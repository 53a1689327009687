use Rattle.std.proofs.Common.{◌≡◌, ◌⊎◌, ℕ, List, [], map, Option, Result}
use Rattle.std.proofs.Common.{sym, subst, inl, inr}
use Rattle.std.specs.Prelude.{IfSome, None, option_map}
use Rattle.check_fit.specs.declared.rules.Refused.{Refused}
use Rattle.check_verdict.specs.Beside.{beside}
use Rattle.check_verdict.specs.TokenVerdicts.{terms_of}
use Rattle.check_stream.specs.DeviceVerdicts.{OfDevices}
use Rattle.check_stream.specs.StreamVerdicts.{IsEarly, facts, given}
use Rattle.check_evidence.specs.Grounds.{Grounds}
use Rattle.check_evidence.specs.Showing.{Shows}
use Rattle.judge_evidence.specs.Data.{AreOfData}
use Rattle.check_under.specs.Given.{grounds_under}
use Rattle.check_under.specs.Under.{AreTermsUnder}
use Rattle.check_under.specs.UnderVerdicts.{said_of_file, GivesYesUnder, IsVerdictUnder, JudgesUnder, CountsUnder}
use Rattle.check_under.specs.declared.refused.UnderRefused.{UnderRefused}
use Rattle.check_under.proofs.Questions.{questions_under}
use Rattle.check_under.proofs.Verdicts.{are_terms, gives_yes, gives_no, is_verdict, judges_under, of_file}
use Rattle.check_under.proofs.Verdicts.{said_something, counts_under}
use Rattle.check_under.proofs.check.check_under.Given.{Over}
use Rattle.check_under.proofs.check.check_under.Goals.{After-check_shown}
use Rattle.check_under.proofs.check.check_under.Goals as goal

-- ---- the record is refused

pub returns-in-Err-clause-headline : goal.returns-in-Err-clause-headline
returns-in-Err-clause-headline g c = λ tells known are m.
    gives_no (grounds_under c.args.under.now (g.V.Verifier.vouches c.args.verifier.now)) c.args.under.now.octets.now
    (g.F.Source.rest c.args.file.now) (option_map g.S.Source.rest c.args.content.now) m c.in-Err.failed
    (c.in-Err.ensures.complete _ are)

pub returns-in-Err-clause-verdict : goal.returns-in-Err-clause-verdict
returns-in-Err-clause-verdict g c = λ tells known are. c.in-Err.ensures.judged _ are

pub returns-in-Err-clause-judged : goal.returns-in-Err-clause-judged
returns-in-Err-clause-judged g c = λ ds are. c.in-Err.ensures.judged ds are

pub returns-in-Err-clause-only : goal.returns-in-Err-clause-only
returns-in-Err-clause-only g c = λ tells ds are test tests.
    c.in-Err.ensures.only ds are test (λ q a. tests q (inl a))

-- ---- it shows the data

-- by which terms the file is judged
under : (g : Over) (c : After-check_shown g) (ds : List (List ℕ)) → AreOfData c.args.under.now.digests.now ds
    → AreTermsUnder (grounds_under c.args.under.now (g.V.Verifier.vouches c.args.verifier.now))
    c.args.under.now.octets.now ds
    (terms_of c.check_shown.ensures.promised.0 (map (beside c.shown.inside.moment) c.args.under.now.trust.now)
    (g.V.Verifier.vouches c.check_evidence.new.verifier))
under g c ds are =
    let grounds : Grounds = grounds_under c.args.under.now (g.V.Verifier.vouches c.args.verifier.now) in
    let shows : Shows grounds c.args.under.now.octets.now ds c.shown.inside.moment =
    subst (λ (k : ℕ). Shows grounds c.args.under.now.octets.now ds k) (sym c.shown.view_is)
    (c.in-Ok.ensures.judged ds are) in
    are_terms grounds c.args.under.now.octets.now ds c.shown.inside.moment c.check_shown.ensures.promised.0 _ shows
    c.check_shown.ensures.promised.1 c.in-Ok.ensures.same

pub returns-clause-headline : goal.returns-clause-headline
returns-clause-headline g c = λ tells known are m.
    let grounds : Grounds = grounds_under c.args.under.now (g.V.Verifier.vouches c.args.verifier.now) in
    let file : List ℕ = g.F.Source.rest c.args.file.now in
    let handed : Option (List ℕ) = option_map g.S.Source.rest c.args.content.now in
    subst (λ (r : Result ℕ UnderRefused). GivesYesUnder grounds c.args.under.now.octets.now file handed r m)
    (sym c.said_under.ensures)
    (gives_yes grounds c.args.under.now.octets.now file handed m c.records_are_judged.ensures.one_moment _
    (under g (goal.at.returns-clause-headline g c).After-check_shown _ are) c.check_shown.result
    (c.check_shown.ensures.promised.2.headline tells known m))

pub returns-clause-verdict : goal.returns-clause-verdict
returns-clause-verdict g c = λ tells known are.
    let grounds : Grounds = grounds_under c.args.under.now (g.V.Verifier.vouches c.args.verifier.now) in
    let file : List ℕ = g.F.Source.rest c.args.file.now in
    let handed : Option (List ℕ) = option_map g.S.Source.rest c.args.content.now in
    subst (λ (r : Result ℕ UnderRefused). IsVerdictUnder grounds c.args.under.now.octets.now file handed r)
    (sym c.said_under.ensures)
    (is_verdict grounds c.args.under.now.octets.now file handed _
    (under g (goal.at.returns-clause-verdict g c).After-check_shown _ are) c.check_shown.result
    (c.check_shown.ensures.promised.2.headline tells known) (c.check_shown.ensures.promised.2.verdict tells known))

pub returns-clause-judged : goal.returns-clause-judged
returns-clause-judged g c = λ ds are.
    let grounds : Grounds = grounds_under c.args.under.now (g.V.Verifier.vouches c.args.verifier.now) in
    subst (λ (r : Result ℕ UnderRefused). JudgesUnder grounds c.args.under.now.octets.now ds
    (given g.F.Source c.args.file.now c.check_shown.new.file c.args.buffer.now) g.S.Source c.args.content.now
    c.check_shown.new.content r)
    (sym c.said_under.ensures)
    (judges_under grounds c.args.under.now.octets.now ds _ g.S.Source c.args.content.now c.check_shown.new.content _
    (under g (goal.at.returns-clause-judged g c).After-check_shown ds are) c.check_shown.result
    c.check_shown.ensures.promised.2.judged)

pub returns-clause-only : goal.returns-clause-only
returns-clause-only g c = λ tells ds are test tests.
    g.V.Verifier.asked_further test _ _ _ (c.in-Ok.ensures.only ds are test (λ q a. tests q (inl a)))
    (c.check_shown.ensures.promised.2.only tells test
    (λ q a. tests q (inr (questions_under c.args.under.now.trust.now c.shown.inside.moment
    (g.F.Source.rest c.args.file.now) q a))))

pub returns-clause-unread : goal.returns-clause-unread
returns-clause-unread g c = λ none. absurd (said_something c.check_shown.result
    (subst (λ (r : Result ℕ UnderRefused). said_of_file r ≡ None) c.said_under.ensures none))

pub returns-clause-devices : goal.returns-clause-devices
returns-clause-devices g c = subst (λ (r : Result ℕ UnderRefused). IfSome (said_of_file r) (OfDevices
    (facts g.S.Source) (g.F.Source.failures c.args.file.now) (g.F.Source.failures c.check_shown.new.file)
    c.args.content.now c.check_shown.new.content))
    (sym c.said_under.ensures) (of_file _ c.check_shown.result c.check_shown.ensures.promised.2.devices)

pub returns-clause-end : goal.returns-clause-end
returns-clause-end g c = λ tells.
    subst (λ (r : Result ℕ UnderRefused). IfSome (said_of_file r) (λ (said : Result ℕ Refused).
    IsEarly said ⊎ (g.F.Source.rest c.check_shown.new.file ≡ [])))
    (sym c.said_under.ensures) (of_file _ c.check_shown.result (c.check_shown.ensures.end tells))

pub returns-clause-count : goal.returns-clause-count
returns-clause-count g c = subst (λ (r : Result ℕ UnderRefused). CountsUnder r
    (g.V.Verifier.failures c.args.verifier.now) (g.V.Verifier.failures c.check_shown.new.verifier))
    (sym c.said_under.ensures)
    (counts_under c.check_shown.result _ _ _ c.in-Ok.ensures.count c.check_shown.ensures.count)

use Rattle.std.proofs.Common.{List, Option, None, sym, subst}
use Rattle.std.specs.Prelude.{Contains}
use Rattle.trust_lists.specs.Entries.{EntryValue}
use Rattle.check_verdict.specs.Filters.{Best}
use Rattle.check_verdict.specs.Stages.{passed_for_signer}
use Rattle.check_verdict.specs.declared.filter.SignerFilter.{SignerFilter}
use Rattle.check_verdict.specs.SignerStages.{LeftAt}
use Rattle.check_verdict.proofs.Asks.{asked_unstamped}
use Rattle.check_verdict.proofs.SignerVerdicts.{fails_unstamped, fails_tokenless, fails_token}
use Rattle.check_verdict.proofs.signer.unstamped.Goals as goal

pub returns-in-Some-clause-judged : goal.returns-in-Some-clause-judged
returns-in-Some-clause-judged g c = λ t trust vouches content econtent_type fits failed.
    let best : Best (LeftAt t c.args.signer.now fits.attributes None) 3 t.trust (passed_for_signer c.in-Ok.best) =
    subst (λ (es : List EntryValue).
    Best (LeftAt t c.args.signer.now fits.attributes None) 3 es (passed_for_signer c.in-Ok.best))
    (sym trust) (c.in-Ok.ensures.stage t vouches fits.attributes fits.present) in
    rw (c.rule.ensures)
    (fails_unstamped t content econtent_type c.args.signer.now fits c.args.first_failed failed c.in-Some.failed
    (subst (λ (o : Option SignerFilter).
    Best (LeftAt t c.args.signer.now fits.attributes None) 3 t.trust (passed_for_signer o)) c.in-Some.is best))

pub returns-in-Some-first_failed-clause-judged : goal.returns-in-Some-first_failed-clause-judged
returns-in-Some-first_failed-clause-judged g c = λ t trust vouches content econtent_type fits failed.
    let best : Best (LeftAt t c.args.signer.now fits.attributes None) 3 t.trust (passed_for_signer c.in-Ok.best) =
    subst (λ (es : List EntryValue).
    Best (LeftAt t c.args.signer.now fits.attributes None) 3 es (passed_for_signer c.in-Ok.best))
    (sym trust) (c.in-Ok.ensures.stage t vouches fits.attributes fits.present) in
    fails_token t content econtent_type c.args.signer.now fits c.args.first_failed failed
    (subst (λ (o : Option SignerFilter).
    Best (LeftAt t c.args.signer.now fits.attributes None) 3 t.trust (passed_for_signer o)) c.in_default-best.is
    best) c.in-Some-first_failed.rule c.in-Some-first_failed.is

pub returns-in-None-clause-judged : goal.returns-in-None-clause-judged
returns-in-None-clause-judged g c = λ t trust vouches content econtent_type fits failed.
    let best : Best (LeftAt t c.args.signer.now fits.attributes None) 3 t.trust (passed_for_signer c.in-Ok.best) =
    subst (λ (es : List EntryValue).
    Best (LeftAt t c.args.signer.now fits.attributes None) 3 es (passed_for_signer c.in-Ok.best))
    (sym trust) (c.in-Ok.ensures.stage t vouches fits.attributes fits.present) in
    fails_tokenless t content econtent_type c.args.signer.now fits c.args.first_failed failed
    (subst (λ (o : Option SignerFilter).
    Best (LeftAt t c.args.signer.now fits.attributes None) 3 t.trust (passed_for_signer o))
    c.in_default-best.is best) c.in-None.is

pub returns-in_default-clause-only : goal.returns-in_default-clause-only
returns-in_default-clause-only g c = λ t trust never content econtent_type fits test asks.
    c.signer_stages.ensures.only test fits.attributes fits.present
    (λ e trusted p named. asks _ (asked_unstamped t content econtent_type
    c.args.signer.now fits e (subst (λ (es : List EntryValue). Contains es e) (sym trust) trusted) named never p))

pub returns-in-Some-clause-only : goal.returns-in-Some-clause-only
returns-in-Some-clause-only g c = λ t trust never content econtent_type fits test asks.
    c.signer_stages.ensures.only test fits.attributes fits.present
    (λ e trusted p named. asks _ (asked_unstamped t content econtent_type
    c.args.signer.now fits e (subst (λ (es : List EntryValue). Contains es e) (sym trust) trusted) named never p))

pub returns-in-Some-first_failed-clause-only : goal.returns-in-Some-first_failed-clause-only
returns-in-Some-first_failed-clause-only g c = λ t trust never content econtent_type fits test asks.
    c.signer_stages.ensures.only test fits.attributes fits.present
    (λ e trusted p named. asks _ (asked_unstamped t content econtent_type
    c.args.signer.now fits e (subst (λ (es : List EntryValue). Contains es e) (sym trust) trusted) named never p))

pub returns-in-None-clause-only : goal.returns-in-None-clause-only
returns-in-None-clause-only g c = λ t trust never content econtent_type fits test asks.
    c.signer_stages.ensures.only test fits.attributes fits.present
    (λ e trusted p named. asks _ (asked_unstamped t content econtent_type
    c.args.signer.now fits e (subst (λ (es : List EntryValue). Contains es e) (sym trust) trusted) named never p))

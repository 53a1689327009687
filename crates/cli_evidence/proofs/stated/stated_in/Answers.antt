use Rattle.std.proofs.lemmas.Result.{err_from_is_err_and}
use Rattle.cli_evidence.proofs.Stating.{answers_refused, at_refused, ends_refused, trust_refused}
use Rattle.cli_evidence.proofs.stated.stated_in.Goals as goal

pub returns-in_err-ends-clause-refused : goal.returns-in_err-ends-clause-refused
returns-in_err-ends-clause-refused g c =
    let p = err_from_is_err_and c.from_residual.result c.from_residual.ensures.1 in
    rw (p.1, p.2) (ends_refused g.R.File.Read.remaining c.args.ends.now.items c.args.at c.args.trust c.args.answers
    (λ f. ⊥) c.in_err-ends.field-0.0 c.in_err-ends.ensures.refused)

pub returns-in_err-at-clause-refused : goal.returns-in_err-at-clause-refused
returns-in_err-at-clause-refused g c =
    let p = err_from_is_err_and c.from_residual-in_err-at.result c.from_residual-in_err-at.ensures.1 in
    rw (p.1, p.2) (at_refused g.R.File.Read.remaining c.args.ends.now.items c.args.at c.args.trust c.args.answers
    (λ f. ⊥) c.in_err-at.field-0.0 (c.in_ok-ends.ends.items, c.in_ok-ends.ensures.found) c.in_err-at.ensures.refused)

pub returns-in_err-trust-clause-refused : goal.returns-in_err-trust-clause-refused
returns-in_err-trust-clause-refused g c =
    let p = err_from_is_err_and c.from_residual-in_err-trust.result c.from_residual-in_err-trust.ensures.1 in
    rw (p.1, p.2) (trust_refused g.R.File.Read.remaining c.args.ends.now.items c.args.at c.args.trust c.args.answers
    (λ f. ⊥) c.in_err-trust.field-0.0
    ((c.in_ok-ends.ends.items, c.in_ok-ends.ensures.found), (c.in_ok-at.at, c.in_ok-at.ensures.found))
    c.in_err-trust.ensures.refused)

pub returns-in_err-answers-clause-refused : goal.returns-in_err-answers-clause-refused
returns-in_err-answers-clause-refused g c =
    let p = err_from_is_err_and c.from_residual-in_err-answers.result c.from_residual-in_err-answers.ensures.1 in
    rw (p.1, p.2) (answers_refused g.R.File.Read.remaining c.args.ends.now.items c.args.at c.args.trust c.args.answers
    (λ f. ⊥) c.in_err-answers.field-0.0
    ((c.in_ok-ends.ends.items, c.in_ok-ends.ensures.found), (c.in_ok-at.at, c.in_ok-at.ensures.found))
    c.in_ok-trust.trust c.in_ok-trust.ensures.found c.in_err-answers.ensures.refused)

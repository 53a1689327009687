use Rattle.std.proofs.Common.{false, true, sym, ◌∙◌, ◌≡◌, rules}
use Rattle.evidence_making.proofs.Already.{never_alone, no_so, not_so, so_renewed}
use Rattle.evidence_making.proofs.InOrder.{two_out, not_in_order}
use Rattle.evidence_making.proofs.done.renewed_in.Goals as goal

pub returns-in_default-clause-renewed : goal.returns-in_default-clause-renewed
returns-in_default-clause-renewed c = λ l h. never_alone c.args.chains.now c.args.token.now l h c.in_default.ensures

pub returns-then-not-has_token-clause-renewed : goal.returns-then-not-has_token-clause-renewed
returns-then-not-has_token-clause-renewed c =
    no_so c.args.token.now c.in-Some.two.first c.in-Some.two.before c.in-Some.two.last c.args.chains.now
    c.in-Some.ensures
    (λ l h. absurd (let z : false ≡ true = sym c.if-not-has_token.true ∙ c.has_token.ensures.1 h.token_is in cc))

pub returns-in_default-moment_in-clause-renewed : goal.returns-in_default-moment_in-clause-renewed
returns-in_default-moment_in-clause-renewed c =
    no_so c.args.token.now c.in-Some.two.first c.in-Some.two.before c.in-Some.two.last c.args.chains.now
    c.in-Some.ensures (λ l h. c.in_default-moment_in.ensures l.moment h.time)

pub returns-in_default-alg_in-clause-renewed : goal.returns-in_default-alg_in-clause-renewed
returns-in_default-alg_in-clause-renewed c =
    no_so c.args.token.now c.in-Some.two.first c.in-Some.two.before c.in-Some.two.last c.args.chains.now
    c.in-Some.ensures (λ l h. c.in_default-alg_in.ensures l.alg h.alg)

pub returns-then-branch-clause-renewed : goal.returns-then-branch-clause-renewed
returns-then-branch-clause-renewed c =
    so_renewed c.args.chains.now c.args.token.now _ c.in-Some.two.first c.in-Some.two.before c.in-Some.two.last
    c.in-Some.ensures (record {
      token_is = c.has_token.ensures.0 c.if-not-has_token.false;
      time = c.in-Some-moment_in.ensures;
      alg = c.in-Some-alg_in.ensures;
      by = c.covered_after-leaf.ensures.algorithm;
      hashed = c.covered_after-leaf.ensures.octets;
      fits = c.in_ok-fits_over.ensures.fits.0 c.if-branch.true;
    })

pub returns-else-branch-clause-renewed : goal.returns-else-branch-clause-renewed
returns-else-branch-clause-renewed c =
    no_so c.args.token.now c.in-Some.two.first c.in-Some.two.before c.in-Some.two.last c.args.chains.now
    c.in-Some.ensures
    (not_so c.args.token.now c.in-Some.two.first c.in-Some.two.before c.in-Some.two.last
    c.covered_after-leaf.result c.in-Some-alg_in.alg c.in-Some-moment_in.moment c.in-Some-moment_in.ensures
    c.in-Some-alg_in.ensures c.covered_after-leaf.ensures.algorithm c.covered_after-leaf.ensures.octets
    (λ fits. absurd (let z : false ≡ true = sym c.if-branch.false ∙ c.in_ok-fits_over.ensures.fits.1 fits in cc)))

pub returns-in_err-fits_over-clause-memory : goal.returns-in_err-fits_over-clause-memory
returns-in_err-fits_over-clause-memory c = λ e. two_out c.args.chains.now c.in-Some.two.first c.in-Some.two.before
    c.in-Some.two.last c.in-Some.ensures (not_in_order c.in-Some.two.last c.fits_over.result (search rules)
    c.fits_over.ensures.memory)

use Rattle.std.proofs.Common.{false, true, sym, ◌∙◌, ◌≡◌, rules}
use Rattle.evidence_making.proofs.Already.{before_filled, before_fits, has_two_chains, not_alone, not_so_anew}
use Rattle.evidence_making.proofs.Already.{not_timed}
use Rattle.evidence_making.proofs.Already.{not_token, two_more, yes_so_anew}
use Rattle.evidence_making.proofs.InOrder.{only_out, not_in_order}
use Rattle.evidence_making.proofs.done.rehashed_in.Goals as goal

pub returns-in_default-clause-rehashed : goal.returns-in_default-clause-rehashed
returns-in_default-clause-rehashed c = λ leaf m h.
    has_two_chains c.args.chains.now c.args.token.now c.args.digest.now leaf m h c.in_default.ensures

pub returns-in_default-only_in-clause-rehashed : goal.returns-in_default-only_in-clause-rehashed
returns-in_default-only_in-clause-rehashed c =
    not_alone c.args.chains.now c.args.token.now c.args.digest.now c.in-Some.before c.in-Some.last c.in-Some.ensures
    c.in_default-only_in.ensures

pub returns-then-not-has_token-clause-rehashed : goal.returns-then-not-has_token-clause-rehashed
returns-then-not-has_token-clause-rehashed c =
    not_token c.args.chains.now c.args.token.now c.args.digest.now c.in-Some.before c.in-Some.last c.in-Some.ensures
    c.in-Some-only_in.stamp c.in-Some-only_in.ensures
    (λ is. absurd (let z : false ≡ true = sym c.if-not-has_token.true ∙ c.has_token.ensures.1 is in cc))

pub last_in-requires : goal.last_in-requires
last_in-requires c = before_filled c.args.chains.now c.in-Some.before c.in-Some.last c.bytes-octets.ensures.each
    c.in-Some.ensures

pub returns-in_default-moment_in-clause-rehashed : goal.returns-in_default-moment_in-clause-rehashed
returns-in_default-moment_in-clause-rehashed c =
    not_timed c.args.chains.now c.args.token.now c.args.digest.now c.in-Some.before c.in-Some.last c.in-Some.ensures
    c.in-Some-only_in.stamp c.in-Some-only_in.ensures c.last_in.result c.last_in.ensures
    c.in_default-moment_in.ensures

pub digest_of_chains-sequence-requires : goal.digest_of_chains-sequence-requires
digest_of_chains-sequence-requires c =
    before_fits c.args.chains.now c.in-Some.before c.in-Some.last c.last_chain.result.before.now c.in-Some.ensures
    (c.last_chain.ensures (_) c.in-Some.last (c.in-Some.ensures.1 ∙ sym (two_more c.in-Some.ensures.0 c.in-Some.before
    c.in-Some.last))).0 c.requires

pub returns-then-branch-clause-rehashed : goal.returns-then-branch-clause-rehashed
returns-then-branch-clause-rehashed c =
    yes_so_anew c.args.chains.now c.args.token.now c.args.digest.now c.in-Some.before c.in-Some.last c.in-Some.ensures
    c.in-Some-only_in.stamp c.in-Some-only_in.ensures c.last_in.result c.last_in.ensures
    c.last_chain.result.before.now
    (c.last_chain.ensures (_) c.in-Some.last (c.in-Some.ensures.1 ∙ sym (two_more c.in-Some.ensures.0 c.in-Some.before
    c.in-Some.last))).0
    (before_filled c.args.chains.now c.in-Some.before c.in-Some.last c.bytes-octets.ensures.each c.in-Some.ensures)
    (c.has_token.ensures.0 c.if-not-has_token.false) c.covered_later-leaf.result c.in-Some-moment_in.moment
    c.alg-alg.result c.digest_of_chains-sequence.result c.in-Some-moment_in.ensures c.alg-alg.ensures
    c.covered_later-leaf.ensures.algorithm c.digest_of_chains-sequence.ensures.octets
    c.covered_later-leaf.ensures.octets (c.in_ok-fits_over.ensures.fits.0 c.if-branch.true)

pub returns-else-branch-clause-rehashed : goal.returns-else-branch-clause-rehashed
returns-else-branch-clause-rehashed c =
    not_so_anew c.args.chains.now c.args.token.now c.args.digest.now c.in-Some.before c.in-Some.last c.in-Some.ensures
    c.in-Some-only_in.stamp c.in-Some-only_in.ensures c.last_in.result c.last_in.ensures
    c.last_chain.result.before.now
    (c.last_chain.ensures (_) c.in-Some.last (c.in-Some.ensures.1 ∙ sym (two_more c.in-Some.ensures.0 c.in-Some.before
    c.in-Some.last))).0
    c.covered_later-leaf.result c.in-Some-moment_in.moment c.alg-alg.result c.digest_of_chains-sequence.result
    c.in-Some-moment_in.ensures c.alg-alg.ensures c.covered_later-leaf.ensures.algorithm
    c.digest_of_chains-sequence.ensures.octets c.covered_later-leaf.ensures.octets
    (λ fits. absurd (let z : false ≡ true = sym c.if-branch.false ∙ c.in_ok-fits_over.ensures.fits.1 fits in cc))

pub returns-in_err-fits_over-clause-memory : goal.returns-in_err-fits_over-clause-memory
returns-in_err-fits_over-clause-memory c = λ e. only_out c.args.chains.now c.in-Some.before c.in-Some.last
    c.in-Some-only_in.stamp c.in-Some.ensures c.in-Some-only_in.ensures
    (not_in_order c.in-Some-only_in.stamp c.fits_over.result (search rules) c.fits_over.ensures.memory)

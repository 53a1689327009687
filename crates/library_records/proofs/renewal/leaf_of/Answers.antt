use Rattle.std.proofs.Common.{◌≡◌, ◌≢◌, ◌∙◌, ap, inl, inr, refl, rules, sym}
use Rattle.std.proofs.lemmas.Result.{err_from_is_err_and}
use Rattle.digests.specs.Algorithms.{name_of}
use Rattle.library_records.proofs.Renewals.{stands_on}
use Rattle.library_records.proofs.renewal.leaf_of.Goals as goal

pub returns-in_err-standing-clause-refused : goal.returns-in_err-standing-clause-refused
returns-in_err-standing-clause-refused c =
    let p = err_from_is_err_and c.from_residual-in_err-standing.result c.from_residual-in_err-standing.ensures.1 in
    rw (p.1, p.2) (inr (c.in_ok-alg.alg, c.in_ok-alg.ensures.found, inl c.in_err-standing.ensures.refused))

pub returns-then-eq-clause-found : goal.returns-then-eq-clause-found
returns-then-eq-clause-found c =
    let its : c.alg.result ≡ c.in_ok-alg.alg = search rules in
    record {
      last = c.in_ok-standing.standing.last;
      stands = stands_on c.args.token.now c.args.octets.now c.in_ok-standing.standing.done
          c.in_ok-standing.standing.last c.in_ok-standing.ensures.found;
      named = c.in_ok-alg.ensures.found ∙ ap name_of (sym its ∙ c.alg.ensures);
      same = refl;
    }

pub returns-else-eq-clause-refused : goal.returns-else-eq-clause-refused
returns-else-eq-clause-refused c =
    let other : c.alg.result ≢ c.in_ok-alg.alg = search rules in
    inr (
      c.in_ok-alg.alg,
      c.in_ok-alg.ensures.found,
      inr (record {
        told = refl;
        last = c.in_ok-standing.standing.last;
        stands = stands_on c.args.token.now c.args.octets.now c.in_ok-standing.standing.done
            c.in_ok-standing.standing.last c.in_ok-standing.ensures.found;
        other = λ e. other (c.alg.ensures ∙ e);
      }),
    )

use Rattle.std.proofs.lemmas.Result.{err_from_is_err_and}
use Rattle.library_records.proofs.NewChains.{lent_given, no_new_leaf, stands_anew}
use Rattle.library_records.proofs.new_chain.leaf_of.Goals as goal

pub returns-in_err-standing-clause-refused : goal.returns-in_err-standing-clause-refused
returns-in_err-standing-clause-refused c =
    let p = err_from_is_err_and c.from_residual-in_err-standing.result c.from_residual-in_err-standing.ensures.1 in
    rw (p.1, p.2)
    (no_new_leaf c.args.name.now c.args.digests.now c.args.octets.now c.args.alone c.in_ok-alg.alg
    c.in_ok-alg.ensures.found c.deref.result.now
    (lent_given c.in_ok-alg.alg c.args.digests.now c.in_ok-its.its.items c.deref.result.now c.deref.ensures.value
    c.in_ok-its.ensures.found) _ c.in_err-standing.ensures.refused)

pub returns-clause-found : goal.returns-clause-found
returns-clause-found c = record {
  alg = c.in_ok-alg.alg;
  named = c.in_ok-alg.ensures.found;
  digests = c.deref.result.now;
  are_given = lent_given c.in_ok-alg.alg c.args.digests.now c.in_ok-its.its.items c.deref.result.now
      c.deref.ensures.value c.in_ok-its.ensures.found;
  group = c.in_ok-standing.standing.on.group;
  last = c.in_ok-standing.standing.on.after;
  stands = stands_anew c.args.token.now c.args.octets.now c.args.alone c.in_ok-alg.alg c.deref.result.now
      c.in_ok-standing.standing.done c.in_ok-standing.standing.on.group c.in_ok-standing.standing.on.after
      c.in_ok-standing.ensures.found;
  same = c.node.ensures.octets;
}

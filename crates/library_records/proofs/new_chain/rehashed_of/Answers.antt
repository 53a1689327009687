use Rattle.std.proofs.Common.{◌∙◌, ℕ, Vec, Global}
use Rattle.std.proofs.lemmas.Result.{err_from_is_err_and}
use Rattle.library_records.proofs.NewChains.{found_done, found_leaf, has_new_chain, is_new_chain, lent_given}
use Rattle.library_records.proofs.NewChains.{not_on_tree, not_rehashed, rehashes_nothing, stands_anew}
use Rattle.library_records.proofs.new_chain.rehashed_of.Goals as goal

pub returns-in_err-standing-clause-refused : goal.returns-in_err-standing-clause-refused
returns-in_err-standing-clause-refused c =
    let p = err_from_is_err_and c.from_residual-in_err-standing.result c.from_residual-in_err-standing.ensures.1 in
    rw (p.1, p.2)
    (rehashes_nothing c.args.tree.now c.args.digests.now c.args.alone c.args.token.now c.args.octets.now
    c.alg-alg.result (c.alg-alg.ensures ∙ c.root.ensures.algorithm) c.deref.result.now
    (lent_given c.alg-alg.result c.args.digests.now c.in_ok-its.its.items c.deref.result.now c.deref.ensures.value
    c.in_ok-its.ensures.found) _ c.in_err-standing.ensures.refused)

pub returns-in_err-values-clause-refused : goal.returns-in_err-values-clause-refused
returns-in_err-values-clause-refused c =
    let p = err_from_is_err_and c.from_residual-in_err-values.result c.from_residual-in_err-values.ensures.1 in
    rw (p.1, p.2)
    (not_on_tree c.args.tree.now c.args.digests.now c.args.alone c.args.token.now c.args.octets.now
    c.alg-alg.result (c.alg-alg.ensures ∙ c.root.ensures.algorithm) c.deref.result.now
    (lent_given c.alg-alg.result c.args.digests.now c.in_ok-its.its.items c.deref.result.now c.deref.ensures.value
    c.in_ok-its.ensures.found) c.in_ok-standing.standing.on.group c.in_ok-standing.standing.on.after c.node-node.result
    c.node-node.ensures.octets
    (stands_anew c.args.token.now c.args.octets.now c.args.alone c.alg-alg.result c.deref.result.now
    c.in_ok-standing.standing.done c.in_ok-standing.standing.on.group c.in_ok-standing.standing.on.after
    c.in_ok-standing.ensures.found) _ c.in_err-values.ensures.refused)

pub returns-then-standing-clause-rehashed : goal.returns-then-standing-clause-rehashed
returns-then-standing-clause-rehashed c =
    has_new_chain c.args.tree.now c.args.digests.now c.args.alone c.args.token.now c.args.octets.now
    c.alg-alg.result (c.alg-alg.ensures ∙ c.root.ensures.algorithm) c.deref.result.now
    (lent_given c.alg-alg.result c.args.digests.now c.in_ok-its.its.items c.deref.result.now c.deref.ensures.value
    c.in_ok-its.ensures.found) c.in_ok-standing.standing.on.group c.in_ok-standing.standing.on.after c.node-node.result
    c.node-node.ensures.octets c.in_ok-values.ensures.stamped
    (found_done c.args.token.now c.args.octets.now c.args.alone c.alg-alg.result c.deref.result.now
    c.in_ok-standing.standing.done c.in_ok-standing.standing.on.group c.in_ok-standing.standing.on.after
    c.if-standing.true c.in_ok-standing.ensures.found)

pub returns-in-Ok-clause-rehashed : goal.returns-in-Ok-clause-rehashed
returns-in-Ok-clause-rehashed c =
    let (not_done, stood) = found_leaf c.args.token.now c.args.octets.now c.args.alone c.alg-alg.result
    c.deref.result.now c.in_ok-standing.standing.done c.in_ok-standing.standing.on.group
    c.in_ok-standing.standing.on.after c.if-standing.false c.in_ok-standing.ensures.found in
    let (v, was, encoded) = c.in-Ok.ensures.answer in
    is_new_chain c.args.tree.now c.args.digests.now c.args.alone c.args.token.now c.args.octets.now c.alg-alg.result
    (c.alg-alg.ensures ∙ c.root.ensures.algorithm) c.deref.result.now
    (lent_given c.alg-alg.result c.args.digests.now c.in_ok-its.its.items c.deref.result.now c.deref.ensures.value
    c.in_ok-its.ensures.found) c.in_ok-standing.standing.on.group c.in_ok-standing.standing.on.after c.node-node.result
    c.node-node.ensures.octets c.in_ok-values.ensures.stamped not_done stood c.in_ok-values.values
    c.in_ok-values.ensures.up
    (c.in_ok-standing.ensures.stands c.if-standing.false) v c.in-Ok.rehashed.items was encoded
    (c.in-Ok.ensures.kept v was) (c.in-Ok.ensures.shows v was)

pub returns-clause-refused : goal.returns-clause-refused
returns-clause-refused c =
    let (not_done, stood) = found_leaf c.args.token.now c.args.octets.now c.args.alone c.alg-alg.result
    c.deref.result.now c.in_ok-standing.standing.done c.in_ok-standing.standing.on.group
    c.in_ok-standing.standing.on.after c.if-standing.false c.in_ok-standing.ensures.found in
    rw c.failure_of.ensures
    (not_rehashed c.args.tree.now c.args.digests.now c.args.alone c.args.token.now c.args.octets.now c.alg-alg.result
    (c.alg-alg.ensures ∙ c.root.ensures.algorithm) c.deref.result.now
    (lent_given c.alg-alg.result c.args.digests.now c.in_ok-its.its.items c.deref.result.now c.deref.ensures.value
    c.in_ok-its.ensures.found) c.in_ok-standing.standing.on.group c.in_ok-standing.standing.on.after c.node-node.result
    c.node-node.ensures.octets c.in_ok-values.ensures.stamped not_done stood c.in_ok-values.values
    c.in_ok-values.ensures.up
    (λ (v : Vec ℕ Global). v.items) c.rehash_record.result c.in-Err.fault c.in-Err.is c.rehash_record.ensures.answer)

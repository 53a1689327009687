use Rattle.std.proofs.Common.{◌<◌, ℕ, Some, inl, inr, refl, subst}
use Rattle.cli_rehashing.proofs.Anew.{has_new_chain, is_new_chain, too_long}
use Rattle.cli_rehashing.proofs.Lines.{found_done, found_leaf, outside_leaf, outside_none}
use Rattle.cli_rehashing.proofs.step.rehashed_of.Goals as goal

pub returns-then-standing : goal.returns-then-standing
returns-then-standing c =
    let by = c.args.by.now in
    let new = c.in-Ok.standing.leaf in
    has_new_chain by.tree.now by.token.now by.moment c.requires.stamp.0 c.args.octets.now c.args.alone c.args.alg
    c.args.digests.now new.group c.footing_on.result.leaf c.footing_on.ensures.node new.after c.in-Some.values
    c.in-Some.ensures.up (subst (λ (n : ℕ). n < by.moment) c.footing_on.ensures.after c.in-Some.ensures.later)
    (found_done (Some by.token.now) c.args.octets.now c.args.alone c.args.alg c.args.digests.now c.in-Ok.standing.done
    new.group new.after c.if-standing.true c.in-Ok.ensures.found)

pub returns-in-Ok-rehash_record : goal.returns-in-Ok-rehash_record
returns-in-Ok-rehash_record c =
    let by = c.args.by.now in
    let new = c.in-Ok.standing.leaf in
    let made = c.in-Ok-rehash_record.ensures.answer in
    is_new_chain by.tree.now by.token.now by.moment c.requires.stamp.0 c.args.octets.now c.args.alone c.args.alg
    c.args.digests.now new.group c.footing_on.result.leaf c.footing_on.ensures.node new.after c.in-Some.values
    c.in-Some.ensures.up (subst (λ (n : ℕ). n < by.moment) c.footing_on.ensures.after c.in-Some.ensures.later)
    (found_leaf (Some by.token.now) c.args.octets.now c.args.alone c.args.alg c.args.digests.now c.in-Ok.standing.done
    new.group new.after c.if-standing.false c.in-Ok.ensures.found) c.requires.some made.0 _ made.1 made.2
    (c.in-Ok-rehash_record.ensures.kept made.0 made.1) (c.in-Ok-rehash_record.ensures.shows made.0 made.1)

pub returns-in-Err-TooLong : goal.returns-in-Err-TooLong
returns-in-Err-TooLong c =
    let by = c.args.by.now in
    let new = c.in-Ok.standing.leaf in
    let long = rw c.in-Err-TooLong.field-0-is at c.in-Err-TooLong.ensures.answer in
    too_long by.tree.now by.token.now by.moment c.requires.stamp.0 c.args.octets.now c.args.alone c.args.alg
    c.args.digests.now new.group c.footing_on.result.leaf c.footing_on.ensures.node new.after c.in-Some.values
    c.in-Some.ensures.up (subst (λ (n : ℕ). n < by.moment) c.footing_on.ensures.after c.in-Some.ensures.later)
    (found_leaf (Some by.token.now) c.args.octets.now c.args.alone c.args.alg c.args.digests.now c.in-Ok.standing.done
    new.group new.after c.if-standing.false c.in-Ok.ensures.found) c.requires.some long.0 long.1 long.2

pub returns-in-Err : goal.returns-in-Err
returns-in-Err c = elim c.of.ensures [
  | inl w ↦ rw w.0 tt
  | inr w ↦ rw w.0
      (outside_none c.args.by.now.tree.now c.args.by.now.token.now c.args.by.now.moment c.args.alone c.args.alg
      c.args.digests.now c.args.octets.now c.in-Err.failure w.1 c.in-Err.ensures.refused)
]

pub returns-in_default : goal.returns-in_default
returns-in_default c =
    outside_leaf c.args.by.now.tree.now c.args.by.now.token.now c.args.by.now.moment c.args.alone c.args.alg
    c.args.digests.now c.args.octets.now c.in-Ok.standing.done c.in-Ok.standing.leaf.group
    c.in-Ok.standing.leaf.after c.footing_on.result c.in-Ok.ensures.found c.footing_on.ensures.node
    c.footing_on.ensures.after (c.in_default.ensures.none refl)

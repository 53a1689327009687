use Rattle.std.proofs.Common.{◌≡◌, true, false, ◌∙◌, Contains, ap, sym, subst}
use Rattle.digests.specs.declared.value.Digest.{Digest}
use Rattle.digests.specs.Digests.{alg_of, octets_of}
use Rattle.cli_making.proofs.Records.{record_made, record_too_long}
use Rattle.cli_making.proofs.lines.record_of.Goals as goal

pub unreachable-requires : goal.unreachable-requires
unreachable-requires c =
    let none : false ≡ true = c.in_default.ensures.some.1
    (subst (λ (d : Digest). (alg_of d ≡ c.args.by.now.tree.now.algorithm)
    × Contains c.args.by.now.tree.now.leaves (octets_of d))
    (sym c.in_ok-digest.ensures) c.requires.leaf) in
    cc

pub returns-clause-made : goal.returns-clause-made
returns-clause-made c =
    record_made c.args.by.now.tree.now c.args.by.now.token.now c.args.sum.now.digest c.in_ok-digest.digest c.alg.result
    c.in-Some.values c.in_ok-digest.ensures
    (c.alg.ensures ∙ (ap alg_of c.in_ok-digest.ensures ∙ c.requires.leaf.0))
    c.in-Some.ensures.way c.in-Some.ensures.lists (λ v. v.items)
    c.make_record.result c.make_record.ensures.made c.make_record.ensures.shows

pub returns-clause-too_long : goal.returns-clause-too_long
returns-clause-too_long c = λ is.
    record_too_long c.args.by.now.tree.now c.args.by.now.token.now c.args.sum.now.digest c.in_ok-digest.digest
    c.alg.result
    c.in-Some.values c.in_ok-digest.ensures
    (c.alg.ensures ∙ (ap alg_of c.in_ok-digest.ensures ∙ c.requires.leaf.0))
    c.in-Some.ensures.way c.in-Some.ensures.lists
    (c.make_record.ensures.too_long.0 is)

use Rattle.std.proofs.Common.{◌∷◌, [], refl}
use Rattle.std.specs.Option.{option_copied}
use Rattle.digests.specs.Digests.{octets_of}
use Rattle.evidence_making.proofs.Already.{not_by, not_covered, not_long, root_if}
use Rattle.evidence_making.proofs.done.root_over.Goals as goal

pub returns-then-not-is_by-clause-root : goal.returns-then-not-is_by-clause-root
returns-then-not-is_by-clause-root c =
    not_by c.args.stamp.now c.args.leaf.now c.alg-alg.result c.alg-alg.ensures c.is_by.result c.if-not-is_by.true
    c.is_by.ensures

pub returns-then-not-have_lengths-clause-root : goal.returns-then-not-have_lengths-clause-root
returns-then-not-have_lengths-clause-root c =
    not_long c.args.stamp.now c.args.leaf.now c.alg-alg.result c.alg-alg.ensures c.have_lengths.result
    c.if-not-have_lengths.true (option_copied c.lists-lists.result) c.lists-lists.ensures c.have_lengths.ensures

pub returns-then-not-are_covered-clause-root : goal.returns-then-not-are_covered-clause-root
returns-then-not-are_covered-clause-root c =
    not_covered c.args.stamp.now c.args.leaf.now c.alg-alg.result c.alg-alg.ensures c.are_covered.result
    c.if-not-are_covered.true (option_copied c.lists-lists.result) c.lists-lists.ensures
    (c.are_covered.ensures.covered (octets_of c.args.leaf.now ∷ []) refl)

pub returns-clause-root : goal.returns-clause-root
returns-clause-root c =
    root_if c.args.stamp.now c.args.leaf.now c.alg-alg.result (option_copied c.lists-lists.result)
    (octets_of c.args.leaf.now ∷ []) c.alg-alg.ensures c.lists-lists.ensures refl
    (c.is_by.ensures.0 c.if-not-is_by.false) (c.have_lengths.ensures.0 c.if-not-have_lengths.false)
    ((c.are_covered.ensures.covered (octets_of c.args.leaf.now ∷ []) refl).0 c.if-not-are_covered.false)
    c.root_of.result c.root_of.ensures.algorithm (c.root_of.ensures.root (octets_of c.args.leaf.now ∷ []) refl)
    (c.root_of.ensures.none (octets_of c.args.leaf.now ∷ []) refl)

use Rattle.std.proofs.Common.{◌∙◌, Bool, List, ℕ, inl, inr, ap, refl}
use Rattle.digests.specs.declared.algorithm.Alg.{Alg}
use Rattle.digests.specs.declared.value.Digest.{Digest}
use Rattle.evidence_trees.specs.HashTrees.{HashTree}
use Rattle.evidence_sums.specs.Records.{RecordValue}
use Rattle.cli_failures.specs.Files.{path_below}
use Rattle.cli_renewing.proofs.Puts.{changed_at, read_there}
use Rattle.cli_rehashing.proofs.Lines.{at_record}
use Rattle.cli_rehashing.specs.Rehashing.{IsOutsideAnew, IsTooLongAnew, rehashing}
use Rattle.cli_rehashing.proofs.step.test_line.Goals as goal

-- of a record that isn't one that the tree is over
abbrev Other : HashTree → (token : List ℕ) → (m : ℕ) → (alone : Bool) → RecordValue → (octets : List ℕ) → Type 0
Other tree token m alone s octets = IsOutsideAnew tree token m alone s.alg s.digests octets

pub returns-in-Err-Changed-clause-fails : goal.returns-in-Err-Changed-clause-fails
returns-in-Err-Changed-clause-fails g c =
    inr (changed_at g.K.KeepsBelow.ways
    (rehashing c.args.folder.now c.args.by.now.tree.now c.args.by.now.token.now c.args.by.now.moment)
    c.args.sum.now _ c.as_slice-octets.result.now c.in_ok-octets.octets.items
    (ap (λ (n : List ℕ). path_below c.args.folder.now.path.now n)
    (c.text_of-name.ensures ∙ c.as_slice.ensures.value ∙ c.in_ok-name.ensures))
    c.as_slice-octets.ensures.value c.in_ok-octets.ensures.read
    (Other c.args.by.now.tree.now c.args.by.now.token.now c.args.by.now.moment c.args.folder.now.alone)
    (at_record (λ (a : Alg) (ds : List Digest). IsOutsideAnew c.args.by.now.tree.now c.args.by.now.token.now
    c.args.by.now.moment c.args.folder.now.alone a ds
    c.as_slice-octets.result.now) c.alg.result c.args.sum.now.alg c.as_slice-digests.result.now
    c.in_ok-digests.digests.items
    c.args.sum.now.digests c.alg.ensures c.as_slice-digests.ensures.value c.in_ok-digests.ensures.found
    (rw c.in-Err-Changed.field-0-is at c.in-Err-Changed.ensures)) c.changed.result c.changed.ensures)

pub returns-in-Err-TooLong-clause-fails : goal.returns-in-Err-TooLong-clause-fails
returns-in-Err-TooLong-clause-fails g c =
    inl (
      refl,
      (
        c.as_slice-octets.result.now,
        read_there g.K.KeepsBelow.ways
            (rehashing c.args.folder.now c.args.by.now.tree.now c.args.by.now.token.now c.args.by.now.moment)
            c.args.sum.now _ c.as_slice-octets.result.now c.in_ok-octets.octets.items
            (ap (λ (n : List ℕ). path_below c.args.folder.now.path.now n)
            (c.text_of-name.ensures ∙ c.as_slice.ensures.value ∙ c.in_ok-name.ensures))
            c.as_slice-octets.ensures.value c.in_ok-octets.ensures.read,
        at_record (λ (a : Alg) (ds : List Digest). IsTooLongAnew c.args.by.now.tree.now c.args.by.now.token.now
            c.args.folder.now.alone a ds c.as_slice-octets.result.now)
            c.alg.result c.args.sum.now.alg c.as_slice-digests.result.now c.in_ok-digests.digests.items
            c.args.sum.now.digests c.alg.ensures c.as_slice-digests.ensures.value c.in_ok-digests.ensures.found
            (rw c.in-Err-TooLong.field-0-is at c.in-Err-TooLong.ensures),
      ),
    )

use Rattle.std.proofs.Common.{◌≡◌, ◌⊎◌, ◌∙◌, Bool, List, ℕ, Some, None, inl, inr, ap, rules}
use Rattle.std.proofs.lemmas.Result.{err_from_is_err_and}
use Rattle.digests.specs.declared.algorithm.Alg.{Alg}
use Rattle.digests.specs.declared.value.Digest.{Digest}
use Rattle.evidence_trees.specs.HashTrees.{HashTree}
use Rattle.evidence_sums.specs.Records.{RecordValue}
use Rattle.cli_failures.specs.Files.{path_below}
use Rattle.cli_making.proofs.Adding.{adds_none}
use Rattle.cli_renewing.proofs.Puts.{changed_at, put_if, stays}
use Rattle.cli_rehashing.proofs.Lines.{at_record}
use Rattle.cli_rehashing.specs.Rehashing.{BecomesAnew, IsOutsideAnew, IsTooLongAnew, rehashing}
use Rattle.cli_rehashing.proofs.step.put_line.Goals as goal

-- of a record that isn't what was tested
abbrev Other : HashTree → (token : List ℕ) → (m : ℕ) → (alone : Bool) → RecordValue → (octets : List ℕ) → Type 0
Other tree token m alone s octets =
    IsOutsideAnew tree token m alone s.alg s.digests octets ⊎ IsTooLongAnew tree token alone s.alg s.digests octets

pub returns-in_err-octets-clause-none : goal.returns-in_err-octets-clause-none
returns-in_err-octets-clause-none g c =
    let p = err_from_is_err_and c.from_residual-in_err-octets.result c.from_residual-in_err-octets.ensures.1 in
    rw p.1 (adds_none _)

pub returns-in-Ok-Some-clause-put : goal.returns-in-Ok-Some-clause-put
returns-in-Ok-Some-clause-put g c =
    let some : c.in-Ok-Some.field-0 ≡ Some c.in-Ok-Some.rehashed = search rules in
    let same : c.as_slice-in-Ok-Some.result.now ≡ c.in-Ok-Some.rehashed.items = search rules in
    put_if g.K.KeepsBelow.ways (rehashing c.args.folder.now c.args.by.now.tree.now c.args.by.now.token.now
    c.args.by.now.moment) c.args.sum.now _
    c.as_slice-octets.result.now c.in_ok-octets.octets.items
    (ap (λ (n : List ℕ). path_below c.args.folder.now.path.now n)
    (c.text_of-name.ensures ∙ c.as_slice.ensures.value ∙ c.in_ok-name.ensures)) c.as_slice-octets.ensures.value
    c.in_ok-octets.ensures.read c.put_file.result _ _ c.in-Ok-Some.rehashed.items
    c.as_slice-in-Ok-Some.result.now same
    (at_record (λ (a : Alg) (ds : List Digest). BecomesAnew c.args.by.now.tree.now c.args.by.now.token.now
    c.args.by.now.moment c.args.folder.now.alone a ds
    c.as_slice-octets.result.now (Some c.in-Ok-Some.rehashed.items)) c.alg.result c.args.sum.now.alg
    c.as_slice-digests.result.now c.in_ok-digests.digests.items
    c.args.sum.now.digests c.alg.ensures c.as_slice-digests.ensures.value c.in_ok-digests.ensures.found
    (rw some at c.in-Ok-Some.ensures)) c.put_file.ensures.did c.put_file.ensures.adds

pub returns-in-Ok-None-clause-put : goal.returns-in-Ok-None-clause-put
returns-in-Ok-None-clause-put g c =
    let none : c.in-Ok-None.field-0 ≡ None = search rules in
    stays g.K.KeepsBelow.ways (rehashing c.args.folder.now c.args.by.now.tree.now c.args.by.now.token.now
    c.args.by.now.moment) c.args.sum.now _
    c.as_slice-octets.result.now c.in_ok-octets.octets.items
    (ap (λ (n : List ℕ). path_below c.args.folder.now.path.now n)
    (c.text_of-name.ensures ∙ c.as_slice.ensures.value ∙ c.in_ok-name.ensures)) c.as_slice-octets.ensures.value
    c.in_ok-octets.ensures.read _
    (at_record (λ (a : Alg) (ds : List Digest). BecomesAnew c.args.by.now.tree.now c.args.by.now.token.now
    c.args.by.now.moment c.args.folder.now.alone a ds
    c.as_slice-octets.result.now None) c.alg.result c.args.sum.now.alg c.as_slice-digests.result.now
    c.in_ok-digests.digests.items
    c.args.sum.now.digests c.alg.ensures c.as_slice-digests.ensures.value c.in_ok-digests.ensures.found
    (rw none at c.in-Ok-None.ensures))

pub returns-in-Err-Changed-clause-fails : goal.returns-in-Err-Changed-clause-fails
returns-in-Err-Changed-clause-fails g c =
    changed_at g.K.KeepsBelow.ways
    (rehashing c.args.folder.now c.args.by.now.tree.now c.args.by.now.token.now c.args.by.now.moment)
    c.args.sum.now _ c.as_slice-octets.result.now c.in_ok-octets.octets.items
    (ap (λ (n : List ℕ). path_below c.args.folder.now.path.now n)
    (c.text_of-name.ensures ∙ c.as_slice.ensures.value ∙ c.in_ok-name.ensures))
    c.as_slice-octets.ensures.value c.in_ok-octets.ensures.read
    (Other c.args.by.now.tree.now c.args.by.now.token.now c.args.by.now.moment c.args.folder.now.alone)
    (inl (at_record (λ (a : Alg) (ds : List Digest). IsOutsideAnew c.args.by.now.tree.now c.args.by.now.token.now
    c.args.by.now.moment c.args.folder.now.alone a ds
    c.as_slice-octets.result.now) c.alg.result c.args.sum.now.alg c.as_slice-digests.result.now
    c.in_ok-digests.digests.items
    c.args.sum.now.digests c.alg.ensures c.as_slice-digests.ensures.value c.in_ok-digests.ensures.found
    (rw c.in-Err-Changed.field-0-is at c.in-Err-Changed.ensures))) c.changed.result c.changed.ensures

pub returns-in-Err-Changed-clause-none : goal.returns-in-Err-Changed-clause-none
returns-in-Err-Changed-clause-none g c = adds_none _

pub returns-in-Err-TooLong-clause-fails : goal.returns-in-Err-TooLong-clause-fails
returns-in-Err-TooLong-clause-fails g c =
    changed_at g.K.KeepsBelow.ways
    (rehashing c.args.folder.now c.args.by.now.tree.now c.args.by.now.token.now c.args.by.now.moment)
    c.args.sum.now _ c.as_slice-octets.result.now c.in_ok-octets.octets.items
    (ap (λ (n : List ℕ). path_below c.args.folder.now.path.now n)
    (c.text_of-name.ensures ∙ c.as_slice.ensures.value ∙ c.in_ok-name.ensures))
    c.as_slice-octets.ensures.value c.in_ok-octets.ensures.read
    (Other c.args.by.now.tree.now c.args.by.now.token.now c.args.by.now.moment c.args.folder.now.alone)
    (inr (at_record (λ (a : Alg) (ds : List Digest). IsTooLongAnew c.args.by.now.tree.now c.args.by.now.token.now
    c.args.folder.now.alone a ds c.as_slice-octets.result.now)
    c.alg.result c.args.sum.now.alg c.as_slice-digests.result.now c.in_ok-digests.digests.items
    c.args.sum.now.digests c.alg.ensures c.as_slice-digests.ensures.value c.in_ok-digests.ensures.found
    (rw c.in-Err-TooLong.field-0-is at c.in-Err-TooLong.ensures)))
    c.changed-in-Err-TooLong.result c.changed-in-Err-TooLong.ensures

pub returns-in-Err-TooLong-clause-none : goal.returns-in-Err-TooLong-clause-none
returns-in-Err-TooLong-clause-none g c = adds_none _

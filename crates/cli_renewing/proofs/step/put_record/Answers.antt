use Rattle.std.proofs.Common.{◌≡◌, ◌⊎◌, ℕ, List, Some, None, inl, inr, refl, rules}
use Rattle.std.specs.Borrow.{Bor}
use Rattle.std.proofs.lemmas.Result.{err_from_is_err_and}
use Rattle.cli_making.proofs.Adding.{adds_none}
use Rattle.evidence_trees.specs.HashTrees.{HashTree}
use Rattle.cli_renewing.specs.Renewing.{IsOutside, IsTooLong, renewal}
use Rattle.cli_renewing.proofs.Puts.{changed_at, put_if, stays}
use Rattle.cli_renewing.proofs.step.put_record.Goals as goal

-- of a record that isn't what was tested
abbrev Other : HashTree → (token : List ℕ) → (m : ℕ) → Bor (List ℕ) → (octets : List ℕ) → Type 0
Other tree token m path octets = IsOutside tree token m octets ⊎ IsTooLong tree token octets

pub returns-in_err-octets-clause-none : goal.returns-in_err-octets-clause-none
returns-in_err-octets-clause-none g c =
    let p = err_from_is_err_and c.from_residual.result c.from_residual.ensures.1 in
    rw p.1 (adds_none _)

pub returns-in-Ok-Some-clause-put : goal.returns-in-Ok-Some-clause-put
returns-in-Ok-Some-clause-put g c =
    let some : c.in-Ok-Some.field-0 ≡ Some c.in-Ok-Some.renewed = search rules in
    let same : c.as_slice-in-Ok-Some.result.now ≡ c.in-Ok-Some.renewed.items = search rules in
    put_if g.K.Keeps.ways (renewal c.args.by.now.tree.now c.args.by.now.token.now c.args.by.now.moment) _
    c.args.path.now c.as_slice.result.now c.in_ok-octets.octets.items refl c.as_slice.ensures.value
    c.in_ok-octets.ensures.read c.put_file.result _ _ c.in-Ok-Some.renewed.items c.as_slice-in-Ok-Some.result.now same
    (rw some at c.in-Ok-Some.ensures) c.put_file.ensures.did c.put_file.ensures.adds

pub returns-in-Ok-None-clause-put : goal.returns-in-Ok-None-clause-put
returns-in-Ok-None-clause-put g c =
    let none : c.in-Ok-None.field-0 ≡ None = search rules in
    stays g.K.Keeps.ways (renewal c.args.by.now.tree.now c.args.by.now.token.now c.args.by.now.moment) _
    c.args.path.now c.as_slice.result.now c.in_ok-octets.octets.items refl c.as_slice.ensures.value
    c.in_ok-octets.ensures.read _ (rw none at c.in-Ok-None.ensures)

pub returns-in-Err-Changed-clause-fails : goal.returns-in-Err-Changed-clause-fails
returns-in-Err-Changed-clause-fails g c =
    changed_at g.K.Keeps.ways (renewal c.args.by.now.tree.now c.args.by.now.token.now c.args.by.now.moment)
    c.args.path c.args.path.now c.as_slice.result.now c.in_ok-octets.octets.items refl c.as_slice.ensures.value
    c.in_ok-octets.ensures.read (Other c.args.by.now.tree.now c.args.by.now.token.now c.args.by.now.moment)
    (inl (rw c.in-Err-Changed.field-0-is at c.in-Err-Changed.ensures)) c.changed.result c.changed.ensures

pub returns-in-Err-Changed-clause-none : goal.returns-in-Err-Changed-clause-none
returns-in-Err-Changed-clause-none g c = adds_none _

pub returns-in-Err-TooLong-clause-fails : goal.returns-in-Err-TooLong-clause-fails
returns-in-Err-TooLong-clause-fails g c =
    changed_at g.K.Keeps.ways (renewal c.args.by.now.tree.now c.args.by.now.token.now c.args.by.now.moment)
    c.args.path c.args.path.now c.as_slice.result.now c.in_ok-octets.octets.items refl c.as_slice.ensures.value
    c.in_ok-octets.ensures.read (Other c.args.by.now.tree.now c.args.by.now.token.now c.args.by.now.moment)
    (inr (rw c.in-Err-TooLong.field-0-is at c.in-Err-TooLong.ensures)) c.changed-in-Err-TooLong.result
    c.changed-in-Err-TooLong.ensures

pub returns-in-Err-TooLong-clause-none : goal.returns-in-Err-TooLong-clause-none
returns-in-Err-TooLong-clause-none g c = adds_none _

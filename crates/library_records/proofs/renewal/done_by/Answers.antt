use Rattle.std.proofs.Common.{◌∙◌, ℕ, List, Option, IfOk, sym, subst}
use Rattle.std.specs.Prelude.{MatchOption}
use Rattle.evidence_making.specs.declared.leaves.LastStamp.{LastStamp}
use Rattle.evidence_making.specs.Done.{IsDoneBy}
use Rattle.library_records.proofs.Renewals.{some_octets, some_token}
use Rattle.library_records.proofs.renewal.done_by.Goals as goal

pub returns-clause-done : goal.returns-clause-done
returns-clause-done c =
    subst (λ (t : Option (List ℕ)). IfOk c.renewed_by.result (λ o. MatchOption o
    ((other : LastStamp) → IsDoneBy t c.args.octets.now other → ⊥) (IsDoneBy t c.args.octets.now)))
    (sym (some_token c.args.token.now (sym c.is_empty.ensures ∙ c.if-is_empty.false))) c.renewed_by.ensures.renewed

pub returns-clause-memory : goal.returns-clause-memory
returns-clause-memory c =
    some_octets c.renewed_by.result c.args.token.now (sym c.is_empty.ensures ∙ c.if-is_empty.false)

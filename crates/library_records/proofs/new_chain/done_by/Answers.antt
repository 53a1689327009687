use Rattle.std.proofs.Common.{◌∙◌, ℕ, List, Option, IfOk, sym, subst}
use Rattle.std.specs.Prelude.{MatchOption}
use Rattle.evidence_trees.specs.Groups.{GroupValue}
use Rattle.evidence_making.specs.Done.{IsDoneAnewBy}
use Rattle.library_records.proofs.Renewals.{some_token}
use Rattle.library_records.proofs.new_chain.done_by.Goals as goal

pub returns : goal.returns
returns c =
    subst (λ (t : Option (List ℕ)). IfOk c.rehashed_by.result (λ o. MatchOption o
    ((group : GroupValue) (m : ℕ) → IsDoneAnewBy t c.args.octets.now c.args.alg c.args.digests.now group m → ⊥)
    (λ r. IsDoneAnewBy t c.args.octets.now c.args.alg c.args.digests.now r.group r.after)))
    (sym (some_token c.args.token.now (sym c.is_empty.ensures ∙ c.if-is_empty.false))) c.rehashed_by.ensures.rehashed

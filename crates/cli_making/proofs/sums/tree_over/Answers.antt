use Rattle.std.proofs.Common.{◌∙◌, List, ℕ, subst}
use Rattle.std.specs.Prelude.{IfOk}
use Rattle.evidence_trees.specs.HashTrees.{IsTreeOf}
use Rattle.cli_making.proofs.Stated.{digests_by, some_digests, values_of}
use Rattle.cli_making.proofs.sums.tree_over.Goals as goal

pub of-requires-clause-some : goal.of-requires-clause-some
of-requires-clause-some c = some_digests c.args.alg c.requires.0 c.args.sums.now _ c.requires.1
    (c.as_slice.ensures.value ∙ c.in_ok-digests.ensures)

pub of-requires-clause-algorithm : goal.of-requires-clause-algorithm
of-requires-clause-algorithm c = digests_by c.args.alg c.requires.0 c.args.sums.now _ c.requires.1
    (c.as_slice.ensures.value ∙ c.in_ok-digests.ensures)

pub returns : goal.returns
returns c = subst (λ (vs : List (List ℕ)). IfOk c.of.result (IsTreeOf c.args.alg vs))
    (values_of c.args.sums.now _ (c.as_slice.ensures.value ∙ c.in_ok-digests.ensures)) c.of.ensures

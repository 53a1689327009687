use Rattle.std.proofs.Common.{◌≡◌, All}
use Rattle.digests.specs.Digests.{alg_of}
use Rattle.making_tests.proofs.documents.documents.Given as goal

abbrev pub invariant-loop-number : goal.invariant-loop-number
invariant-loop-number l = All (λ d. alg_of d ≡ l.alg) l.documents.items

-- A line that continues none is one of sums.
use Rattle.std.proofs.Common.{◌≡◌, ℕ, Bool, true, false, List}
use Rattle.digests.specs.declared.algorithm.Alg.{Alg}
use Rattle.evidence_sums.specs.LineTests.{is_continued, is_line}
use Rattle.evidence_sums.specs.SumLines.{is_sum_line}

pub head_line : (may_continue : Bool) (alg : Alg) (line : List ℕ) → is_line may_continue alg line ≡ true
    → is_continued may_continue line ≡ false → is_sum_line alg line ≡ true
head_line may_continue alg line e head = rw head at e

-- How the answer about a file is told: by its status and as its line.
use Rattle.std.specs.Prelude.{◌≡◌, ◌<◌, ◌⊎◌, ℕ, List, length, take, drop, Result, Ok, Err}
use Rattle.check_fit.specs.declared.rules.FileRule.TheVariants as file
use Rattle.check_fit.specs.declared.rules.Refused.{Refused}
use Rattle.check_fit.specs.declared.rules.Refused.TheVariants as refused
use Rattle.lines_report.specs.VerdictLine.{IsVerdictLine}

-- 1 exactly for an acceptance; 2 refused, 3 malformed, 5 a device
abbrev pub status_of : Result ℕ Refused → ℕ
status_of (Ok m) = 1
status_of (Err (refused.File (file.Malformed fault))) = 3
status_of (Err (refused.Device fault)) = 5
status_of (Err why) = 2

-- the status of the answer, and its line if there is room for any, behind which the room is as it was; or there is
-- room, but, with 6, too little for a line of this size, or, with 7, no memory to make it, and the room is as it was
abbrev pub Tells : (answer : Result ℕ Refused) (status : ℕ) (before : List ℕ) (size : ℕ) (after : List ℕ) → Type 0
Tells answer status before size after = ((status ≡ status_of answer)
    × (0 < length before → IsVerdictLine answer (take size after) × (size ≡ length (take size after))
    × (drop size after ≡ drop size before)) × (length before ≡ 0 → size ≡ 0))
    ⊎ ((0 < length before) × (after ≡ before) × (((status ≡ 6) × ((line : List ℕ) × IsVerdictLine answer line
    × (size ≡ length line) × (length before < length line))) ⊎ ((status ≡ 7) × (size ≡ 0))))

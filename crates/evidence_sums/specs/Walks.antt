-- Lines that are passed over.
use Rattle.std.specs.Prelude.{ℕ, List, [], ◌∷◌, if◌then◌else◌}
use Rattle.evidence_sums.specs.Records.{continues}

-- from the first line on that begins a record
abbrev pub behind_continued : (lines : List (List ℕ)) → List (List ℕ)
behind_continued [] = []
behind_continued (line ∷ lines) = if continues line then behind_continued lines else line ∷ lines

use Rattle.std.proofs.Common.{◌≡◌, ◌++◌, length, map}
use Rattle.cli_files.specs.Paths.{AreUtf8, names_of, path_of_name}
use Rattle.cli_files.proofs.paths.paths_in.Given as goal

-- the paths so far, and those of the octets that are left, are all; and each name is UTF-8 if and only if each that is
-- left is
abbrev pub invariant-loop-left : goal.invariant-loop-left
invariant-loop-left l = (map (λ p. p.now) l.paths.items ++ map path_of_name (names_of l.end l.left)
    ≡ map path_of_name (names_of l.end l.text))
    × ((AreUtf8 (names_of l.end l.left) → AreUtf8 (names_of l.end l.text))
    × (AreUtf8 (names_of l.end l.text) → AreUtf8 (names_of l.end l.left)))

abbrev pub decreases-loop-left : goal.decreases-loop-left
decreases-loop-left l = length l.left

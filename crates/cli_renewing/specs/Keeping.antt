-- Files that are read and replaced, each by its path. No contract of the system says which path is read or written:
-- here paths stand for what is asked of it, by which contracts say of which file what is read, what is put into its
-- place, and in which order.
use Rattle.std.specs.Prelude.{⊤, ℕ, List, Option}
use Rattle.std.specs.Io.KnownBytes.{Appends}
use Rattle.cli_failures.specs.declared.failure.Failure.{Failure}
use Rattle.cli_failures.specs.Files.{IsFailureToReadShown, IsFailureToReplaceShown, IsHeld}

-- these octets, as the file of this path
pub record Kept : Type 0 where
  pub path : List ℕ
  pub octets : List ℕ

abbrev pub kept : (path octets : List ℕ) → Kept
kept path octets = record { path = path; octets = octets }

-- what is known of reading files and replacing them: that a file was read so, that a test found that the file of a path
-- can be replaced, that a file was put, and for which failures it can't be read or put
pub record Ways : Type 1 where
  pub read : Kept → Type 0
  pub can : (path : List ℕ) → Type 0
  pub did : Kept → Type 0
  pub unread : (path : List ℕ) → Failure → Type 0
  pub unput : (path : List ℕ) → Failure → Type 0

-- ---- of the system, by what its open files hold and what they have taken

-- an open file took these octets after what it held, if it is known what such a file holds
abbrev pub IsTaken : {F : Type 0} → (contents : F → Option (List ℕ)) → (octets : List ℕ) → Type 0
IsTaken {F} contents octets = (before : F) × (after : F) × Appends (contents before) (contents after) octets

abbrev pub system_ways : {F : Type 0} → (holds contents : F → Option (List ℕ)) → Ways
system_ways holds contents = record {
  read = λ file. IsHeld holds file.octets;
  can = λ path. ⊤;
  did = λ file. IsTaken contents file.octets;
  unread = λ path f. IsFailureToReadShown path f;
  unput = λ path f. IsFailureToReplaceShown path f;
}

-- ---- of a test

-- nothing is known
abbrev pub any_ways : Ways
any_ways = record {
  read = λ file. ⊤;
  can = λ path. ⊤;
  did = λ file. ⊤;
  unread = λ path f. ⊤;
  unput = λ path f. ⊤;
}

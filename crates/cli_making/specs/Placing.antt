-- Files that are put below folders. No contract of the system says which path is written: here names stand for what is
-- asked of it, by which contracts say which octets are put where, and in which order.
use Rattle.std.specs.Prelude.{⊤, ℕ, List, Option}
use Rattle.cli_failures.specs.declared.failure.Failure.{Failure}
use Rattle.cli_failures.specs.Files.{IsFailureBelow, IsPut}

-- these octets as the file `FOLDER/NAME.ers`
pub record Placed : Type 0 where
  pub folder : List ℕ
  pub name : List ℕ
  pub octets : List ℕ

abbrev pub placed : (folder name octets : List ℕ) → Placed
placed folder name octets = record { folder = folder; name = name; octets = octets }

-- what is known of testing files and putting them: that a test found that a file can be put, and for which failure one
-- can't
pub record Ways : Type 1 where
  pub can : Placed → Type 0
  pub fails : Placed → Failure → Type 0

-- ---- of the system, by what its open files hold

abbrev pub system_ways : {F : Type 0} → (holds : F → Option (List ℕ)) → Ways
system_ways holds = record {
  can = λ p. ⊤;
  fails = λ p f. IsFailureBelow holds p.folder p.name p.octets f;
}

-- a file was put: the octets are in a file that was opened
abbrev pub SystemPut : {F : Type 0} → (holds contents : F → Option (List ℕ)) → Placed → Type 0
SystemPut holds contents p = IsPut holds contents p.octets

-- ---- of a test

-- nothing is known
abbrev pub any_ways : Ways
any_ways = record {
  can = λ p. ⊤;
  fails = λ p f. ⊤;
}

-- What `migrate` writes for a trust list. `holds` is what an open file holds, if that is known.
use Rattle.std.specs.Prelude.{◌≡◌, ◌⊎◌, ℕ, List, [], ◌∷◌, ◌++◌, Option, Ok, codes}
use Rattle.trust_lists.specs.Entries.{EntryValue}
use Rattle.trust_lists.specs.TrustText.{IsTrust}
use Rattle.trust_lists.specs.Written.{AreEntryLines}
use Rattle.cli_failures.specs.declared.failure.Failure.{Failure}
use Rattle.cli_failures.specs.declared.failure.Failure.TheVariants as failure
use Rattle.cli_tasks.specs.declared.task.MigrateWords.{MigrateWords}
use Rattle.cli_failures.specs.Causes.{Names}
use Rattle.cli_failures.specs.Files.{IsHeld}
use Rattle.cli_commands.specs.Lists.{IsFailureOfTrust}
use Rattle.cli_commands.specs.Matching.{IsWritten}

-- the text of version 2 with a line for each of these entries, in their order
pub record IsTextOf (entries : List EntryValue) (text : List ℕ) : Type 0 where
  pub lines : List ℕ
  pub are : AreEntryLines entries lines
  pub is : text ≡ (codes "cmsproof trust 2" ++ 10 ∷ []) ++ lines

-- the text of a file is a trust list, and a file took the text of version 2 of its entries
pub record IsMigrated {F : Type 0} (holds contents : F → Option (List ℕ)) : Type 0 where
  pub text : List ℕ
  pub entries : List EntryValue
  pub read : IsHeld holds text
  pub says : IsTrust text (Ok entries)
  pub migrated : List ℕ
  pub is : IsTextOf entries migrated
  pub written : IsWritten contents migrated

-- the file that should take the list is the list's, as far as their paths say; the list's file fails or isn't a trust
-- list, memory runs out, or the file that should take the list can't be made or written
abbrev pub MigratesNot : {F : Type 0} → (holds : F → Option (List ℕ)) → MigrateWords → Failure → Type 0
MigratesNot holds words f = Names (codes "OUT") f
    ⊎ (IsFailureOfTrust holds words.list f ⊎ ((f ≡ failure.Memory) ⊎ (f ≡ failure.Write words.out)))

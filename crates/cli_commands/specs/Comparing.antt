-- What `compare` prints for two files. `holds` is what an open file holds, if that is known.
use Rattle.std.specs.Prelude.{◌≡◌, ◌⊎◌, ℕ, List, [], ◌∷◌, ◌++◌, Option, codes}
use Rattle.cms_compare.specs.declared.compared.Compared.TheVariants as compared
use Rattle.cms_compare.specs.Comparing.{Compares, RefusesToCompare}
use Rattle.cli_failures.specs.declared.failure.Failure.{Failure}
use Rattle.cli_failures.specs.declared.failure.Failure.TheVariants as failure
use Rattle.cli_tasks.specs.declared.task.CompareWords.{CompareWords}
use Rattle.cli_failures.specs.Files.{IsFailureToRead, IsHeld}

-- the text says that signer i of a file and signer j of another sign the same
abbrev pub IsSameLine : (a : List ℕ) (i : ℕ) (b : List ℕ) (j : ℕ) (text : List ℕ) → Type 0
IsSameLine a i b j text = Compares a i b j compared.Same × (text ≡ codes "same" ++ (10 ∷ []))

-- the failure is the other result, or says that they are not compared
abbrev pub TellsUnlike : (a : List ℕ) (i : ℕ) (b : List ℕ) (j : ℕ) → Failure → Type 0
TellsUnlike a i b j failure.Different = Compares a i b j compared.Different
TellsUnlike a i b j failure.Collision = Compares a i b j compared.Collision
TellsUnlike a i b j (failure.Uncompared why) = RefusesToCompare a i b j why
TellsUnlike a i b j _ = ⊥

-- memory ran out for that line
abbrev pub LacksMemoryToTell : (a : List ℕ) (i : ℕ) (b : List ℕ) (j : ℕ) → Failure → Type 0
LacksMemoryToTell a i b j f = (f ≡ failure.Memory) × Compares a i b j compared.Same

-- the text says that the signatures that the words name sign the same
abbrev pub ShowsSame : {F : Type 0} → (holds : F → Option (List ℕ)) → CompareWords → (text : List ℕ) → Type 0
ShowsSame holds words text = (a b : List ℕ) × IsHeld holds a × IsHeld holds b
    × IsSameLine a words.first_signer b words.second_signer text

-- a file can't be read, memory runs out, or the signatures sign different contents or are not compared
abbrev pub ShowsUnlike : {F : Type 0} → (holds : F → Option (List ℕ)) → CompareWords → Failure → Type 0
ShowsUnlike holds words f = IsFailureToRead words.first_file f
    ⊎ (IsFailureToRead words.second_file f ⊎ ((a b : List ℕ) × IsHeld holds a × IsHeld holds b
    × TellsUnlike a words.first_signer b words.second_signer f))

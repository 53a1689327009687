-- What the words of a command name: an algorithm, the text of a file of sums, and the token in another file. `holds` is
-- what an open file holds, if that is known.
use Rattle.std.specs.Prelude.{◌⊎◌, ℕ, List, Option}
use Rattle.std.specs.Borrow.{Bor}
use Rattle.digests.specs.declared.algorithm.Alg.{Alg}
use Rattle.cli_failures.specs.declared.failure.Failure.{Failure}
use Rattle.cli_failures.specs.Files.{IsFailureToRead, IsHeld}
use Rattle.cli_making.specs.Algorithm.{IsAlgBy, MayName, RefusesName}

pub record AreGiven {F : Type 0} (holds : F → Option (List ℕ)) (name : Option (List ℕ)) (alg : Alg)
    (text token : List ℕ) : Type 0 where
  pub by : IsAlgBy name text token alg
  pub text_held : IsHeld holds text
  pub token_held : IsHeld holds token

-- the first of these: no algorithm has the name; the file of the sums can't be read; the token's can't; or what is
-- given fails so
abbrev pub GivesNot : {F : Type 0} → (holds : F → Option (List ℕ)) → (name : Option (List ℕ))
    → (sums token : Bor (List ℕ)) → (Fails : Alg → (text octets : List ℕ) → Failure → Type 0) → Failure → Type 0
GivesNot holds name sums token Fails f = RefusesName name f ⊎ (MayName name × (IsFailureToRead sums f
    ⊎ ((text : List ℕ) × IsHeld holds text × (IsFailureToRead token f
    ⊎ ((octets : List ℕ) × IsHeld holds octets
    × ((alg : Alg) × IsAlgBy name text octets alg × Fails alg text octets f))))))

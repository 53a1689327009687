-- What `match` prints for a request and a response. `holds` is what an open file holds, if that is known.
use Rattle.std.specs.Prelude.{◌≡◌, ◌≢◌, ◌⊎◌, ℕ, List, [], ◌∷◌, ◌++◌, Option, IfSome, IsSomeAnd, codes}
use Rattle.std.specs.Borrow.{Bor}
use Rattle.std.specs.Io.KnownBytes.{Appends}
use Rattle.cli_failures.specs.declared.failure.Failure.{Failure}
use Rattle.cli_failures.specs.declared.failure.Failure.TheVariants as failure
use Rattle.cli_tasks.specs.declared.task.MatchWords.{MatchWords}
use Rattle.cli_failures.specs.Causes.{Names}
use Rattle.cli_failures.specs.Files.{IsFailureToRead, IsHeld}
use Rattle.cli_failures.specs.Tokens.{Answers, AnswersNot}

-- what is printed if the response in one file answers the request in another
abbrev pub ShowsAnswer : {F : Type 0} → (holds : F → Option (List ℕ)) → (text : List ℕ) → Type 0
ShowsAnswer holds text = (request response token : List ℕ) × IsHeld holds request × IsHeld holds response
    × Answers request response token × (text ≡ codes "answers" ++ (10 ∷ []))

-- memory ran out, or the file that should take the token can't be made or written
abbrev pub IsFailureToTake : (path : Option (Bor (List ℕ))) → Failure → Type 0
IsFailureToTake path f = (f ≡ failure.Memory) ⊎ IsSomeAnd path (λ p. f ≡ failure.Write p)

-- the file that should take the token is one of the two that are read, as far as their paths say
abbrev pub RefusesToken : MatchWords → Failure → Type 0
RefusesToken words f = IsSomeAnd words.token (λ p. Names (codes "TOKEN") f)

-- it is neither of them
abbrev pub IsTokenApart : MatchWords → Type 0
IsTokenApart words = IfSome words.token (λ p. (p.now ≢ words.request.now) × (p.now ≢ words.response.now))

-- the token's file is refused, a file can't be read, the octets don't answer, or the token's file fails
abbrev pub ShowsNoAnswer : {F : Type 0} → (holds : F → Option (List ℕ)) → MatchWords → Failure → Type 0
ShowsNoAnswer holds words f = RefusesToken words f
    ⊎ (IsFailureToRead words.request f ⊎ (IsFailureToRead words.response f
    ⊎ (((request response : List ℕ) × IsHeld holds request × IsHeld holds response × AnswersNot request response f)
    ⊎ IsFailureToTake words.token f)))

-- a file took these octets after what it held, if it is known what such a file holds
abbrev pub IsWritten : {F : Type 0} → (contents : F → Option (List ℕ)) → (octets : List ℕ) → Type 0
IsWritten {F} contents octets = (before : F) × (after : F) × Appends (contents before) (contents after) octets

-- a file took the token of a response that answers, of two files
pub record IsTokenWritten {F : Type 0} (holds contents : F → Option (List ℕ)) : Type 0 where
  pub request : List ℕ
  pub response : List ℕ
  pub token : List ℕ
  pub read_request : IsHeld holds request
  pub read_response : IsHeld holds response
  pub answers : Answers request response token
  pub written : IsWritten contents token

-- What is said of two files that were compared.
use Rattle.std.proofs.Common.{◌⊎◌, ℕ, List, Option, Result, Ok, Err, inl, inr}
use Rattle.std.specs.Prelude.{IfOk, IfErr}
use Rattle.cli_tasks.specs.declared.task.CompareWords.{CompareWords}
use Rattle.cli_failures.specs.declared.failure.Failure.{Failure}
use Rattle.cli_failures.specs.Files.{IsHeld}
use Rattle.cli_commands.specs.Comparing.{IsSameLine, LacksMemoryToTell, ShowsSame, ShowsUnlike, TellsUnlike}

module _ {F T : Type 0} (holds : F → Option (List ℕ)) (bytes : T → List ℕ) (words : CompareWords) (a b : List ℕ)
    (read_a : IsHeld holds a)
    (read_b : IsHeld holds b) where
  pub shows_same : (r : Result T Failure)
      → IfOk r (λ t. IsSameLine a words.first_signer b words.second_signer (bytes t))
      → IfOk r (λ t. ShowsSame holds words (bytes t))
  shows_same (Ok t) is = (a, b, read_a, read_b, is)
  shows_same (Err f) is = tt

  pub shows_unlike : (r : Result T Failure)
      → IfErr r (λ f. LacksMemoryToTell a words.first_signer b words.second_signer f
      ⊎ TellsUnlike a words.first_signer b words.second_signer f)
      → IfErr r (ShowsUnlike holds words)
  shows_unlike (Ok t) is = tt
  shows_unlike (Err f) (inl (m, same)) = inl (inl m)
  shows_unlike (Err f) (inr unlike) = inr (inr (a, b, read_a, read_b, unlike))

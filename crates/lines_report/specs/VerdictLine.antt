-- The line that reports a verdict.
use Rattle.std.specs.Prelude.{◌≡◌, ℕ, true, List, [], ◌∷◌, ◌++◌, codes, Result, Ok, Err}
use Rattle.der_core.specs.Times.{is_generalized}
use Rattle.der_time.specs.Moments.{generalized_moment}
use Rattle.check_fit.specs.declared.rules.Refused.{Refused}
use Rattle.check_fit.specs.RuleTexts.{refused_text}

-- a text of a GeneralizedTime that denotes the moment (X.690 11.7), of which there is one
pub record IsMomentText (m : ℕ) (text : List ℕ) : Type 0 where
  pub formed : is_generalized text ≡ true
  pub denotes : generalized_moment text ≡ m

-- the moment of an acceptance, or the text of a refusal, with a line feed
abbrev pub IsVerdictLine : Result ℕ Refused → List ℕ → Type 0
IsVerdictLine (Ok m) line = (text : List ℕ) × IsMomentText m text × (line ≡ codes "accepted " ++ text ++ 10 ∷ [])
IsVerdictLine (Err refused) line = line ≡ refused_text refused ++ 10 ∷ []

-- two lines of one verdict are the same
abbrev pub LinesAreUnique : Type 0
LinesAreUnique = (verdict : Result ℕ Refused) (a b : List ℕ) → IsVerdictLine verdict a → IsVerdictLine verdict b → a ≡ b

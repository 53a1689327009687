-- Worked rows: entries as they count beside a record, and the file with a token of ten o'clock beside some.
use Rattle.std.specs.Prelude.{[], ◌∷◌, Some, None}
use Rattle.der_grammar.specs.Vectors.{stamped_file}
use Rattle.check_fit.specs.declared.rules.TokenRule.TheVariants as token
use Rattle.check_fit.specs.declared.rules.Refused.TheVariants as refused
use Rattle.check_verdict.specs.Trusted.{Holds}
use Rattle.check_verdict.specs.Beside.{beside}
use Rattle.check_verdict.specs.Passing.{Terms}
use Rattle.check_verdict.specs.Verdicts.{Yes, Refuses}
use Rattle.check_verdict.specs.Rows.{terms, signs, attests, both, ten_oclock, a_second_before, half_a_second_later}
use Rattle.check_under.specs.TokensUnder.{beside_record}

-- at ten o'clock
pub record BesideRows : Type 0 where
  -- an authority's entry without end, beside a record of half a second later, and of that very moment
  pub without_end : Holds (beside half_a_second_later (attests None None)) ten_oclock
  pub at_once : Holds (beside ten_oclock (attests None None)) ten_oclock
  -- one that ends at ten, beside a record of that very moment, but not of half a second later
  pub until_then : Holds (beside ten_oclock (attests None (Some ten_oclock))) ten_oclock
  pub had_ended : Holds (beside half_a_second_later (attests None (Some ten_oclock))) ten_oclock → ⊥
  -- none beside a record of a second before
  pub later : Holds (beside a_second_before (attests None None)) ten_oclock → ⊥
  -- a signer's counts as ever
  pub signer : Holds (beside half_a_second_later (signs None (Some ten_oclock))) ten_oclock
  pub signer_later : Holds (beside a_second_before (signs None None)) ten_oclock

-- a signer and an authority are trusted without end
abbrev pub trusting : Terms
trusting = terms (signs None None ∷ attests None None ∷ []) both

-- the file with the token
pub record UnderRows : Type 0 where
  -- it is accepted with the token's moment beside a record of half a second later, and of that very moment
  pub accepted : Yes (beside_record half_a_second_later trusting) stamped_file None ten_oclock
  pub at_once : Yes (beside_record ten_oclock trusting) stamped_file None ten_oclock
  -- and refused beside one of a second before: the token is later
  pub later : Refuses (beside_record a_second_before trusting) stamped_file None (refused.Token 1 1 token.Period)

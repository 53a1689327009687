-- Reading times from the left: their texts, and which of the two types they have. The moments of texts are defined in
-- `Moments`.
use Rattle.std.proofs.Common.{inl, inr}
use Rattle.std.specs.Prelude.{ℕ, Bool, true, false, List, Result, ◌⊎◌}
use Rattle.der_core.specs.declared.fault.Fault.{Fault}
use Rattle.der_core.specs.declared.fault.Kind.TheVariants.{Time}
use Rattle.der_core.specs.Times.{is_utc, is_generalized}
use Rattle.der_core.specs.Grammar.{any}
use Rattle.der_core.specs.Reading.{Spot, either, named, contents_at}
use Rattle.der_time.specs.TimeValue.{TimeValue, Utc, Generalized}

-- the contents of a UTCTime, and of a GeneralizedTime
abbrev pub utc_text_in : Spot → Result (List ℕ) Fault
utc_text_in s = contents_at Time is_utc any s

abbrev pub generalized_text_in : Spot → Result (List ℕ) Fault
generalized_text_in s = contents_at Time is_generalized any s

abbrev pub time_from : List ℕ ⊎ List ℕ → TimeValue
time_from (inl text) = Utc text
time_from (inr text) = Generalized text

unfoldable pub time_at : Spot → Result (TimeValue × Spot) Fault
time_at s = named time_from (either 0x17 utc_text_in 24 generalized_text_in) s

-- a time as its type and its text
abbrev pub time_value : (is_utc : Bool) → List ℕ → TimeValue
time_value true text = Utc text
time_value false text = Generalized text

-- The CHOICE of two types of time and its encoding (RFC 5280, 4.1.2.5; RFC 5652, 11.3).
use Rattle.std.specs.Prelude.{◌≡◌, ℕ, true, List}
use Rattle.der_core.specs.Element.{el}
use Rattle.der_core.specs.Times.{is_utc, is_generalized}
use Rattle.der_core.specs.Values.{HasLength}
use Rattle.der_time.specs.Moments.{utc_moment, generalized_moment}

-- Time ::= CHOICE { utcTime UTCTime, generalTime GeneralizedTime }: its text
pub data TimeValue : Type 0 where
  Utc : (text : List ℕ) → TimeValue
  Generalized : (text : List ℕ) → TimeValue

abbrev pub time_element : TimeValue → List ℕ
time_element (Utc text) = el 0x17 text
time_element (Generalized text) = el 0x18 text

-- its text is a text of its type
abbrev pub GoodTime : TimeValue → Type 0
GoodTime (Utc text) = (is_utc text ≡ true) × HasLength text
GoodTime (Generalized text) = (is_generalized text ≡ true) × HasLength text

-- the moment that it denotes, in nanoseconds after 0000-01-01 00:00:00
abbrev pub moment_of : TimeValue → ℕ
moment_of (Utc text) = utc_moment text
moment_of (Generalized text) = generalized_moment text

-- What a call that checks a file says.
use Rattle.std.specs.Prelude.{◌≡◌, ◌<◌, ◌^◌, ◌⊎◌, ℕ, Bool, true, false, List, length, Option, Some, None, Result}
use Rattle.cms_types.specs.SignedDataValue.{SignedDataValue, EncodesSignedData}
use Rattle.check_fit.specs.declared.rules.DeviceFault.TheVariants as device
use Rattle.check_fit.specs.declared.rules.Refused.{Refused}
use Rattle.check_fit.specs.Fitting.{with_sha1}
use Rattle.trust_lists.specs.Asking.{Asked, is_among}
use Rattle.trust_lists.specs.Entries.{EntryValue}
use Rattle.check_verdict.specs.Passing.{Terms}
use Rattle.check_verdict.specs.TokenVerdicts.{terms_of}
use Rattle.check_verdict.specs.Verdicts.{Yes, IsContent}
use Rattle.check_verdict.specs.Asks.{IsAskedIn}
use Rattle.check_verdict.specs.Checking.{IsVerdict}
use Rattle.library_answers.specs.declared.answer.Answer.{Answer}
use Rattle.library_answers.specs.Numbers.{numbers_of, accepted_numbers, device_numbers}
use Rattle.library_answers.specs.Verdicts.{Tells}
use Rattle.library_calls.specs.Known.{IsTooLong}

-- the content that is handed in
abbrev pub handed : Bool → List ℕ → Option (List ℕ)
handed true content = Some content
handed false content = None

-- the terms of a check under a trust list and an answers list, which vouches for the questions in it and no others
abbrev pub terms_under : (list : List EntryValue) → (asked : List Asked) → (sha1 : Bool) → Terms
terms_under list asked sha1 = terms_of (with_sha1 sha1) list (is_among asked)

-- the verdict of the definitions about a file and a content in memory; no device fails, so it is X5 or of a rule
abbrev pub IsKnownVerdict : Terms → (octets : List ℕ) → (handed : Option (List ℕ)) → Result ℕ Refused → Type 0
IsKnownVerdict t octets handed verdict = IsTooLong handed verdict ⊎ IsVerdict t octets handed verdict

-- that verdict, in numbers and as its line
abbrev pub IsChecked : Terms → (octets : List ℕ) → (content : Option (List ℕ)) → (said : Answer)
    (status : ℕ) (before : List ℕ) (size : ℕ) (after : List ℕ) → Type 0
IsChecked t octets content said status before size after = (answer : Result ℕ Refused)
    × IsKnownVerdict t octets content answer × (said ≡ numbers_of answer) × Tells answer status before size after

-- the numbers say X5, and the content that is handed in is too long
abbrev pub SaysTooLong : (handed : Option (List ℕ)) → Answer → Type 0
SaysTooLong None said = ⊥
SaysTooLong (Some content) said = (said ≡ device_numbers device.ContentTooLong) × (2 ^ 40 < length content)

-- The numbers say yes with this moment exactly when it is a yes, unless the content is too long.
pub record SaysYes (t : Terms) (octets : List ℕ) (handed : Option (List ℕ)) (said : Answer) (m : ℕ) : Type 0 where
  pub sound : said ≡ accepted_numbers m → Yes t octets handed m
  pub complete : Yes t octets handed m → (said ≡ accepted_numbers m) ⊎ SaysTooLong handed said

-- The verdict 1, and so the status 1, is said of an acceptance alone: the numbers are those of a moment.
pub record SaysMoment (said : Answer) (status : ℕ) : Type 0 where
  pub moment : said.verdict ≡ 1 → (m : ℕ) × (said ≡ accepted_numbers m)
  pub done : status ≡ 1 → said.verdict ≡ 1

-- These answers are those of the verifier to the questions that are asked: about signers that fit the content, or their
-- tokens, under entries that passed the earlier filters.
abbrev pub AnswersAsked : Terms → (octets : List ℕ) → (handed : Option (List ℕ)) → (Asked → Bool) → Type 0
AnswersAsked t octets handed answers = (v : SignedDataValue) → EncodesSignedData octets v → (content : List ℕ)
    → IsContent v.encapsulated.content handed content → (q : Asked) → IsAskedIn t content v q → answers q ≡ t.vouches q

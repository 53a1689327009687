-- The numbers of an acceptance determine its moment, and are those of no refusal.
use Rattle.std.proofs.Common.{◌≡◌, ◌≢◌, ℕ, ℤ, pos, ◌-ℤ◌, ◌+ℤ◌, ◌/◌, ◌%◌, ◌^◌, Result, Ok, Err, sym, ap, ◌∙◌, arith}
use Rattle.std.proofs.Math.IntN.{ -ℤ-+ℤ_cancel}
use Rattle.cms_types.specs.declared.fault.CmsFault.TheVariants as cms
use Rattle.check_fit.specs.declared.rules.FileRule.TheVariants as file
use Rattle.check_fit.specs.declared.rules.TokenRule.{TokenRule}
use Rattle.check_fit.specs.declared.rules.TokenRule.TheVariants as token
use Rattle.check_fit.specs.declared.rules.DeviceFault.{DeviceFault}
use Rattle.check_fit.specs.declared.rules.DeviceFault.TheVariants as device
use Rattle.check_fit.specs.declared.rules.Refused.{Refused}
use Rattle.check_fit.specs.declared.rules.Refused.TheVariants as refused
use Rattle.check_fit.specs.declared.rules.TokenRefused.{TokenRefused}
use Rattle.check_fit.specs.declared.rules.TokenRefused.TheVariants as alone
use Rattle.library_answers.specs.declared.answer.Answer.{Answer}
use Rattle.library_answers.specs.Numbers.{accepted_numbers, token_numbers, device_numbers, refused_numbers, numbers_of}
use Rattle.library_calls.specs.CheckedTokens.{token_answer_numbers}

pub token_is_no : (rule : TokenRule) → (token_numbers rule).verdict ≢ 1
token_is_no (token.Malformed (cms.Malformed f)) e = cc
token_is_no (token.Malformed cms.NotSignedData) e = cc
token_is_no (token.Malformed cms.OutOfMemory) e = cc
token_is_no token.ContentType e = cc
token_is_no token.NoContent e = cc
token_is_no token.OneSigner e = cc
token_is_no (token.Attributes rule) e = cc
token_is_no (token.TstMalformed f) e = cc
token_is_no token.CriticalExtension e = cc
token_is_no token.ImprintAlgorithm e = cc
token_is_no token.ImprintDiffers e = cc
token_is_no token.UnknownTsa e = cc
token_is_no token.NotNamed e = cc
token_is_no token.Purpose e = cc
token_is_no token.Period e = cc
token_is_no token.SignatureFails e = cc

device_is_no : (fault : DeviceFault) → (device_numbers fault).verdict ≢ 1
device_is_no device.ReadFailed e = cc
device_is_no device.AskFailed e = cc
device_is_no device.TooLong e = cc
device_is_no device.OutOfMemory e = cc
device_is_no device.ContentTooLong e = cc

-- no refusal has the verdict 1
pub refused_is_no : (why : Refused) → (refused_numbers why).verdict ≢ 1
refused_is_no (refused.File (file.Malformed f)) e = cc
refused_is_no (refused.File file.NotSignedData) e = cc
refused_is_no (refused.File file.NoSigner) e = cc
refused_is_no (refused.File file.NoContent) e = cc
refused_is_no (refused.File file.ContentTwice) e = cc
refused_is_no (refused.File file.NoSuchSigner) e = cc
refused_is_no (refused.Signer i rule) e = cc
refused_is_no (refused.Token i j rule) e = token_is_no rule e
refused_is_no (refused.Device fault) e = device_is_no fault e

by_parts : (n m : ℕ) → n / 10 ^ 9 ≡ m / 10 ^ 9 → n % 10 ^ 9 ≡ m % 10 ^ 9 → n ≡ m
by_parts n m seconds nanoseconds = omega arith

same_pos : (n m : ℕ) → pos n ≡ pos m → n ≡ m
same_pos n m e = cc

same_seconds : (n m : ℕ) → pos n -ℤ pos 62167219200 ≡ pos m -ℤ pos 62167219200 → n ≡ m
same_seconds n m e = same_pos n m (sym (-ℤ-+ℤ_cancel (pos n) (pos 62167219200)) ∙ ap (λ (z : ℤ). z +ℤ pos 62167219200) e
    ∙ -ℤ-+ℤ_cancel (pos m) (pos 62167219200))

-- the moment is that of the numbers
pub one_moment_in : (n m : ℕ) → accepted_numbers n ≡ accepted_numbers m → n ≡ m
one_moment_in n m e = by_parts n m (same_seconds (n / 10 ^ 9) (m / 10 ^ 9) (ap (λ (a : Answer). a.seconds) e))
    (ap (λ (a : Answer). a.nanoseconds) e)

pub accepted_is : (r : Result ℕ Refused) (m : ℕ) → numbers_of r ≡ accepted_numbers m → r ≡ Ok m
accepted_is (Ok n) m e = ap (λ (k : ℕ). moments k) (one_moment_in n m e)
  where
    moments : ℕ → Result ℕ Refused
    moments k = Ok k
accepted_is (Err why) m e = absurd (refused_is_no why (ap (λ (a : Answer). a.verdict) e))

pub passed_is : (r : Result ℕ TokenRefused) (m : ℕ) → token_answer_numbers r ≡ accepted_numbers m → r ≡ Ok m
passed_is (Ok n) m e = ap (λ (k : ℕ). moments k) (one_moment_in n m e)
  where
    moments : ℕ → Result ℕ TokenRefused
    moments k = Ok k
passed_is (Err (alone.Rule rule)) m e = absurd (token_is_no rule (ap (λ (a : Answer). a.verdict) e))
passed_is (Err (alone.Device fault)) m e = absurd (device_is_no fault (ap (λ (a : Answer). a.verdict) e))

-- How many of the filters an entry passes, one after the other, by where it stops: at the first that it fails.
use Rattle.std.specs.Prelude.{ℕ, Option, Some, None}
use Rattle.check_verdict.specs.declared.filter.SignerFilter.{SignerFilter}
use Rattle.check_verdict.specs.declared.filter.SignerFilter.TheVariants as signer
use Rattle.check_verdict.specs.declared.filter.TokenFilter.{TokenFilter}
use Rattle.check_verdict.specs.declared.filter.TokenFilter.TheVariants as token

-- those of S7 to S9 before this one
abbrev pub before_signer : SignerFilter → ℕ
before_signer signer.UnknownSigner = 0
before_signer signer.NotNamed = 1
before_signer signer.SignatureFails = 2

-- those before the one at which the entry stops for a signer; all of them if it stops at none
abbrev pub passed_for_signer : Option SignerFilter → ℕ
passed_for_signer None = 3
passed_for_signer (Some filter) = before_signer filter

-- those of K10 to K14 before this one
abbrev pub before_token : TokenFilter → ℕ
before_token token.UnknownTsa = 0
before_token token.NotNamed = 1
before_token token.Purpose = 2
before_token token.Period = 3
before_token token.SignatureFails = 4

-- those before the one at which the entry stops for a token; all of them if it stops at none
abbrev pub passed_for_token : Option TokenFilter → ℕ
passed_for_token None = 5
passed_for_token (Some filter) = before_token filter

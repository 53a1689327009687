-- Worked rows: two signers of one content. Each must be good, the first that isn't is reported, and the latest moment
-- counts at any position of its signer.
use Rattle.std.specs.Prelude.{ℕ, List, [], ◌∷◌, None, Result, Ok, Err, codes}
use Rattle.der_grammar.specs.Vectors.{time_stamp_token}
use Rattle.cms_types.specs.SignerValue.{SignerValue}
use Rattle.check_fit.specs.FittingRows.{id_data}
use Rattle.check_fit.specs.declared.rules.SignerRule.TheVariants as signer
use Rattle.check_fit.specs.declared.rules.Refused.{Refused}
use Rattle.check_fit.specs.declared.rules.Refused.TheVariants as refused
use Rattle.trust_lists.specs.Entries.{EntryValue}
use Rattle.check_verdict.specs.Passing.{Terms}
use Rattle.check_verdict.specs.Verdicts.{JudgesSigners}
use Rattle.check_verdict.specs.Rows.{early_token, file_signer, stamps_of, signs, attests, terms, three, ten_oclock}

-- the signer and the authority are trusted at any time, and the verifier vouches for both and for both tokens
abbrev pub trust : List EntryValue
trust = signs None None ∷ attests None None ∷ []

abbrev pub open_terms : Terms
open_terms = terms trust three

-- the signer with no token, with one of nine o'clock, and with one of ten o'clock
abbrev pub unstamped : SignerValue
unstamped = file_signer None

abbrev pub stamped_with : List ℕ → SignerValue
stamped_with token = file_signer (stamps_of (token ∷ []))

abbrev pub at_nine : SignerValue
at_nine = stamped_with early_token

abbrev pub at_ten : SignerValue
at_ten = stamped_with time_stamp_token

-- what is said of signers of abc
abbrev pub Says : List SignerValue → Result ℕ Refused → Type 0
Says signers result = JudgesSigners open_terms (codes "abc") id_data signers result

pub record SeveralSignersRows : Type 0 where
  -- accepted with the latest moment, whether its signer is the first or the second
  pub rising : Says (at_nine ∷ at_ten ∷ []) (Ok ten_oclock)
  pub falling : Says (at_ten ∷ at_nine ∷ []) (Ok ten_oclock)
  -- one of them has no token
  pub second_unstamped : Says (at_ten ∷ unstamped ∷ []) (Err (refused.Signer 2 signer.NoToken))
  pub first_unstamped : Says (unstamped ∷ at_ten ∷ []) (Err (refused.Signer 1 signer.NoToken))

-- Worked rows: the lines of verdicts.
use Rattle.std.specs.Prelude.{ℕ, ◌+◌, ◌*◌, ◌^◌, List, [], ◌∷◌, ◌++◌, codes, Ok, Err}
use Rattle.der_core.specs.declared.fault.Kind.TheVariants as kind
use Rattle.cms_types.specs.declared.fault.CmsFault.TheVariants as cms
use Rattle.check_fit.specs.declared.rules.FileRule.TheVariants as file_rule
use Rattle.check_fit.specs.declared.rules.SignerRule.TheVariants as signer_rule
use Rattle.check_fit.specs.declared.rules.TokenRule.TheVariants as token_rule
use Rattle.check_fit.specs.declared.rules.DeviceFault.TheVariants as device_fault
use Rattle.check_fit.specs.declared.rules.Refused.TheVariants as refused
use Rattle.lines_report.specs.VerdictLine.{IsVerdictLine}

-- this many seconds after 1970-01-01, in nanoseconds after 0000-01-01
abbrev pub at_second : ℕ → ℕ
at_second seconds = 10 ^ 9 * (62167219200 + seconds)

abbrev pub ended : List ℕ → List ℕ
ended text = text ++ 10 ∷ []

pub record LineRows : Type 0 where
  pub accepted : IsVerdictLine (Ok (at_second 1705312800)) (ended (codes "accepted 20240115100000Z"))
  -- half a second later
  pub fraction : IsVerdictLine (Ok (at_second 1705312800 + 500000000)) (ended (codes "accepted 20240115100000.5Z"))
  pub signer : IsVerdictLine (Err (refused.Signer 2 signer_rule.SignatureFails))
      (ended (codes "refused signer 2 S9 SignatureFails"))
  -- ten is two digits
  pub tenth : IsVerdictLine (Err (refused.Signer 10 signer_rule.NoToken))
      (ended (codes "refused signer 10 S10 NoToken"))
  pub token : IsVerdictLine (Err (refused.Token 1 1 token_rule.ImprintDiffers))
      (ended (codes "refused signer 1 token 1 K9 ImprintDiffers"))
  pub token_signer : IsVerdictLine (Err (refused.Token 1 1 (token_rule.Attributes signer_rule.DigestDiffers)))
      (ended (codes "refused signer 1 token 1 K5 S6 DigestDiffers"))
  -- a token with a fault at its first octet, and one that is a ContentInfo of another type
  pub token_malformed : IsVerdictLine
      (Err (refused.Token 1 1 (token_rule.Malformed (cms.Malformed (record { kind = kind.Tag; at = 0 })))))
      (ended (codes "refused signer 1 token 1 K1 M6 Tag at 0"))
  pub token_of_another_type : IsVerdictLine (Err (refused.Token 1 1 (token_rule.Malformed cms.NotSignedData)))
      (ended (codes "refused signer 1 token 1 K1 NotSignedData"))
  pub tst_malformed : IsVerdictLine (Err (refused.Token 1 1 (token_rule.TstMalformed
      (record { kind = kind.Time; at = 66 })))) (ended (codes "refused signer 1 token 1 K6 M12 Time at 66"))
  pub malformed : IsVerdictLine (Err (refused.File (file_rule.Malformed (record { kind = kind.Order; at = 148 }))))
      (ended (codes "malformed M14 Order at 148"))
  pub file : IsVerdictLine (Err (refused.File file_rule.NoSigner)) (ended (codes "refused C3 NoSigner"))
  pub failed : IsVerdictLine (Err (refused.Device device_fault.AskFailed)) (ended (codes "failed X2 AskFailed"))

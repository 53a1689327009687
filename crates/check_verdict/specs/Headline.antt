-- What `check` promises. Begin here.
--
-- Its verdict is yes with moment m exactly when the file encodes one SignedData with at least one signer, and for each
-- signer its content-type and message-digest attributes fit the content, the verifier vouches for its attributes' SET
-- under a matching trusted signer certificate, and some token on its signature passes; m is the latest signer's
-- earliest passing genTime.
--
-- Its words, and where they are defined:
--   yes with moment m, exactly when    GivesYes below; clause `headline` of `check` in src/file.rt
--   what makes it a yes                Yes in Verdicts
--   encodes one SignedData             EncodesSignedData in cms_types/specs/SignedDataValue.antt (RFC 5652, 3 and 5.1);
--                                      octets encode at most one value, and the whole file is its encoding
--   at least one signer                the moment of Accepts in Verdicts is that of some signer
--   the content                        IsContent in Verdicts: the file's own, or the one handed in, and never both
--                                      (RFC 5652, 5.2)
--   attributes fit the content         Fits in check_fit/specs/Fitting.antt (RFC 5652, 5.4, 11.1 and 11.2)
--   vouches for its attributes' SET    Vouched in Passing, of the question `asked` in Trusted: the octet 0x31 and the
--                                      tail are the SET that was signed (RFC 5652, 5.4)
--   under a matching trusted signer    SignedUnder in Verdicts, of an entry of the user's trust list in the role of a
--   certificate                        signer: Matches and NamesIfAny in check_names/specs/Naming.antt (RFC 5652, 5.3;
--                                      RFC 5035, 3), and Holds in Trusted: the entry and its certificate hold at the
--                                      moment (RFC 5280, 4.1.2.5)
--   some token on its signature passes Passes in Passing (RFC 3161, 2.4.2), with the signature's octets as stamped, of
--                                      a token of cms_types/specs/Tokens.antt (RFC 3161, appendix A). Its genTime
--                                      counts for the signer only if one such entry holds at it: IsMoment in Verdicts
--   the earliest passing genTime       IsLeast of IsMoment, in SignerPasses in Verdicts
--   the latest of the signers          IsGreatest in Accepts in Verdicts
--
-- What it assumes: that the verifier vouches only for good signatures, that the trust list is well chosen, that it is
-- known what the source of a content that is handed in holds, which is at most 2^40 octets, and that no device fails.
-- Otherwise the verdict is X1 (the source failed), X2 (the verifier failed) or X5 (the content is too long), and no
-- other one of a device.
use Rattle.std.specs.Prelude.{◌≡◌, ⊤, ◌⊎◌, ℕ, List, Option, Result, Ok, Err}
use Rattle.check_fit.specs.declared.rules.DeviceFault.TheVariants as device
use Rattle.check_fit.specs.declared.rules.Refused.{Refused}
use Rattle.check_fit.specs.declared.rules.Refused.TheVariants as refused
use Rattle.check_verdict.specs.Passing.{Terms}
use Rattle.check_verdict.specs.Verdicts.{Yes}

-- a device failed, or the content is too long: X1, X2 or X5
abbrev pub IsDevice : Result ℕ Refused → Type 0
IsDevice (Err (refused.Device device.ReadFailed)) = ⊤
IsDevice (Err (refused.Device device.AskFailed)) = ⊤
IsDevice (Err (refused.Device device.ContentTooLong)) = ⊤
IsDevice _ = ⊥

-- yes with this moment exactly when it is a yes, unless a device failed or the content is too long
pub record GivesExactly (IsYes : ℕ → Type 0) (result : Result ℕ Refused) (m : ℕ) : Type 0 where
  pub sound : result ≡ Ok m → IsYes m
  pub complete : IsYes m → (result ≡ Ok m) ⊎ IsDevice result

-- the verdict of `check` about a content that is known
abbrev pub GivesYes : Terms → (file : List ℕ) → (handed : Option (List ℕ)) → Result ℕ Refused → ℕ → Type 0
GivesYes t file handed result m = GivesExactly (Yes t file handed) result m

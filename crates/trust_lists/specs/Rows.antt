-- Worked rows: what texts of trust lists state, by the definitions.
use Rattle.std.specs.Prelude.{ℕ, ◌+◌, ◌*◌, ◌^◌, List, [], ◌∷◌, codes, Some, None, Ok, Err}
use Rattle.std.specs.List.{join_with_byte}
use Rattle.cert_types.specs.CertificateValue.{CertificateValue, EncodesCertificate}
use Rattle.trust_lists.specs.declared.role.Role.TheVariants.{Signer, Tsa}
use Rattle.trust_lists.specs.declared.trust_fault.TrustRule.TheVariants as trust
use Rattle.trust_lists.specs.TrustText.{IsTrust}

-- lines with a line feed between
abbrev pub text_of : List (List ℕ) → List ℕ
text_of ls = join_with_byte 10 ls

-- this many seconds after 1970-01-01, in nanoseconds after 0000-01-01
abbrev pub at_second : ℕ → ℕ
at_second seconds = 10 ^ 9 * (62167219200 + seconds)

pub record TrustRows : Type 0 where
  -- another version
  pub version : IsTrust (text_of (codes "cmsproof trust 3" ∷ codes "signer 3000" ∷ []))
      (Err (record { rule = trust.Version; line = 1 }))
  -- the first line alone
  pub none : IsTrust (codes "cmsproof trust 2") (Ok [])
  -- an odd number of digits; no space after the role; the fields of the other version
  pub odd : IsTrust (text_of (codes "cmsproof trust 1" ∷ codes "signer 3" ∷ []))
      (Err (record { rule = trust.Line; line = 2 }))
  pub alone : IsTrust (text_of (codes "cmsproof trust 1" ∷ codes "# alone" ∷ codes "tsa" ∷ []))
      (Err (record { rule = trust.Line; line = 3 }))
  pub second_in_first : IsTrust (text_of (codes "cmsproof trust 1" ∷ codes "signer - - 3000" ∷ []))
      (Err (record { rule = trust.Line; line = 2 }))
  pub first_in_second : IsTrust (text_of (codes "cmsproof trust 2" ∷ codes "signer 3000" ∷ []))
      (Err (record { rule = trust.Line; line = 2 }))
  -- no octets, which encode no certificate
  pub no_octets : IsTrust (text_of (codes "cmsproof trust 1" ∷ codes "signer " ∷ []))
      (Err (record { rule = trust.Certificate; line = 2 }))
  -- a period that is backwards, of octets that encode no certificate
  pub backwards : IsTrust (text_of (codes "cmsproof trust 2" ∷ codes "signer 20240102000000Z 20240101000000Z " ∷ []))
      (Err (record { rule = trust.Period; line = 2 }))
  -- a day that doesn't exist
  pub no_day : IsTrust (text_of (codes "cmsproof trust 2" ∷ codes "signer 20230229000000Z - " ∷ []))
      (Err (record { rule = trust.Line; line = 2 }))
  -- an entry of version 1, and one of version 2, of any certificate that these octets would encode
  pub open_entry : (c : CertificateValue) → EncodesCertificate (0x30 ∷ 0x2a ∷ []) c
      → IsTrust (text_of (codes "cmsproof trust 1" ∷ codes "tsa 302A" ∷ []))
      (Ok (record { role = Tsa; from = None; until = None; certificate = c } ∷ []))
  pub entry : (c : CertificateValue) → EncodesCertificate (0x30 ∷ 0x2a ∷ []) c
      → IsTrust (text_of (codes "cmsproof trust 2" ∷ codes "signer 20240115100000Z 20240115100000Z 302a" ∷ []))
      (Ok (record {
        role = Signer;
        from = Some (at_second 1705312800);
        until = Some (at_second 1705312800);
        certificate = c;
      } ∷ []))

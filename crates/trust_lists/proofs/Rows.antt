-- The worked rows, by computation.
use Rattle.std.proofs.Common.{[], ◌∷◌, Ok, Some, None, refl, inl, inr}
use Rattle.hex.specs.Hex.{decode_pairs}
use Rattle.der_time.specs.Calendar.{days_before_month}
use Rattle.der_time.specs.Moments.{in_places, generalized_moment}
use Rattle.cert_types.specs.CertificateValue.{CertificateValue, EncodesCertificate}
use Rattle.trust_lists.specs.declared.role.Role.TheVariants.{Signer, Tsa}
use Rattle.trust_lists.specs.declared.trust_fault.TrustRule.TheVariants as rule
use Rattle.trust_lists.specs.TrustText.{moment_in}
use Rattle.trust_lists.specs.Rows.{TrustRows, at_second}

-- no octets encode no certificate
not_empty : (c : CertificateValue) → EncodesCertificate [] c → ⊥
not_empty c h = let e = h.0 in cc

pub trust_rows : TrustRows
unfolding decode_pairs moment_in generalized_moment in_places days_before_month
trust_rows = record {
  version = refl;
  none = refl;
  odd = inr (rule.Line, refl, refl);
  alone = inr (rule.Line, refl, refl);
  second_in_first = inr (rule.Line, refl, refl);
  first_in_second = inr (rule.Line, refl, refl);
  no_octets = inr (
    rule.Certificate,
    (record { role = Signer; from = None; until = None; octets = [] }, refl, refl, not_empty),
    refl,
  );
  backwards = inr (
    rule.Period,
    (
      record { role = Signer; from = Some (at_second 1704153600); until = Some (at_second 1704067200); octets = [] },
      refl,
      refl,
    ),
    refl,
  );
  no_day = inr (rule.Line, refl, refl);
  open_entry = λ c h. inl (
    record { role = Tsa; from = None; until = None; certificate = c },
    record {
      fields = record { role = Tsa; from = None; until = None; octets = 0x30 ∷ 0x2a ∷ [] };
      says = refl;
      forwards = refl;
      encodes = h;
      is = refl;
    },
    (Ok [], refl, refl),
  );
  entry = λ c h. inl (
    record { role = Signer; from = Some (at_second 1705312800); until = Some (at_second 1705312800); certificate = c },
    record {
      fields = record {
        role = Signer;
        from = Some (at_second 1705312800);
        until = Some (at_second 1705312800);
        octets = 0x30 ∷ 0x2a ∷ [];
      };
      says = refl;
      forwards = refl;
      encodes = h;
      is = refl;
    },
    (Ok [], refl, refl),
  );
}

use Rattle.std.proofs.Common.{◌≡◌, ℕ, List, false, subst, rules}
use Rattle.cert_types.specs.CertificateValue.{EncodesCertificate}
use Rattle.trust_lists.specs.Certificates.{certificate_of}
use Rattle.trust_lists.specs.Marks.{AreMarks}
use Rattle.trust_lists.specs.Periods.{is_backwards}
use Rattle.trust_lists.proofs.trust_lines.entry_of.Goals as goal

pub invariant_of-result : goal.invariant_of-result
invariant_of-result c =
    let f : is_backwards c.in-Some.fields.from c.in-Some.fields.until ≡ false = search rules in
    let e = c.in-Some-marks_in.ensures.encoded in (
      subst (λ (b : List ℕ). EncodesCertificate b (certificate_of b)) c.deref.ensures.value e.0,
      f,
      subst (λ (b : List ℕ). AreMarks (certificate_of b) c.in-Some-marks_in.marks) c.deref.ensures.value e.1,
    )

-- The certificates of trusted entries that are kept.
use Rattle.std.specs.Prelude.{◌≡◌, ℕ, List, Option, Some, IfSome}
use Rattle.std.specs.List.{All, slice_get}
use Rattle.cert_types.specs.CertificateValue.{CertificateValue}
use Rattle.trust_lists.specs.Entries.{EntryValue}
use Rattle.check_verdict.specs.declared.certificates.Kept.{Kept}

-- the certificate is that of the entry at this place
abbrev pub IsOfEntry : List EntryValue → (place : ℕ) → CertificateValue → Type 0
IsOfEntry entries place c = (e : EntryValue) → slice_get entries place ≡ Some e → c ≡ e.certificate

-- what is kept is the certificate of the entry at its place, and this is known of it
abbrev pub IsKept : (Known : CertificateValue → Type 0) → List EntryValue → Kept → Type 0
IsKept Known entries kept = IsOfEntry entries kept.place kept.certificate × Known kept.certificate

-- each that there is, is so
abbrev pub AreKept : (Known : CertificateValue → Type 0) → List EntryValue → List (Option Kept) → Type 0
AreKept Known entries slots = All (λ slot. IfSome slot (IsKept Known entries)) slots

-- The digests of certificates of trusted entries that are kept.
use Rattle.std.specs.Prelude.{◌≡◌, ℕ, List, Some, IfSome, option_map}
use Rattle.std.specs.List.{All, slice_get}
use Rattle.cert_types.specs.CertificateValue.{CertificateValue, encoding}
use Rattle.digests.specs.Digests.{alg_of, octets_of}
use Rattle.digests.specs.Messages.{digest_of}
use Rattle.digests.specs.declared.value.Digest.{Digest}
use Rattle.trust_lists.specs.Entries.{EntryValue}
use Rattle.check_verdict.specs.declared.hashed.KeptDigest.{KeptDigest}
use Rattle.check_verdict.specs.declared.hashed.KeptDigests.{KeptDigests}

-- there is an entry at this place, and the certificate is its own
abbrev pub IsCertificateAt : List EntryValue → (place : ℕ) → CertificateValue → Type 0
IsCertificateAt entries place c = option_map (λ (e : EntryValue). e.certificate) (slice_get entries place) ≡ Some c

-- the digest is that of the whole certificate of the entry at this place, by its own algorithm
abbrev pub IsDigestAt : List EntryValue → (place : ℕ) → Digest → Type 0
IsDigestAt entries place d = (c : CertificateValue) → IsCertificateAt entries place c
    → octets_of d ≡ digest_of (alg_of d) (encoding c)

-- what is kept is a digest of the certificate of the entry at its place
abbrev pub IsKeptDigest : List EntryValue → KeptDigest → Type 0
IsKeptDigest entries kept = IsDigestAt entries kept.place kept.digest

-- each is
abbrev pub AreDigestsOf : List EntryValue → KeptDigests → Type 0
AreDigestsOf entries kept = All (λ slot. IfSome slot (IsKeptDigest entries)) kept.slots

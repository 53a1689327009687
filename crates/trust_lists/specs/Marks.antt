-- The marks of entries: numbers by which an entry is passed over whose certificate cannot be the one that is looked
-- for.
use Rattle.std.specs.Prelude.{◌≡◌, ℕ, zero, suc, ◌+◌, ◌*◌, ◌/◌, ◌%◌, ◌^◌, ◌<◌, ◌≤◌, List, [], ◌∷◌, length, drop}
use Rattle.std.specs.Prelude.{bit_xor, slice_index, Option, Some, MatchOption}
use Rattle.std.specs.List.{fold, slice_get}
use Rattle.std.specs.Int.{w64, from_le_bytes}
use Rattle.cert_types.specs.CertificateValue.{CertificateValue}
use Rattle.cert_types.specs.Purposes.{HasKeyId}
use Rattle.trust_lists.specs.Entries.{EntryValue}
use Rattle.trust_lists.specs.declared.role.Role.{Role}
use Rattle.trust_lists.specs.declared.role.Role.TheVariants.{Signer, Tsa}
use Rattle.trust_lists.specs.declared.marks.Marks.{Marks}
use Rattle.trust_lists.specs.declared.marks.MarkBy.{MarkBy}
use Rattle.trust_lists.specs.declared.marks.MarkBy.TheVariants.{Serial, KeyId}

-- the halves of a number below 2^128, joined by an exclusive or
abbrev pub halves_joined : ℕ → ℕ
halves_joined n = bit_xor (n % 2 ^ 64) (n / 2 ^ 64)

-- the mark behind a word: the factor is 2^64 by the golden ratio, made odd
abbrev pub next_mark : (mark word : ℕ) → ℕ
next_mark mark word = halves_joined ((mark + word) % 2 ^ 64 * 11400714819323198485)

-- the first eight octets as a word, in which the first of them counts least
abbrev pub first_word : (octets : List ℕ) → ℕ
first_word octets = from_le_bytes w64 (slice_index octets 0 ∷ slice_index octets 1 ∷ slice_index octets 2
    ∷ slice_index octets 3 ∷ slice_index octets 4 ∷ slice_index octets 5 ∷ slice_index octets 6
    ∷ slice_index octets 7 ∷ [])

-- the mark of so many words of eight octets, and then of single octets, behind a mark
abbrev pub words_marked : (words mark : ℕ) → (octets : List ℕ) → ℕ
words_marked zero mark octets = fold next_mark mark octets
words_marked (suc n) mark octets = words_marked n (next_mark mark (first_word octets)) (drop 8 octets)

-- the mark of octets behind a mark
abbrev pub mark_of : (mark : ℕ) → (octets : List ℕ) → ℕ
mark_of mark octets = words_marked (length octets / 8) mark octets

-- the marks of a certificate: of its issuer and then its serial number, and of its key identifier if it has one
pub record AreMarks (c : CertificateValue) (m : Marks) : Type 0 where
  pub serial : m.serial ≡ mark_of (mark_of 0 c.tbs.issuer) c.tbs.serial
  pub key_id : (k : List ℕ) → HasKeyId c k → m.key_id ≡ Some (mark_of 0 k)

-- ---- what is looked for

-- the entry's certificate has this mark
abbrev pub HasMark : MarkBy → (mark : ℕ) → EntryValue → Type 0
HasMark Serial mark e = mark ≡ mark_of (mark_of 0 e.certificate.tbs.issuer) e.certificate.tbs.serial
HasMark KeyId mark e = (k : List ℕ) × HasKeyId e.certificate k × (mark ≡ mark_of 0 k)

-- the label of a role and a mark, by which entries are found: another one for each role, and in another chain where
-- there are two chains or more
abbrev pub label_of : Role → (mark : ℕ) → ℕ
label_of Signer mark = mark
label_of Tsa mark = (mark + 2305843009213693109) % 2 ^ 64

-- the label of each entry that has a mark stands at its place
pub record AreMarked (by : MarkBy) (entries : List EntryValue) (labels : List ℕ) : Type 0 where
  pub each : (i mark : ℕ) (e : EntryValue) → slice_get entries i ≡ Some e → HasMark by mark e
      → slice_index labels i ≡ label_of e.role mark
  pub all : length labels ≡ length entries

-- at this place stand an entry of this role, and the label of this role and this mark
abbrev pub StandsAt : Role → (mark : ℕ) → (entries : List EntryValue) → (labels : List ℕ) → (place : ℕ) → Type 0
StandsAt role mark entries labels place = (slice_index labels place ≡ label_of role mark)
    × ((e : EntryValue) × (slice_get entries place ≡ Some e) × (e.role ≡ role))

-- the entry has this role, and its certificate this issuer, as a whole element, and this serial number
abbrev pub HasSerial : Role → (issuer serial : List ℕ) → EntryValue → Type 0
HasSerial role issuer serial e = (e.role ≡ role) × (e.certificate.tbs.issuer ≡ issuer)
    × (e.certificate.tbs.serial ≡ serial)

-- the entry has this role, and its certificate this key identifier
abbrev pub HasKey : Role → (id : List ℕ) → EntryValue → Type 0
HasKey role id e = (e.role ≡ role) × HasKeyId e.certificate id

-- this holds of none of the entries from the one at the first place to the one before the last
abbrev pub NoneFrom : (Is : EntryValue → Type 0) → List EntryValue → (first last : ℕ) → Type 0
NoneFrom Is entries first last = (i : ℕ) (e : EntryValue) → first ≤ i → i < last → slice_get entries i ≡ Some e
    → Is e → ⊥

-- the entry that was found from this place on: those before it are others; if there is none, all are
abbrev pub IsNext : (Is : EntryValue → Type 0) → List EntryValue → (first : ℕ) → (found : Option ℕ) → Type 0
IsNext Is entries first found = MatchOption found (NoneFrom Is entries first (length entries))
    (λ i. (first ≤ i) × (i < length entries) × NoneFrom Is entries first i)

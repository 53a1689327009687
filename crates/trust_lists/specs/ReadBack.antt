-- The text that is written for a trust list has the entries of that list.
use Rattle.std.specs.Prelude.{◌≡◌, ℕ, ◌<◌, false, List, ◌++◌, slice_index, Ok}
use Rattle.std.specs.List.{AllByRecursion}
use Rattle.cert_types.specs.CertificateValue.{EncodesCertificate, encoding}
use Rattle.trust_lists.specs.Entries.{EntryValue}
use Rattle.trust_lists.specs.Periods.{is_backwards}
use Rattle.trust_lists.specs.TrustText.{IsTrust}
use Rattle.trust_lists.specs.Written.{IsWrittenAs}

-- an entry that a line can state: its period is not backwards, and its certificate is encoded, in octets
pub record GoodEntry (e : EntryValue) : Type 0 where
  pub forwards : is_backwards e.from e.until ≡ false
  pub encodes : EncodesCertificate (encoding e.certificate) e.certificate
  pub octets : (i : ℕ) → slice_index (encoding e.certificate) i < 256

abbrev pub AreGood : List EntryValue → Type 0
AreGood entries = AllByRecursion GoodEntry entries

-- the text of entries was added to what was taken, and it states these entries
abbrev pub AddsText : List EntryValue → (taken taken' : List ℕ) → Type 0
AddsText entries taken taken' = (text : List ℕ) × IsWrittenAs entries text × IsTrust text (Ok entries)
    × (taken' ≡ taken ++ text)

-- every entry that a text states is good
abbrev pub SaidIsGood : Type 0
SaidIsGood = (text : List ℕ) (entries : List EntryValue) → IsTrust text (Ok entries) → AreGood entries

-- the text that is written for good entries states these entries
abbrev pub WrittenIsSaid : Type 0
WrittenIsSaid = (entries : List EntryValue) (text : List ℕ) → AreGood entries → IsWrittenAs entries text
    → IsTrust text (Ok entries)

-- exactly one text is written for given entries
abbrev pub WrittenOnce : Type 0
WrittenOnce = (entries : List EntryValue) (text other : List ℕ) → IsWrittenAs entries text
    → IsWrittenAs entries other → text ≡ other

-- for a text that states entries: the text that is written for them, and the text that is written for the entries of
-- that text, are the same
abbrev pub WrittenAgain : Type 0
WrittenAgain = (first text again : List ℕ) (entries others : List EntryValue) → IsTrust first (Ok entries)
    → IsWrittenAs entries text → IsTrust text (Ok others) → IsWrittenAs others again → again ≡ text

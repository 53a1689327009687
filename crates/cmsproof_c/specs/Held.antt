-- What a call says under lists that are held, or are not.
use Rattle.std.specs.Prelude.{◌≡◌, ⊤, ℕ, Bool, List, length, Option, Some, None}
use Rattle.trust_lists.specs.Asking.{Asked, is_among}
use Rattle.trust_lists.specs.Entries.{EntryValue}
use Rattle.library_answers.specs.declared.answer.Answer.{Answer}
use Rattle.library_answers.specs.Numbers.{nothing}
use Rattle.library_calls.specs.Checked.{handed, terms_under, IsChecked}
use Rattle.library_calls.specs.CheckedTokens.{IsTokenChecked}
use Rattle.library_calls.specs.Questions.{IsQuestioned}
use Rattle.library_calls.specs.Stamps.{IsStampChecked, IsStampQuestioned}
use Rattle.library_records.specs.Evidence.{IsEvidenceChecked, IsEvidenceQuestioned}
use Rattle.library_records.specs.Stated.{EvidenceCheck}
use Rattle.library_records.specs.Under.{IsUnderChecked, UnderCheck}

-- the number of entries, with status 1; without a list 0, and status 8
abbrev pub CountsEntries : (held : Option (List EntryValue)) → (count status : ℕ) → Type 0
CountsEntries (Some list) count status = (count ≡ length list) × (status ≡ 1)
CountsEntries None count status = (count ≡ 0) × (status ≡ 8)

-- another handle holds the same list, with status 1; without a list none, with status 8; and none with 7, if memory was
-- refused
abbrev pub SharesList : (held other : Option (List EntryValue)) → (status : ℕ) → Type 0
SharesList (Some list) (Some same) status = (same ≡ list) × (status ≡ 1)
SharesList (Some list) None status = status ≡ 7
SharesList None None status = status ≡ 8
SharesList None (Some other) status = ⊥

-- a list is missing: status 8, no verdict, and no text
abbrev pub SaysNoList : (said : Answer) (status : ℕ) (before : List ℕ) (size : ℕ) (after : List ℕ) → Type 0
SaysNoList said status before size after = (status ≡ 8) × (said ≡ nothing) × (size ≡ 0) × (after ≡ before)

-- with both lists the verdict, in numbers and as its line; without one of them none
abbrev pub IsCheck : (list : Option (List EntryValue)) → (asked : Option (List Asked)) → (octets : List ℕ)
    → (content : Option (List ℕ)) → (sha1 : Bool) → (said : Answer)
    (status : ℕ) (before : List ℕ) (size : ℕ) (after : List ℕ) → Type 0
IsCheck (Some list) (Some asked) octets content sha1 said status before size after =
    IsChecked (terms_under list asked sha1) octets content said status before size after
IsCheck list asked octets content sha1 said status before size after = SaysNoList said status before size after

-- the same for a token, of which no line is made
abbrev pub IsTokenCheck : (list : Option (List EntryValue)) → (asked : Option (List Asked)) → (token stamped : List ℕ)
    → (sha1 : Bool) → (said : Answer) → (status : ℕ) → Type 0
IsTokenCheck (Some list) (Some asked) token stamped sha1 said status =
    IsTokenChecked (terms_under list asked sha1) token stamped said status
IsTokenCheck list asked token stamped sha1 said status = (status ≡ 8) × (said ≡ nothing)

-- the same for a stamp
abbrev pub IsStampCheck : (list : Option (List EntryValue)) → (asked : Option (List Asked)) → (stamp stamped : List ℕ)
    → (sha1 : Bool) → (said : Answer) (status : ℕ) (before : List ℕ) (size : ℕ) (after : List ℕ) → Type 0
IsStampCheck (Some list) (Some asked) stamp stamped sha1 said status before size after =
    IsStampChecked (terms_under list asked sha1) stamp stamped said status before size after
IsStampCheck list asked stamp stamped sha1 said status before size after = SaysNoList said status before size after

-- with a list what is said of a stamp's questions; without one nothing
abbrev pub AsksStamp : (list : Option (List EntryValue)) → (stamp : List ℕ) → (said : Answer)
    (status : ℕ) (before : List ℕ) (size : ℕ) (after : List ℕ) → Type 0
AsksStamp (Some list) stamp said status before size after = IsStampQuestioned list stamp said status before size after
AsksStamp None stamp said status before size after = SaysNoList said status before size after

-- what a caller states for a check of an evidence record
abbrev pub stated : (evidence joined lengths ends at : List ℕ) → (whole : Bool) → EvidenceCheck
stated evidence joined lengths ends at whole = record {
  evidence = evidence;
  joined = joined;
  lengths = lengths;
  ends = ends;
  at = at;
  whole = whole;
}

-- the same for an evidence record
abbrev pub IsEvidenceCheck : (list : Option (List EntryValue)) → (asked : Option (List Asked)) → EvidenceCheck
    → (said : Answer) (status : ℕ) (before : List ℕ) (size : ℕ) (after : List ℕ) → Type 0
IsEvidenceCheck (Some list) (Some asked) input said status before size after =
    IsEvidenceChecked list asked input said status before size after
IsEvidenceCheck list asked input said status before size after = SaysNoList said status before size after

-- what a caller states for a check of a file under an evidence record
abbrev pub stated_under : (file content : List ℕ) → (given : Bool) → (evidence ends at : List ℕ) → UnderCheck
stated_under file content given evidence ends at = record {
  evidence = evidence;
  file = file;
  content = handed given content;
  ends = ends;
  at = at;
}

-- the same for a file under an evidence record
abbrev pub IsUnderCheck : (list : Option (List EntryValue)) → (asked : Option (List Asked)) → UnderCheck
    → (said : Answer) (status : ℕ) (before : List ℕ) (size : ℕ) (after : List ℕ) → Type 0
IsUnderCheck (Some list) (Some asked) input said status before size after =
    IsUnderChecked list asked input said status before size after
IsUnderCheck list asked input said status before size after = SaysNoList said status before size after

-- with a list what is said of the record's questions; without one nothing
abbrev pub AsksEvidence : (list : Option (List EntryValue)) → (octets : List ℕ) → (said : Answer)
    (status : ℕ) (before : List ℕ) (size : ℕ) (after : List ℕ) → Type 0
AsksEvidence (Some list) octets said status before size after =
    IsEvidenceQuestioned list octets said status before size after
AsksEvidence None octets said status before size after = SaysNoList said status before size after

-- with a list what is said of the file's questions; without one nothing
abbrev pub AsksFile : (list : Option (List EntryValue)) → (octets : List ℕ) → (said : Answer)
    (status : ℕ) (before : List ℕ) (size : ℕ) (after : List ℕ) → Type 0
AsksFile (Some list) octets said status before size after = IsQuestioned list octets said status before size after
AsksFile None octets said status before size after = SaysNoList said status before size after

-- an answers list that is held vouches for the same questions as before; without one there is none
abbrev pub VouchesSame : (before after : Option (List Asked)) → Type 0
VouchesSame (Some before) (Some after) = is_among after ≡ is_among before
VouchesSame None None = ⊤
VouchesSame before after = ⊥

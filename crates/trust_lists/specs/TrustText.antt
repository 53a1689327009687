-- The text of a trust list: which certificates are trusted, for what, from when and until when.
use Rattle.std.specs.Prelude.{◌≡◌, ℕ, ◌⊎◌, true, false, List, [], ◌∷◌, ◌++◌, codes, Option, Some, None, Result, Ok, Err}
use Rattle.std.specs.Prelude.{if◌then◌else◌}
use Rattle.std.specs.Result.{result_ok}
use Rattle.hex.specs.Hex.{decode_of}
use Rattle.der_core.specs.Lists.{is_same}
use Rattle.der_core.specs.Times.{is_generalized}
use Rattle.der_time.specs.Moments.{generalized_moment}
use Rattle.cert_types.specs.CertificateValue.{CertificateValue, EncodesCertificate}
use Rattle.trust_lists.specs.declared.role.Role.{Role}
use Rattle.trust_lists.specs.declared.role.Role.TheVariants.{Signer, Tsa}
use Rattle.trust_lists.specs.declared.trust_fault.TrustFault.{TrustFault}
use Rattle.trust_lists.specs.declared.trust_fault.TrustRule.{TrustRule}
use Rattle.trust_lists.specs.declared.trust_fault.TrustRule.TheVariants as rule
use Rattle.trust_lists.specs.declared.trust_version.Version.{Version}
use Rattle.trust_lists.specs.declared.trust_version.Version.TheVariants.{First, Second}
use Rattle.trust_lists.specs.Entries.{EntryValue}
use Rattle.trust_lists.specs.Periods.{is_backwards}
use Rattle.list_answers.specs.Texts.{NumberedLine, lines_of, words_of, under}

-- the content of a line: an entry, if the octets are those of its certificate
pub record LineFields : Type 0 where
  pub role : Role
  pub from : Option ℕ
  pub until : Option ℕ
  pub octets : List ℕ

abbrev pub role_of : List ℕ → Option Role
role_of word = if is_same word (codes "signer") then Some Signer else if is_same word
    (codes "tsa") then Some Tsa else None

-- the moment of a word: - for an absent one, and otherwise the text of a GeneralizedTime (X.690, 11.7; RFC 3161, 2.4.2)
unfoldable pub moment_in : List ℕ → Option (Option ℕ)
moment_in word = if is_same word (codes "-") then Some None else if is_generalized word
    then Some (Some (generalized_moment word)) else None

abbrev pub fields_from : Option Role → (from until : Option (Option ℕ)) → Option (List ℕ) → Option LineFields
fields_from (Some role) (Some from) (Some until) (Some octets) =
    Some (record { role = role; from = from; until = until; octets = octets })
fields_from _ _ _ _ = None

-- a line of version 1 has a role and the certificate, and both ends are absent
abbrev pub first_fields : List (List ℕ) → Option LineFields
first_fields (role ∷ digits ∷ []) = fields_from (role_of role) (Some None) (Some None) (result_ok (decode_of digits))
first_fields _ = None

-- a line of version 2 has the two moments between them
abbrev pub second_fields : List (List ℕ) → Option LineFields
second_fields (role ∷ from ∷ until ∷ digits ∷ []) = fields_from (role_of role) (moment_in from) (moment_in until)
    (result_ok (decode_of digits))
second_fields _ = None

abbrev pub fields_of_words : Version → List (List ℕ) → Option LineFields
fields_of_words First words = first_fields words
fields_of_words Second words = second_fields words

-- the fields of a line, with one space between
abbrev pub fields_of : Version → List ℕ → Option LineFields
fields_of version line = fields_of_words version (words_of line)

abbrev pub entry_from : LineFields → CertificateValue → EntryValue
entry_from f c = record { role = f.role; from = f.from; until = f.until; certificate = c }

-- the line states this entry
pub record SaysEntry (version : Version) (line : List ℕ) (e : EntryValue) : Type 0 where
  pub fields : LineFields
  pub says : fields_of version line ≡ Some fields
  pub forwards : is_backwards fields.from fields.until ≡ false
  pub encodes : EncodesCertificate fields.octets e.certificate
  pub is : e ≡ entry_from fields e.certificate

-- the line has the form of an entry, and its period isn't backwards
abbrev pub HasForm : Version → (line : List ℕ) → Type 0
HasForm version line = (f : LineFields) × (fields_of version line ≡ Some f) × (is_backwards f.from f.until ≡ false)

-- the line fails this rule, and none before it: it is of another form, its period is backwards, or its octets encode no
-- certificate
abbrev pub FailsRule : Version → (line : List ℕ) → TrustRule → Type 0
FailsRule version line rule.Line = fields_of version line ≡ None
FailsRule version line rule.Period = (f : LineFields) × (fields_of version line ≡ Some f)
    × (is_backwards f.from f.until ≡ true)
FailsRule version line rule.Certificate = (f : LineFields) × (fields_of version line ≡ Some f)
    × (is_backwards f.from f.until ≡ false) × ((c : CertificateValue) → EncodesCertificate f.octets c → ⊥)
FailsRule version line rule.Version = ⊥
FailsRule version line rule.OutOfMemory = ⊥

-- an answer about a trust list: its entries in its order, or the first fault
abbrev pub Answer : Type 0
Answer = Result (List EntryValue) TrustFault

-- these entries and those of an answer, or its fault
abbrev pub behind : List EntryValue → Answer → Answer
behind es (Ok others) = Ok (es ++ others)
behind es (Err f) = Err f

-- the answer about lines: the first of them states an entry, and the answer about the others follows it, or it fails a
-- rule
abbrev pub IsOfLines : Version → List NumberedLine → Answer → Type 0
IsOfLines version [] answer = answer ≡ Ok []
IsOfLines version (l ∷ ls) answer = ((e : EntryValue) × SaysEntry version l.octets e
    × ((others : Answer) × IsOfLines version ls others × (answer ≡ behind (e ∷ []) others)))
    ⊎ ((r : TrustRule) × FailsRule version l.octets r × (answer ≡ Err (record { rule = r; line = l.number })))

abbrev pub IsUnder : (first second : Option (List NumberedLine)) → Answer → Type 0
IsUnder (Some ls) second answer = IsOfLines First ls answer
IsUnder None (Some ls) answer = IsOfLines Second ls answer
IsUnder None None answer = answer ≡ Err (record { rule = rule.Version; line = 1 })

-- the answer about a text that should be a trust list, of version 1 or of version 2
abbrev pub IsTrust : (text : List ℕ) → Answer → Type 0
IsTrust text answer = IsUnder (under (codes "cmsproof trust 1") (lines_of text))
    (under (codes "cmsproof trust 2") (lines_of text)) answer

-- the first of these lines has the form of an entry, and its period isn't backwards
abbrev pub BeginsWell : Version → List NumberedLine → Type 0
BeginsWell version [] = ⊥
BeginsWell version (l ∷ ls) = HasForm version l.octets

abbrev pub BeginsWellUnder : (first second : Option (List NumberedLine)) → Type 0
BeginsWellUnder (Some ls) second = BeginsWell First ls
BeginsWellUnder None (Some ls) = BeginsWell Second ls
BeginsWellUnder None None = ⊥

-- the same of the first line of a text that should be an entry
abbrev pub HasFormAtFirst : (text : List ℕ) → Type 0
HasFormAtFirst text = BeginsWellUnder (under (codes "cmsproof trust 1") (lines_of text))
    (under (codes "cmsproof trust 2") (lines_of text))

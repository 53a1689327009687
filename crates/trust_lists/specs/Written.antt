-- The text of version 2 that is written for a trust list.
use Rattle.std.specs.Prelude.{◌≡◌, ℕ, true, List, [], ◌∷◌, ◌++◌, codes, Option, Some, None, Result, OnOk}
use Rattle.hex.specs.Hex.{encode_lower}
use Rattle.devices.specs.Device.{Wrote}
use Rattle.devices.specs.declared.sink.SinkFault.{SinkFault}
use Rattle.der_core.specs.Times.{is_generalized}
use Rattle.der_time.specs.Moments.{generalized_moment}
use Rattle.cert_types.specs.CertificateValue.{encoding}
use Rattle.trust_lists.specs.declared.role.Role.{Role}
use Rattle.trust_lists.specs.declared.role.Role.TheVariants.{Signer, Tsa}
use Rattle.trust_lists.specs.Entries.{EntryValue}

abbrev pub role_word : Role → List ℕ
role_word Signer = codes "signer"
role_word Tsa = codes "tsa"

-- a text of a GeneralizedTime
abbrev pub IsTimeText : List ℕ → Type 0
IsTimeText text = is_generalized text ≡ true

-- the text of a GeneralizedTime that names the moment, of which there is one, or - for an absent end
unfoldable pub IsMomentWord : Option ℕ → List ℕ → Type 0
IsMomentWord None word = word ≡ codes "-"
IsMomentWord (Some m) word = IsTimeText word × (generalized_moment word ≡ m)

-- a role, the two moments and the certificate in lower-case hexadecimal, with one space between, and a line feed
pub record IsEntryLine (e : EntryValue) (line : List ℕ) : Type 0 where
  pub from : List ℕ
  pub until : List ℕ
  pub from_word : IsMomentWord e.from from
  pub until_word : IsMomentWord e.until until
  pub is : line ≡ (role_word e.role ++ 32 ∷ [])
      ++ ((from ++ 32 ∷ []) ++ ((until ++ 32 ∷ []) ++ (encode_lower (encoding e.certificate) ++ 10 ∷ [])))

-- a line for each entry
abbrev pub AreEntryLines : List EntryValue → List ℕ → Type 0
AreEntryLines [] text = text ≡ []
AreEntryLines (e ∷ es) text = (line : List ℕ) × IsEntryLine e line
    × ((others : List ℕ) × AreEntryLines es others × (text ≡ line ++ others))

-- the text of version 2 that is written for these entries
abbrev pub IsWrittenAs : List EntryValue → (text : List ℕ) → Type 0
IsWrittenAs entries text = (lines : List ℕ) × AreEntryLines entries lines
    × (text ≡ (codes "cmsproof trust 2" ++ 10 ∷ []) ++ lines)

-- lines of the first of these entries were written; of all of them if nothing failed, and otherwise a beginning of them
pub record PutsLines (entries : List EntryValue) (r : Result (Unit {0}) SinkFault) (tells : Type 0)
    (taken taken' : List ℕ) (count count' : ℕ) : Type 0 where
  pub first : List EntryValue
  pub others : List EntryValue
  pub parts : entries ≡ first ++ others
  pub all : OnOk r (others ≡ [])
  pub lines : List ℕ
  pub are : AreEntryLines first lines
  pub wrote : Wrote r tells taken taken' count count' lines

-- the same after the first line of version 2
pub record Puts (entries : List EntryValue) (r : Result (Unit {0}) SinkFault) (tells : Type 0) (taken taken' : List ℕ)
    (count count' : ℕ) : Type 0 where
  pub first : List EntryValue
  pub others : List EntryValue
  pub parts : entries ≡ first ++ others
  pub all : OnOk r (others ≡ [])
  pub lines : List ℕ
  pub are : AreEntryLines first lines
  pub wrote : Wrote r tells taken taken' count count' ((codes "cmsproof trust 2" ++ 10 ∷ []) ++ lines)

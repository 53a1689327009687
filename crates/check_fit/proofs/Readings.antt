-- Octets read as one SignedData, or have faults: never both.
use Rattle.std.proofs.Common.{◌≡◌, ℕ, List, Result, Ok, Err, refl, ap}
use Rattle.der_core.specs.declared.fault.Fault.{Fault}
use Rattle.der_core.specs.Element.{IsBytes}
use Rattle.der_core.specs.Grammar.{file}
use Rattle.der_grammar.specs.Table.{content_info}
use Rattle.der_core.proofs.Refuted.{refuted}
use Rattle.der_grammar.proofs.Clearness.{content_info_clear}
use Rattle.cms_types.specs.declared.fault.CmsFault.{CmsFault}
use Rattle.cms_types.specs.declared.fault.CmsFault.TheVariants as cms
use Rattle.cms_types.specs.SignedDataValue.{SignedDataValue, ContentInfoValue, SignedContent, OtherContent}
use Rattle.cms_types.specs.SignedDataValue.{EncodesContentInfo, EncodesSignedData}
use Rattle.cms_types.specs.SignedDataReading.{content_info_at}
use Rattle.cms_types.proofs.SignedDataReaders.{content_takes, content_fault, content_encodes, content_unique}
use Rattle.check_fit.specs.FileFitting.{IsReading}

abbrev ok : SignedDataValue → Result SignedDataValue CmsFault
ok v = Ok v

same_signed : (v w : SignedDataValue) → SignedContent v ≡ SignedContent w → v ≡ w
same_signed v w e = cc

never_other : (v : SignedDataValue) (id content : List ℕ) → SignedContent v ≡ OtherContent id content → ⊥
never_other v id content e = absurd cc

-- octets encode one SignedData at most
pub one_value : (bytes : List ℕ) (v w : SignedDataValue) → EncodesSignedData bytes v → EncodesSignedData bytes w → v ≡ w
one_value bytes v w h k = same_signed v w (content_unique bytes (SignedContent v) (SignedContent w) h k)

-- what encodes a ContentInfo has no fault
pub faultless : (bytes : List ℕ) (c : ContentInfoValue) (f : Fault) → EncodesContentInfo bytes c
    → IsReading bytes (Err (cms.Malformed f)) → ⊥
faultless bytes c f h fault = refuted (file content_info) bytes f content_info_clear (content_encodes bytes c h) fault

-- what encodes a SignedData reads as it
pub reads_it : (bytes : List ℕ) (r : Result SignedDataValue CmsFault) (v : SignedDataValue) → IsReading bytes r
    → EncodesSignedData bytes v → r ≡ Ok v
reads_it bytes (Ok w) v is h = ap ok (one_value bytes w v is h)
reads_it bytes (Err (cms.Malformed f)) v is h = absurd (faultless bytes (SignedContent v) f h is)
reads_it bytes (Err cms.NotSignedData) v is h =
    absurd (never_other v is.0 is.1 (content_unique bytes (SignedContent v) (OtherContent is.0 is.1) h is.2))
reads_it bytes (Err cms.OutOfMemory) v is h = absurd is

-- octets read as a SignedData, or have a reason why they don't
pub reading_of : (bytes : List ℕ) → IsBytes bytes → (r : Result SignedDataValue CmsFault) × IsReading bytes r
reading_of bytes fits = go (content_info_at bytes) refl
  where
    go : (r : Result ContentInfoValue Fault) → content_info_at bytes ≡ r
        → (r : Result SignedDataValue CmsFault) × IsReading bytes r
    go (Ok (SignedContent v)) e = (Ok v, content_takes bytes (SignedContent v) fits e)
    go (Ok (OtherContent id content)) e =
        (Err cms.NotSignedData, (id, content, content_takes bytes (OtherContent id content) fits e))
    go (Err f) e = (Err (cms.Malformed f), content_fault bytes f fits e)

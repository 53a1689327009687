-- Octets read as one value, or have faults: never both.
use Rattle.std.proofs.Common.{◌≡◌, ℕ, List, Result, Ok, Err, refl, sym, ap, ◌∙◌}
use Rattle.der_core.specs.declared.fault.Fault.{Fault}
use Rattle.der_core.specs.Grammar.{file}
use Rattle.der_grammar.specs.Table.{tst_info}
use Rattle.der_core.proofs.ReadLengths.{ok_is}
use Rattle.der_core.proofs.Refuted.{refuted}
use Rattle.der_grammar.proofs.Clearness.{tst_info_clear}
use Rattle.cms_types.specs.declared.fault.CmsFault.{CmsFault}
use Rattle.cms_types.specs.declared.fault.CmsFault.TheVariants as cms
use Rattle.cms_types.specs.SignedDataValue.{SignedDataValue, OtherContent}
use Rattle.check_fit.specs.FileFitting.{IsReading}
use Rattle.check_fit.proofs.Readings.{faultless, reads_it}
use Rattle.tsp_types.specs.TstValue.{TstValue, EncodesTst}
use Rattle.tsp_types.proofs.TstReaders.{tst_again, tst_encodes}
use Rattle.check_verdict.specs.TokenRules.{IsTstReading}
use Rattle.check_verdict.specs.Alone.{cms_alone, any_fault}

-- two readings are one, but for the fault
abbrev pub reading_alone : Result SignedDataValue CmsFault → Result SignedDataValue CmsFault
reading_alone (Ok v) = Ok v
reading_alone (Err f) = Err (cms_alone f)

pub one_reading : (bytes : List ℕ) (r r' : Result SignedDataValue CmsFault) → IsReading bytes r → IsReading bytes r'
    → reading_alone r ≡ reading_alone r'
one_reading bytes (Ok v) r' is is' = sym (ap reading_alone (reads_it bytes r' v is' is))
one_reading bytes (Err f) (Ok v) is is' = ap reading_alone (reads_it bytes (Err f) v is is')
one_reading bytes (Err (cms.Malformed f)) (Err (cms.Malformed g)) is is' = refl
one_reading bytes (Err (cms.Malformed f)) (Err cms.NotSignedData) is is' =
    absurd (faultless bytes (OtherContent is'.0 is'.1) f is'.2 is)
one_reading bytes (Err (cms.Malformed f)) (Err cms.OutOfMemory) is is' = absurd is'
one_reading bytes (Err cms.NotSignedData) (Err (cms.Malformed f)) is is' =
    absurd (faultless bytes (OtherContent is.0 is.1) f is.2 is')
one_reading bytes (Err cms.NotSignedData) (Err cms.NotSignedData) is is' = refl
one_reading bytes (Err cms.NotSignedData) (Err cms.OutOfMemory) is is' = absurd is'
one_reading bytes (Err cms.OutOfMemory) (Err f) is is' = absurd is

-- ---- TSTInfo

pub one_tst : (bytes : List ℕ) (v w : TstValue) → EncodesTst bytes v → EncodesTst bytes w → v ≡ w
one_tst bytes v w h k = ok_is v w (sym (tst_again bytes v h) ∙ tst_again bytes w k)

abbrev ok_tst : TstValue → Result TstValue Fault
ok_tst v = Ok v

pub reads_tst : (bytes : List ℕ) (r : Result TstValue Fault) (v : TstValue) → IsTstReading bytes r → EncodesTst bytes v
    → r ≡ Ok v
reads_tst bytes (Ok w) v is h = ap ok_tst (one_tst bytes w v is h)
reads_tst bytes (Err f) v is h = absurd (refuted (file tst_info) bytes f tst_info_clear (tst_encodes bytes v h) is)

abbrev pub tst_alone : Result TstValue Fault → Result TstValue Fault
tst_alone (Ok v) = Ok v
tst_alone (Err f) = Err any_fault

pub one_tst_reading : (bytes : List ℕ) (r r' : Result TstValue Fault) → IsTstReading bytes r → IsTstReading bytes r'
    → tst_alone r ≡ tst_alone r'
one_tst_reading bytes (Ok v) r' is is' = sym (ap tst_alone (reads_tst bytes r' v is' is))
one_tst_reading bytes (Err f) (Ok v) is is' = ap tst_alone (reads_tst bytes (Err f) v is is')
one_tst_reading bytes (Err f) (Err g) is is' = refl

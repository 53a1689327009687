-- Whether the signers of a file fit its content (RFC 5652, 3, 5.2 and 5.4), and the order in which the rules are
-- tested.
use Rattle.std.specs.Prelude.{◌≡◌, ◌==◌, IsTrue, ℕ, Bool, true, false, List, [], length, ◌<◌, ◌≤◌, ◌^◌, is_some, Option}
use Rattle.std.specs.Prelude.{Some, None, Result, Ok, Err, MatchResult, if◌then◌else◌}
use Rattle.devices.specs.Device.{raised}
use Rattle.der_core.specs.declared.fault.Fault.{Fault}
use Rattle.der_core.specs.Faults.{Faults}
use Rattle.der_core.specs.Grammar.{file}
use Rattle.der_grammar.specs.Table.{content_info}
use Rattle.der_core.specs.Results.{◌>>=◌}
use Rattle.der_lists.specs.Numbers.{of_number}
use Rattle.digests.specs.declared.algorithm.Alg.{Alg}
use Rattle.digests.specs.declared.set.Algs.{Algs}
use Rattle.digests.specs.Sets.{is_in}
use Rattle.digests.specs.declared.selection.WantedDigests.{WantedDigests}
use Rattle.digests.specs.Selection.{AreOfWanted, set_given}
use Rattle.cms_types.specs.CmsFaults.{IsCmsFaultBy}
use Rattle.cms_types.specs.declared.fault.CmsFault.{CmsFault}
use Rattle.cms_types.specs.declared.fault.CmsFault.TheVariants as cms
use Rattle.cms_types.specs.SignedDataValue.{SignedDataValue, EncodesSignedData}
use Rattle.cms_types.specs.SignerValue.{SignerValue}
use Rattle.check_fit.specs.declared.policy.Policy.{Policy}
use Rattle.check_fit.specs.declared.rules.FileRule.TheVariants as rule
use Rattle.check_fit.specs.declared.rules.DeviceFault.{DeviceFault}
use Rattle.check_fit.specs.declared.rules.DeviceFault.TheVariants as device
use Rattle.check_fit.specs.declared.rules.SignerRule.{SignerRule}
use Rattle.check_fit.specs.declared.rules.Refused.{Refused}
use Rattle.check_fit.specs.declared.rules.Refused.TheVariants as refused
use Rattle.check_fit.specs.Fitting.{WantedBy, Judged}

-- The result of reading octets: the SignedData that they encode, or why they encode none. `HasFault` says which faults
-- octets have.
abbrev pub IsReadingBy : (HasFault : List ℕ → Fault → Type 0) → List ℕ → Result SignedDataValue CmsFault → Type 0
IsReadingBy HasFault bytes (Ok v) = EncodesSignedData bytes v
IsReadingBy HasFault bytes (Err fault) = IsCmsFaultBy HasFault ⊥ bytes fault

-- the same, if all of the octets are at hand
abbrev pub IsReading : List ℕ → Result SignedDataValue CmsFault → Type 0
IsReading bytes reading = IsReadingBy (Faults (file content_info)) bytes reading

-- C1 and C2; lack of memory is not a rule of the file, and not a result of reading
abbrev pub unread : CmsFault → Refused
unread (cms.Malformed f) = refused.File (rule.Malformed f)
unread cms.NotSignedData = refused.File rule.NotSignedData
unread cms.OutOfMemory = refused.Device device.OutOfMemory

-- C4 and C5: the content is in the file or was handed in, and not both
abbrev pub placed : SignedDataValue → (attached : Option (List ℕ)) → (handed : Bool) → Result SignedDataValue Refused
placed v None false = Err (refused.File rule.NoContent)
placed v None true = Ok v
placed v (Some content) false = Ok v
placed v (Some content) true = Err (refused.File rule.ContentTwice)

-- the SignedData, or the first of C1 to C5 that fails
abbrev pub file_rules : Result SignedDataValue CmsFault → (handed : Bool) → Result SignedDataValue Refused
file_rules (Err f) handed = Err (unread f)
file_rules (Ok v) handed = if length v.signers == 0 then Err (refused.File rule.NoSigner)
    else placed v v.encapsulated.content handed

-- C6 after these, if one signer is judged alone: there is a signer of this number, from 1
abbrev pub signer_rules : (number : ℕ) → Result SignedDataValue CmsFault → (handed : Bool)
    → Result SignedDataValue Refused
signer_rules number reading handed = file_rules reading handed >>= λ v. if is_some (of_number v.signers number)
    then Ok v else Err (refused.File rule.NoSuchSigner)

-- the number of signers, or the first that doesn't fit
abbrev pub fit_answer : ℕ → Option (ℕ × SignerRule) → Result ℕ Refused
fit_answer count None = Ok count
fit_answer count (Some unfit) = Err (refused.Signer unfit.0 unfit.1)

-- the result for the signers of a content of this type
abbrev pub FitsSigners : Policy → (content econtent_type : List ℕ) → List SignerValue → Result ℕ Refused → Type 0
FitsSigners policy content econtent_type signers result = (unfit : Option (ℕ × SignerRule))
    × Judged policy content econtent_type 1 signers unfit × (result ≡ fit_answer (length signers) unfit)

-- What contracts see of a source: whether they see what it gives, what it has left to give, and how often it failed.
pub record SourceFacts (S : Type 0) : Type 1 where
  pub tells : S → Type 0
  pub rest : S → List ℕ
  pub failures : S → ℕ

abbrev pub facts_of : {S : Type 0} → (S → Type 0) → (S → List ℕ) → (S → ℕ) → SourceFacts S
facts_of tells rest failures = record { tells = tells; rest = rest; failures = failures }

-- What holds of a source whose content is judged, before and after: the source failed, and its count of failures rose
-- by one; or it has too many octets; or it was read to its end, no more than 2^40 octets, and the result is one for the
-- octets that it gave.
pub data OfSource {A : Type 0} (Judges : (content : List ℕ) → Result A Refused → Type 0) (tells : Type 0)
    (rest rest' : List ℕ) (count count' : ℕ) : Result A Refused → Type 0 where
  fails : count' ≡ raised count → OfSource Judges tells rest rest' count count' (Err (refused.Device device.ReadFailed))
  too_long : count' ≡ count → (tells → 2 ^ 40 < length rest)
      → OfSource Judges tells rest rest' count count' (Err (refused.Device device.ContentTooLong))
  read : {result : Result A Refused} (content : List ℕ) → length content ≤ 2 ^ 40 → count' ≡ count
      → (tells → rest ≡ content) → (tells → rest' ≡ []) → Judges content result
      → OfSource Judges tells rest rest' count count' result

-- the same for a SignedData that no rule C1 to C5 refuses
abbrev pub OfContent : {A S : Type 0} → SourceFacts S → (List ℕ → SignedDataValue → Result A Refused → Type 0)
    → SignedDataValue → (before after : Option S) → Result A Refused → Type 0
OfContent facts Judges v None after result = (after ≡ None) × (content : List ℕ)
    × (v.encapsulated.content ≡ Some content) × Judges content v result
OfContent {A} {S} facts Judges v (Some s) after result = (s' : S) × (after ≡ Some s') × OfSource (λ content.
    Judges content v) (facts.tells s) (facts.rest s) (facts.rest s') (facts.failures s) (facts.failures s') result

-- the same for what rules about the file by itself leave: if one of them refuses it, none of the content is read
abbrev pub OfRules : {A S : Type 0} → SourceFacts S → (List ℕ → SignedDataValue → Result A Refused → Type 0)
    → Result SignedDataValue Refused → (before after : Option S) → Result A Refused → Type 0
OfRules facts Judges left before after result = MatchResult left
    (λ v. OfContent facts Judges v before after result)
    (λ e. (result ≡ Err e) × (after ≡ before))

-- the same for a file: the rules are C1 to C5
abbrev pub OfFile : {A S : Type 0} → SourceFacts S → (List ℕ → SignedDataValue → Result A Refused → Type 0)
    → Result SignedDataValue CmsFault → (before after : Option S) → Result A Refused → Type 0
OfFile facts Judges reading before after result =
    OfRules facts Judges (file_rules reading (is_some before)) before after result

-- the judge of signers: whether they fit
abbrev pub FitsSigned : Policy → (content : List ℕ) → SignedDataValue → Result ℕ Refused → Type 0
FitsSigned policy content v result = FitsSigners policy content v.encapsulated.content_type v.signers result

abbrev pub FitsFile : {S : Type 0} → SourceFacts S → Policy → Result SignedDataValue CmsFault
    → (before after : Option S) → Result ℕ Refused → Type 0
FitsFile facts policy reading before after result = OfFile facts (FitsSigned policy) reading before after result

-- a content's digests, by each algorithm that one of these signers names and the policy allows
abbrev pub HasDigests : Policy → (content : List ℕ) → List SignerValue → WantedDigests → Type 0
HasDigests policy content signers digests = AreOfWanted digests content
    × ((alg : Alg) → WantedBy policy signers alg → IsTrue (is_in alg (set_given digests)))

-- a file that is opened: the SignedData, which has a signer, and these digests of its content
abbrev pub Opens : Policy → (content : List ℕ)
    → SignedDataValue → Result (SignedDataValue × WantedDigests) Refused → Type 0
Opens policy content v (Ok opened) = (opened.0 ≡ v) × (0 < length v.signers)
    × HasDigests policy content v.signers opened.1
Opens policy content v (Err refusal) = ⊥

-- a content's digests, by these algorithms
abbrev pub Hashes : Algs → (content : List ℕ) → SignedDataValue → Result WantedDigests Refused → Type 0
Hashes wanted content v (Ok digests) = (set_given digests ≡ wanted) × AreOfWanted digests content
Hashes wanted content v (Err refusal) = ⊥

-- the digests of what a source gave, or why there are none
abbrev pub HashesSource : Algs → (tells : Type 0) (rest rest' : List ℕ) (count count' : ℕ)
    → Result WantedDigests DeviceFault → Type 0
HashesSource wanted tells rest rest' count count' (Ok digests) = (count' ≡ count) × (set_given digests ≡ wanted)
    × (content : List ℕ) × (length content ≤ 2 ^ 40) × (tells → rest ≡ content) × (tells → rest' ≡ [])
    × AreOfWanted digests content
HashesSource wanted tells rest rest' count count' (Err device.ReadFailed) = count' ≡ raised count
HashesSource wanted tells rest rest' count count' (Err device.ContentTooLong) = (count' ≡ count)
    × (tells → 2 ^ 40 < length rest)
HashesSource wanted tells rest rest' count count' (Err device.AskFailed) = ⊥
HashesSource wanted tells rest rest' count count' (Err device.TooLong) = ⊥
HashesSource wanted tells rest rest' count count' (Err device.OutOfMemory) = ⊥

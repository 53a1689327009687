-- What `check_stream` promises. Begin here.
--
-- If it is known which octets the source of the file has to give, the verdict is that of `check` about these octets:
-- yes with the same moment, or the same refusal. Three things differ. If a file is malformed (C1), the fault that is
-- named holds openly: it is a fault of the octets, or it is met at an open place of them, so it may be named before
-- their end. The verdict is X1 if the file's source failed, and then that source counted a failure. The verdict is X3
-- if headers at open places of the file state more octets than the buffer has.
--
-- Its words, and where they are defined:
--   the verdict of `check`                   Yes and Refuses in check_verdict/specs/Verdicts.antt;
--                                            check_verdict/specs/Headline.antt says it in one sentence
--   about these octets                       ChecksStream in check_verdict/specs/Checking.antt: `Checks`, except
--                                            the fault of C1
--   holds openly, open places                FaultsOpenly and StatesAt in der_core/specs/OpenFaults.antt
--   more octets than the buffer has          IsTooLarge in der_grammar/specs/TooLarge.antt
use Rattle.std.specs.Prelude.{◌≡◌, ⊤, ◌⊎◌, ℕ, Bool, false, List, length, Option, Some, Result, Err, IfSome}
use Rattle.devices.specs.Device.{raised}
use Rattle.devices.specs.declared.source.Source.{Ghosts}
use Rattle.der_core.specs.declared.fault.Fault.{Fault}
use Rattle.der_core.specs.OpenFaults.{FaultsOpenly}
use Rattle.der_core.specs.Grammar.{file}
use Rattle.der_grammar.specs.Table.{content_info}
use Rattle.digests.specs.declared.algorithm.Alg.{Alg}
use Rattle.digests.specs.declared.set.Algs.{Algs}
use Rattle.digests.specs.Sets.{is_in}
use Rattle.cms_types.specs.SignedDataValue.{SignedDataValue, EncodesSignedData}
use Rattle.cms_types.specs.declared.fault.CmsFault.{CmsFault}
use Rattle.check_fit.specs.declared.policy.Policy.{Policy}
use Rattle.check_fit.specs.declared.rules.FileRule.TheVariants as rule
use Rattle.check_fit.specs.declared.rules.DeviceFault.TheVariants as device
use Rattle.check_fit.specs.declared.rules.Refused.{Refused}
use Rattle.check_fit.specs.declared.rules.Refused.TheVariants as refused
use Rattle.check_fit.specs.Fitting.{WantedBy}
use Rattle.check_fit.specs.FileFitting.{SourceFacts, facts_of, IsReadingBy, OfFile}
use Rattle.trust_lists.specs.Asking.{Asked}
use Rattle.trust_lists.specs.Entries.{EntryValue}
use Rattle.list_answers.specs.declared.verifier.Verifier.{Ghosts as Verifiers}
use Rattle.check_verdict.specs.Passing.{Terms}
use Rattle.check_verdict.specs.Questions.{Answers, with_answers}
use Rattle.check_verdict.specs.TokenVerdicts.{terms_of}
use Rattle.check_verdict.specs.Verdicts.{Refuses}
use Rattle.check_verdict.specs.Headline.{IsDevice, GivesYes}
use Rattle.check_verdict.specs.Checking.{ChecksStream, JudgesAsking, IsUnread, IsVerdict}
use Rattle.der_grammar.specs.TooLarge.{IsTooLarge}

-- A verdict about a file that comes from a source, which has this count of failures before and after: the source
-- failed, or there is too little room, and in both cases none of the content that was handed in is read; or it is the
-- verdict about the octets, if the source's octets are known.
pub data OfStream {S : Type 0} (Says : Result ℕ Refused → Type 0) (tells : Type 0) (octets : List ℕ)
    (room count count' : ℕ) (before after : Option S) : Result ℕ Refused → Type 0 where
  fails : count' ≡ raised count → after ≡ before
      → OfStream Says tells octets room count count' before after (Err (refused.Device device.ReadFailed))
  too_long : count' ≡ count → after ≡ before → (tells → IsTooLarge octets room)
      → OfStream Says tells octets room count count' before after (Err (refused.Device device.TooLong))
  told : {result : Result ℕ Refused} → count' ≡ count → (tells → Says result)
      → OfStream Says tells octets room count count' before after result

-- what contracts see of a source
abbrev pub facts : {S : Type 0} → Ghosts S → SourceFacts S
facts s = facts_of s.tells s.rest s.failures

-- What a check of a stream is given: whether it is known which octets the source of the file has to give, these
-- octets, how many the buffer has room for, and how often that source has failed, before the check and after it.
pub record Given : Type 1 where
  pub tells : Type 0
  pub octets : List ℕ
  pub room : ℕ
  pub count : ℕ
  pub count' : ℕ

abbrev pub given : {F : Type 0} → Ghosts F → (before after : F) → (buffer : List ℕ) → Given
given f before after buffer =
    record {
      tells = f.tells before;
      octets = f.rest before;
      room = length buffer;
      count = f.failures before;
      count' = f.failures after;
    }

-- the verdict of `check` about the octets, by these terms
abbrev pub StreamChecks : {S : Type 0} → Terms → Given → Ghosts S → (before after : Option S) → Result ℕ Refused
    → Type 0
StreamChecks t g content before after result =
    OfStream (ChecksStream (facts content) t g.octets before after) g.tells g.octets g.room g.count g.count' before
    after result

-- the verdict about the octets, and no questions were asked except about signers that fit the content of this verdict
abbrev pub ChecksStreamAsking : {S : Type 0} → SourceFacts S → Terms → (OnlyAsked : (Asked → Bool) → Type 0)
    → (octets : List ℕ) → (before after : Option S) → Result ℕ Refused → Type 0
ChecksStreamAsking facts t OnlyAsked octets before after result =
    (reading : Result SignedDataValue CmsFault) × IsReadingBy (FaultsOpenly (file content_info)) octets reading
    × OfFile facts (JudgesAsking t OnlyAsked) reading before after result

-- Who judges: the terms of a check, by the verifier as it was before it, and which tests held for all that it was
-- asked.
pub record Judge : Type 1 where
  pub terms : Terms
  pub OnlyAsked : (Asked → Bool) → Type 0

abbrev pub judge : {V : Type 0} → Verifiers V → Policy → List EntryValue → (before after : V) → Judge
judge verifier policy trust before after =
    record {
      terms = terms_of policy trust (verifier.vouches before);
      OnlyAsked = λ test. verifier.asked_only test before after;
    }

-- the same for what a check of a stream is given, by this judge
abbrev pub StreamChecksAsking : {S : Type 0} → Judge → Given → Ghosts S → (before after : Option S) → Result ℕ Refused
    → Type 0
StreamChecksAsking j g content before after result =
    OfStream (ChecksStreamAsking (facts content) j.terms j.OnlyAsked g.octets before after) g.tells g.octets g.room
    g.count g.count' before after result

-- the verdict, if there is one, is that of `check` also by each list of answers that gives the verifier's answers to
-- the file's questions
abbrev pub StreamSuffices : {S : Type 0} → Terms → Given → Ghosts S → (before after : Option S)
    → Option (Result ℕ Refused) → Type 0
StreamSuffices t g content before after result =
    (answers : Asked → Bool) → Answers t g.octets answers
    → IfSome result (StreamChecks (with_answers t answers) g content before after)

-- there was too little room, X3
abbrev pub IsTooLong : Result ℕ Refused → Type 0
IsTooLong result = result ≡ Err (refused.Device device.TooLong)

-- yes with this moment exactly if it is a yes, unless a device failed, the content is too long or there was too little
-- room
abbrev pub StreamSaysYes : Terms → (octets : List ℕ) → (handed : Option (List ℕ)) → Result ℕ Refused → ℕ → Type 0
StreamSaysYes t octets handed result m = IsTooLong result ⊎ GivesYes t octets handed result m

-- the result is the verdict about the file and the content that was handed in; for a malformed file it names a fault
-- that holds openly
abbrev pub IsStreamVerdict : Terms → (octets : List ℕ) → (handed : Option (List ℕ)) → Result ℕ Refused → Type 0
IsStreamVerdict t octets handed (Err (refused.File (rule.Malformed f))) =
    FaultsOpenly (file content_info) octets f × (other : Fault)
    × Refuses t octets handed (refused.File (rule.Malformed other))
IsStreamVerdict t octets handed result = IsVerdict t octets handed result

abbrev pub StreamVerdictOrDevice : Terms → (octets : List ℕ) → (handed : Option (List ℕ)) → Result ℕ Refused → Type 0
StreamVerdictOrDevice t octets handed result =
    IsTooLong result ⊎ (IsDevice result ⊎ IsStreamVerdict t octets handed result)

-- no signer was judged: the file was refused as a whole, there was too little room, or the content could not be read
abbrev pub IsUnjudged : Result ℕ Refused → Type 0
IsUnjudged result = IsTooLong result ⊎ IsUnread result

-- it may be given before the file's end: C1, X1 and X3
abbrev pub IsEarly : Result ℕ Refused → Type 0
IsEarly (Err (refused.File (rule.Malformed f))) = ⊤
IsEarly (Err (refused.Device device.ReadFailed)) = ⊤
IsEarly (Err (refused.Device device.TooLong)) = ⊤
IsEarly result = ⊥

-- Nothing can be stated with these algorithms alone: the content is in the file, and a signer needs its digest by an
-- algorithm that is none of them.
pub record LacksDigest (policy : Policy) (octets : List ℕ) (given : Algs) : Type 0 where
  pub signed : SignedDataValue
  pub encodes : EncodesSignedData octets signed
  pub content : List ℕ
  pub attached : signed.encapsulated.content ≡ Some content
  pub alg : Alg
  pub wanted : WantedBy policy signed.signers alg
  pub missing : is_in alg given ≡ false

-- The verdict of `check` and of `check_stream` about a file and a content: the same relation, over what the octets are
-- read as.
use Rattle.std.specs.Prelude.{◌≡◌, ⊤, ◌⊎◌, ℕ, Bool, List, Option, Result, Ok, Err}
use Rattle.devices.specs.Device.{raised}
use Rattle.der_core.specs.OpenFaults.{FaultsOpenly}
use Rattle.der_core.specs.Grammar.{file}
use Rattle.der_grammar.specs.Table.{content_info}
use Rattle.cms_types.specs.SignedDataValue.{SignedDataValue}
use Rattle.cms_types.specs.declared.fault.CmsFault.{CmsFault}
use Rattle.check_fit.specs.declared.rules.DeviceFault.TheVariants as device
use Rattle.check_fit.specs.declared.rules.Refused.{Refused}
use Rattle.check_fit.specs.declared.rules.Refused.TheVariants as refused
use Rattle.check_fit.specs.FileFitting.{SourceFacts, IsReadingBy, IsReading, OfFile}
use Rattle.trust_lists.specs.Asking.{Asked}
use Rattle.check_verdict.specs.Asks.{AsksOnly, IsAskedIn}
use Rattle.check_verdict.specs.Passing.{Terms}
use Rattle.check_verdict.specs.Verdicts.{Yes, Judges, Refuses}
use Rattle.check_verdict.specs.Headline.{IsDevice}

-- the verdict of `check`, by what the file's octets are read as and what the source of the content did
abbrev pub Checks : {S : Type 0} → SourceFacts S → Terms → (file : List ℕ) → (before after : Option S)
    → Result ℕ Refused → Type 0
Checks facts t octets before after result = (reading : Result SignedDataValue CmsFault) × IsReading octets reading
    × OfFile facts (Judges t) reading before after result

-- the same, and no questions were asked except about signers that fit the content of this verdict
abbrev pub JudgesAsking : Terms → (OnlyAsked : (Asked → Bool) → Type 0) → (content : List ℕ) → SignedDataValue
    → Result ℕ Refused → Type 0
JudgesAsking t OnlyAsked content v result = Judges t content v result × AsksOnly OnlyAsked (IsAskedIn t content v)

abbrev pub ChecksAsking : {S : Type 0} → SourceFacts S → Terms → (OnlyAsked : (Asked → Bool) → Type 0)
    → (file : List ℕ) → (before after : Option S) → Result ℕ Refused → Type 0
ChecksAsking facts t OnlyAsked octets before after result = (reading : Result SignedDataValue CmsFault)
    × IsReading octets reading × OfFile facts (JudgesAsking t OnlyAsked) reading before after result

-- no signer was judged: the file was refused as a whole, or its content could not be read, X1 or X5
abbrev pub IsUnread : Result ℕ Refused → Type 0
IsUnread (Err (refused.File failed)) = ⊤
IsUnread (Err (refused.Device device.ReadFailed)) = ⊤
IsUnread (Err (refused.Device device.ContentTooLong)) = ⊤
IsUnread result = ⊥

-- the verdict of `check_stream` about the octets of a source whose octets are known, if it isn't X1 of the file or X3
abbrev pub ChecksStream : {S : Type 0} → SourceFacts S → Terms → (file : List ℕ) → (before after : Option S)
    → Result ℕ Refused → Type 0
ChecksStream facts t octets before after result = (reading : Result SignedDataValue CmsFault)
    × IsReadingBy (FaultsOpenly (file content_info)) octets reading
    × OfFile facts (Judges t) reading before after result

-- the result is the verdict about the file and the content that was handed in
abbrev pub IsVerdict : Terms → (file : List ℕ) → (handed : Option (List ℕ)) → Result ℕ Refused → Type 0
IsVerdict t file handed (Ok m) = Yes t file handed m
IsVerdict t file handed (Err r) = Refuses t file handed r

abbrev pub VerdictOrDevice : Terms → (file : List ℕ) → (handed : Option (List ℕ)) → Result ℕ Refused → Type 0
VerdictOrDevice t file handed result = IsDevice result ⊎ IsVerdict t file handed result

-- the verifier failed exactly if the verdict says so
abbrev pub CountsAsks : Result ℕ Refused → (count count' : ℕ) → Type 0
CountsAsks (Err (refused.Device device.AskFailed)) count count' = count' ≡ raised count
CountsAsks result count count' = count' ≡ count

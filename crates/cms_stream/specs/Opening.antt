-- What a pass over a source states about all its octets.
use Rattle.std.specs.Prelude.{◌≡◌, ℕ, ◌+◌, ◌≤◌, ⊤, Bool, List, length, Option, Some, None, Result, Ok, Err}
use Rattle.devices.specs.Device.{raised}
use Rattle.der_core.specs.OpenFaults.{FaultsOpenly, whole_length}
use Rattle.der_core.specs.Grammar.{file}
use Rattle.der_grammar.specs.Table.{content_info}
use Rattle.der_grammar.specs.TooLarge.{IsTooLarge}
use Rattle.cms_types.specs.SignerValue.{SignerValue}
use Rattle.cms_types.specs.SignedDataValue.{SignedDataValue, ContentInfoValue, SignedContent, OtherContent}
use Rattle.cms_types.specs.SignedDataValue.{signers_parts, EncodesSignedData, EncodesAnotherType}
use Rattle.cms_stream.specs.Passing.{Carries}
use Rattle.cms_stream.specs.declared.stream_fault.StreamFault.{StreamFault}
use Rattle.cms_stream.specs.declared.stream_fault.StreamFault.TheVariants.{Malformed, ReadFailed, TooLong}

-- what is kept of a SignedData (RFC 5652 5.1): the type of its content, whether its content is in it, and its signers
pub record OpenedValue : Type 0 where
  pub content_type : List ℕ
  pub attached : Bool
  pub signers : List SignerValue

-- this was kept of a SignedData; if its content is in it, a taker gained it
abbrev pub IsOpened : (gains : List ℕ → Type 0) → OpenedValue → SignedDataValue → Type 0
IsOpened gains o v =
    (o.content_type ≡ v.encapsulated.content_type) × (o.signers ≡ v.signers)
    × Carries gains o.attached v.encapsulated.content

-- the whole elements of the content's type and of the signers that this was kept of are no longer than the room for
-- them
abbrev pub FitsRoom : (room : ℕ) → OpenedValue → Type 0
FitsRoom room o = whole_length (length o.content_type) + whole_length (length (signers_parts o.signers)) ≤ room

-- this was kept of a ContentInfo: nothing, if it is of another type
abbrev pub OpensContent : (gains : List ℕ → Type 0) → Option OpenedValue → ContentInfoValue → Type 0
OpensContent gains (Some o) c = (v : SignedDataValue) × (c ≡ SignedContent v) × IsOpened gains o v
OpensContent gains None c = (id content : List ℕ) × (c ≡ OtherContent id content)

-- What a pass over these octets states about them: they encode a SignedData, of which it kept this; they encode a
-- ContentInfo of another type; they have this fault of form; or they state more than there is room for. If the source
-- failed, nothing is stated about them.
abbrev pub OpensStream : (gains : List ℕ → Type 0) → (room : ℕ) → (octets : List ℕ)
    → Result (Option OpenedValue) StreamFault → Type 0
OpensStream gains room octets (Ok (Some o)) = (v : SignedDataValue) × EncodesSignedData octets v × IsOpened gains o v
OpensStream gains room octets (Ok None) = EncodesAnotherType octets
OpensStream gains room octets (Err (Malformed f)) = FaultsOpenly (file content_info) octets f
OpensStream gains room octets (Err TooLong) = IsTooLarge octets room
OpensStream gains room octets (Err ReadFailed) = ⊤

-- What a pass finds for octets that encode this ContentInfo, unless the source fails: the ContentInfo, or that they
-- state more than there is room for.
abbrev pub OpensEncoding : (gains : List ℕ → Type 0) → (room : ℕ) → (octets : List ℕ) → ContentInfoValue
    → Result (Option OpenedValue) StreamFault → Type 0
OpensEncoding gains room octets c (Ok o) = OpensContent gains o c
OpensEncoding gains room octets c (Err (Malformed f)) = ⊥
OpensEncoding gains room octets c (Err TooLong) = IsTooLarge octets room
OpensEncoding gains room octets c (Err ReadFailed) = ⊤

-- the count of failures is raised if the source failed, and otherwise unchanged
abbrev pub CountsPass : {A : Type 0} → Result A StreamFault → (before after : ℕ) → Type 0
CountsPass (Ok x) before after = after ≡ before
CountsPass (Err (Malformed f)) before after = after ≡ before
CountsPass (Err TooLong) before after = after ≡ before
CountsPass (Err ReadFailed) before after = after ≡ raised before

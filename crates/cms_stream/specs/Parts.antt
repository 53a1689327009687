-- The calls of a reader by the part of a file that they pass: one word for each, and the reading that it is exact
-- against. `Calls` says what the kinds of calls state.
use Rattle.std.specs.Prelude.{◌≡◌, ℕ, ◌+◌, ◌<◌, ◌≤◌, ◌^◌, Bool, List, [], ◌∷◌, ◌++◌, length, take, drop, Option, Result}
use Rattle.std.specs.Prelude.{IfOk, IfSome}
use Rattle.devices.specs.declared.source.Source.{Ghosts}
use Rattle.der_core.specs.Lists.{is_same}
use Rattle.der_core.specs.OpenFaults.{whole_length}
use Rattle.der_core.specs.Reading.{any_at, oid_in, version_in}
use Rattle.der_core.specs.declared.tags.TheConstants.{OBJECT_IDENTIFIER, SEQUENCE, SET}
use Rattle.der_grammar.specs.Table.{id_signed_data}
use Rattle.cms_types.specs.SignerValue.{SignerValue}
use Rattle.cms_types.specs.SignedDataReading.{signers_in}
use Rattle.cms_stream_laws.specs.OpenReading.{OpenSpot, OpenBody, body_of, kept, within_openly, many_openly}
use Rattle.cms_stream_laws.specs.OpenReading.{maybe_openly, next_openly, enter_openly, end_openly, last_openly}
use Rattle.cms_stream_laws.specs.OpenReading.{opaque_openly, optional_opaque_openly, tagged_openly}
use Rattle.cms_stream_laws.specs.OpenContentInfo.{algorithm_openly, explicit_octets_openly, encapsulated_openly}
use Rattle.cms_stream_laws.specs.OpenContentInfo.{explicit_opaque_openly, other_content_openly}
use Rattle.cms_stream_laws.specs.Laws.{before_content}
use Rattle.cms_types.specs.SignedDataValue.{SignedDataValue, signers_parts}
use Rattle.cms_stream.specs.declared.tags.TheConstants.{CONTENT}
use Rattle.cms_stream.specs.declared.stream_fault.StreamFault.{StreamFault}
use Rattle.cms_stream.specs.declared.reader.Reader.{Reader}
use Rattle.cms_stream.specs.declared.taker.Taker.{Ghosts as Takers}
use Rattle.cms_stream.specs.Readers.{seen}
use Rattle.cms_stream.specs.Passing.{body_to, peeked, missed, tag_fits, outer_in, Carries, HasRoom, IsKept, IsTooLong}
use Rattle.cms_stream.specs.Passing.{IsTypeTooLong, Reads, Finds, last_in}
use Rattle.cms_stream.specs.Opening.{OpenedValue, IsOpened, OpensContent, FitsRoom, CountsPass}
use Rattle.cms_stream.specs.Stages.{Heads, HeadsType, StatesType, IsHeadTooLong, IsSignedTooLong, IsContentTooLong}
use Rattle.cms_stream.specs.Stages.{Inside, encapsulated_of, signed_head_in, signed_in, IsFileTooLong, file_in}
use Rattle.cms_stream.specs.Stages.{explicit_signed_in, signed_content_in, content_in}
use Rattle.cms_stream.specs.Calls.{Moment, Call, Looks, Ends, Enters, Begins, ReadsBody, PassesOctets, HandsBody}
use Rattle.cms_stream.specs.Calls.{FindsBody, PassesBody, FindsFront, FindsOptional, PassesFront, PassesOptional}

-- ---- elements (X.690 8.1)

-- it entered the element here, which has this tag, or any tag
abbrev pub EntersTag : (tag end : ℕ) → Call ℕ
EntersTag tag end from result to = Enters (enter_openly tag) end from result to

abbrev pub EntersNext : (end : ℕ) → Call ℕ
EntersNext end from result to = Enters next_openly end from result to

-- it entered the outermost element of the file
abbrev pub EntersFile : Call ℕ
EntersFile from result to = Begins outer_in from result to

-- it looked whether an element with this tag is here, or that one of these tags is
abbrev pub LooksForTag : (tag end : ℕ) → Call Bool
LooksForTag tag end from result to = Looks (peeked tag) end from result to

abbrev pub LooksForTags : (tags : List ℕ) → (end : ℕ) → Call (Unit {0})
LooksForTags tags end from result to = Looks (tag_fits tags) end from result to

-- it found no element here, after parts that may be absent
abbrev pub FindsNothing : (end : ℕ) → Call (Unit {0})
FindsNothing end from result to = Ends missed end from result to

-- it found the end of the body here
abbrev pub FindsEnd : (end : ℕ) → Call (Unit {0})
FindsEnd end from result to = Ends end_openly end from result to

-- it passed all octets of the body
abbrev pub PassesAll : (end : ℕ) → Call (Unit {0})
PassesAll end from result to = PassesOctets (kept any_at) end from result to

-- it handed them to a taker, which gained them
pub record Pours (gains : List ℕ → Type 0) (end : ℕ) (from : Moment) (result : Result (Unit {0}) StreamFault)
    (to : Moment) : Type 0 where
  pub passes : PassesAll end from result to
  pub taken : from.tells → IfOk result (λ _. gains (body_of (body_to end from.place)))

-- it kept them in a room that is exactly large enough
pub record Keeps (before after : List ℕ) (end : ℕ) (from : Moment) (result : Result (Unit {0}) StreamFault)
    (to : Moment) : Type 0 where
  pub reads : ReadsBody (λ _. after) (kept any_at) end from result to
  pub size : length after ≡ length before

-- so many octets are at hand, and the place behind them is below 2^64
pub record IsInWindow (reader : Reader) (count : ℕ) : Type 0 where
  pub there : count ≤ length reader.window
  pub near : reader.at + count < 2 ^ 64

-- it handed so many octets at hand to a taker, and passed them
pub record Hands {K : Type 0} (count : ℕ) (taker : Takers K) (before : Reader) (holding : K) (after : Reader)
    (holding' : K) : Type 0 where
  pub at : after.at ≡ before.at + count
  pub window : after.window ≡ drop count before.window
  pub taken : (m : List ℕ) → taker.held holding m → taker.held holding' (m ++ take count before.window)

-- it passed a whole element with any tag; or the same as the whole of a body; or one that may be absent
abbrev pub PassesElement : (end : ℕ) → Call (Unit {0})
PassesElement end from result to = PassesFront opaque_openly end from result to

abbrev pub PassesWhole : (end : ℕ) → Call (Unit {0})
PassesWhole end from result to = PassesBody explicit_opaque_openly end from result to

abbrev pub PassesParameters : (end : ℕ) → Call (Unit {0})
PassesParameters end from result to = PassesOptional optional_opaque_openly end from result to

-- it passed the contents of an OBJECT IDENTIFIER, or the whole element (X.690 8.19)
abbrev pub PassesOid : {X : Type 0} → (end : ℕ) → Call X
PassesOid end from result to = PassesOctets (kept oid_in) end from result to

abbrev pub PassesNextOid : (end : ℕ) → Call (Unit {0})
PassesNextOid end from result to = PassesFront (within_openly OBJECT_IDENTIFIER (kept oid_in)) end from result to

-- it passed the contents of an AlgorithmIdentifier, the whole element, or such elements to the end of a body (RFC 5280
-- 4.1.1.2)
abbrev pub PassesAlgorithm : (end : ℕ) → Call (Unit {0})
PassesAlgorithm end from result to = PassesBody algorithm_openly end from result to

abbrev pub PassesNextAlgorithm : (end : ℕ) → Call (Unit {0})
PassesNextAlgorithm end from result to = PassesFront (within_openly SEQUENCE algorithm_openly) end from result to

abbrev pub PassesAlgorithms : (end : ℕ) → Call (Unit {0})
PassesAlgorithms end from result to =
    PassesBody (many_openly (within_openly SEQUENCE algorithm_openly)) end from result to

-- ---- a SignedData (RFC 5652 5.1, 5.2)

-- it read a version, which is one of these
abbrev pub ReadsVersion : (allowed : List ℕ) → (end : ℕ) → Call ℕ
ReadsVersion allowed end from result to = ReadsBody (λ v. v ∷ []) (kept (version_in allowed)) end from result to

-- it passed version and digestAlgorithms, and the answer is the version
abbrev pub FindsVersion : (end : ℕ) → Call ℕ
FindsVersion end from result to =
    FindsFront (λ v parts. parts.0 ≡ v ∷ []) (λ _. ⊥) before_content end from result to

-- it passed one certificate or revocation list, which has one of these tags; those to the end of a body; or the element
-- that holds them, if it is here
abbrev pub PassesTagged : (tags : List ℕ) → (end : ℕ) → Call (Unit {0})
PassesTagged tags end from result to = PassesFront (tagged_openly tags) end from result to

abbrev pub PassesTaggedList : (tags : List ℕ) → (end : ℕ) → Call (Unit {0})
PassesTaggedList tags end from result to = PassesBody (many_openly (tagged_openly tags)) end from result to

abbrev pub PassesChoices : (tag : ℕ) → (tags : List ℕ) → (end : ℕ) → Call (Unit {0})
PassesChoices tag tags end from result to =
    PassesOptional (maybe_openly tag (many_openly (tagged_openly tags))) end from result to

-- it handed the octets of an OCTET STRING to a taker, which gained them
abbrev pub HandsOctets : (gains : List ℕ → Type 0) → (end : ℕ) → Call (Unit {0})
HandsOctets gains end from result to = HandsBody gains explicit_octets_openly end from result to

-- the same of eContent, if it is present; the answer is whether it is
abbrev pub HandsContent : (gains : List ℕ → Type 0) → (end : ℕ) → Call Bool
HandsContent gains end from result to =
    FindsOptional (Carries gains) (last_openly CONTENT explicit_octets_openly) end from result to

-- A call that keeps the contents of eContentType at the front of a room did this; there was room for the whole element;
-- its header states as many octets as were kept; and the room is as large as before.
pub record KeepsInRoom {X : Type 0} (Finding : Call X) (count : X → ℕ) (Stating : ℕ → OpenSpot → Type 0)
    (before after : List ℕ) (end : ℕ) (from : Moment) (result : Result X StreamFault) (to : Moment) : Type 0 where
  pub finds : Finding from result to
  pub room : IfOk result (λ x. HasRoom (length before) (count x))
  pub states : from.tells → IfOk result (λ x. Stating (count x) (body_to end from.place))
  pub size : length after ≡ length before

-- it kept the contents of eContentType, and the answer is how many octets they have
abbrev pub KeepsType : (before after : List ℕ) → (end : ℕ) → Call ℕ
KeepsType before after end from result to =
    KeepsInRoom (λ a r b. FindsFront (λ n id. id ≡ take n after) (IsTooLong (length before) OBJECT_IDENTIFIER)
    (within_openly OBJECT_IDENTIFIER (kept oid_in)) end a r b) (λ n. n) (Heads OBJECT_IDENTIFIER) before after end from
    result to

-- the same of the contents of an EncapsulatedContentInfo; the answer is also whether eContent is present, and a taker
-- gained that
abbrev pub KeepsEncapsulated : (gains : List ℕ → Type 0) → (before after : List ℕ) → (end : ℕ) → Call (ℕ × Bool)
KeepsEncapsulated gains before after end from result to =
    KeepsInRoom (λ a r b. FindsBody (IsKept gains after) (IsTooLong (length before) OBJECT_IDENTIFIER)
    encapsulated_openly end a r b) (λ x. x.0) (Heads OBJECT_IDENTIFIER) before after end from result to

-- of the whole element
abbrev pub KeepsNextContent : (gains : List ℕ → Type 0) → (before after : List ℕ) → (end : ℕ) → Call (ℕ × Bool)
KeepsNextContent gains before after end from result to =
    KeepsInRoom (λ a r b. FindsFront (IsKept gains after) (IsTypeTooLong (length before))
    (within_openly SEQUENCE encapsulated_openly) end a r b) (λ x. x.0) HeadsType before after end from result to

-- and of all that is before the signers of a SignedData
abbrev pub KeepsHead : (gains : List ℕ → Type 0) → (before after : List ℕ) → (end : ℕ) → Call (ℕ × Bool)
KeepsHead gains before after end from result to =
    KeepsInRoom (λ a r b. FindsFront (λ x parts. IsKept gains after x (encapsulated_of parts))
    (IsHeadTooLong (length before)) signed_head_in end a r b) (λ x. x.0) StatesType before after end from result to

-- it kept the contents of signerInfos and read them, or there was too little room for the whole element; and if it read
-- them, there was room for it
pub record KeepsSigners (limit end : ℕ) (from : Moment) (result : Result (List SignerValue) StreamFault) (to : Moment)
    : Type 0 where
  pub finds :
      FindsFront (λ signers value. value ≡ signers) (IsTooLong limit SET) (within_openly SET (kept signers_in)) end from
      result to
  pub room : IfOk result (λ ss. whole_length (length (signers_parts ss)) ≤ limit)

-- It read a SignedData, of which the answer is kept, and of which a taker gained the content; or there was too little
-- room, and why. And if it read one, there was room for the two whole elements that are kept.
pub record KeepsSigned (long : OpenSpot → Type 0) (reading : OpenBody SignedDataValue) (gains : List ℕ → Type 0)
    (limit end : ℕ) (from : Moment) (result : Result OpenedValue StreamFault) (to : Moment) : Type 0 where
  pub finds : FindsBody (IsOpened gains) long reading end from result to
  pub room : IfOk result (FitsRoom limit)

-- its contents, as one element, and as the content of a ContentInfo
abbrev pub OpensSigned : (gains : List ℕ → Type 0) → (room end : ℕ) → Call OpenedValue
OpensSigned gains room end from result to = KeepsSigned (IsSignedTooLong room) signed_in gains room end from result to

abbrev pub OpensExplicit : (gains : List ℕ → Type 0) → (room end : ℕ) → Call OpenedValue
OpensExplicit gains room end from result to =
    KeepsSigned (Inside SEQUENCE (IsSignedTooLong room)) explicit_signed_in gains room end from result to

abbrev pub OpensSignedContent : (gains : List ℕ → Type 0) → (room end : ℕ) → Call OpenedValue
OpensSignedContent gains room end from result to =
    KeepsSigned (Inside CONTENT (Inside SEQUENCE (IsSignedTooLong room))) signed_content_in gains room end from result
    to

-- ---- a ContentInfo (RFC 5652 3)

-- it passed a contentType, and the answer is whether that is id-signedData
abbrev pub FindsType : (end : ℕ) → Call Bool
FindsType end from result to =
    FindsFront (λ b id. is_same id_signed_data id ≡ b) (λ _. ⊥) (within_openly OBJECT_IDENTIFIER (kept oid_in)) end
    from result to

-- the answer is whether the octets of the body are those of id-signedData
abbrev pub SaysType : (end : ℕ) → Call Bool
SaysType end from result to =
    from.tells → IfOk result (λ b. is_same id_signed_data (body_of (body_to end from.place)) ≡ b)

-- it passed the content of another type
abbrev pub PassesOtherContent : (end : ℕ) → Call (Unit {0})
PassesOtherContent end from result to = PassesBody other_content_openly end from result to

-- The answer is what is kept of a ContentInfo, of which a taker gained the content; or there was too little room. And
-- if it read one, there was room for the two whole elements that are kept.
pub record OpensInfo (gains : List ℕ → Type 0) (limit end : ℕ) (from : Moment)
    (result : Result (Option OpenedValue) StreamFault) (to : Moment) : Type 0 where
  pub finds : FindsBody (OpensContent gains) (IsContentTooLong limit) content_in end from result to
  pub room : IfOk result (λ o. IfSome o (FitsRoom limit))

-- ---- a whole file

-- A call that asks for the end of the source did this; if it was known which octets are to come, it still is; and after
-- an answer none are.
pub record Closes {S X : Type 0} (Right : Type 0) (source : Ghosts S) (before : S) (result : Result X StreamFault)
    (after : S) : Type 0 where
  pub exact : Right
  pub telling : source.tells before → source.tells after
  pub end : source.tells before → IfOk result (λ _. source.rest after ≡ [])

-- it found that no octets are to come, or a fault
abbrev pub FindsLast : {S : Type 0} → Ghosts S → Reader → S → Result (Unit {0}) StreamFault → S → Type 0
FindsLast source reader before result after =
    Closes (Reads (λ u. u) result (source.tells before) (source.failures before) (source.failures after)
    (last_in (seen reader (source.rest before)))) source before result after

-- It read a file to its end: the answer is what is kept of a ContentInfo, of which a taker gained the content; or there
-- was too little room. And if it read one, there was room for the two whole elements that are kept.
pub record OpensFile {S : Type 0} (gains : List ℕ → Type 0) (limit : ℕ) (source : Ghosts S) (reader : Reader)
    (before : S) (result : Result (Option OpenedValue) StreamFault) (after : S) : Type 0 where
  pub exact : Finds (OpensContent gains) (IsFileTooLong limit (seen reader (source.rest before)).rest) result
      (source.tells before) (source.failures before) (source.failures after)
      (file_in (seen reader (source.rest before)).rest)
  pub room : IfOk result (λ o. IfSome o (FitsRoom limit))
  pub telling : source.tells before → source.tells after
  pub end : source.tells before → IfOk result (λ _. source.rest after ≡ [])

-- It is not stated what it read: the count of failures is right, and if it was known which octets are to come, it still
-- is.
pub record Counted {S X : Type 0} (source : Ghosts S) (before : S) (result : Result X StreamFault) (after : S)
    : Type 0 where
  pub count : CountsPass result (source.failures before) (source.failures after)
  pub telling : source.tells before → source.tells after

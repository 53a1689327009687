-- How a call says that it failed: in numbers, by its status, and as the line that the program prints.
use Rattle.std.specs.Prelude.{◌≡◌, ◌<◌, ◌≤◌, ◌⊎◌, ℕ, List, length, take, drop}
use Rattle.der_core.specs.declared.fault.Fault.{Fault}
use Rattle.cms_types.specs.declared.fault.CmsFault.TheVariants as cms
use Rattle.cms_compare.specs.declared.fault.CompareFault.{CompareFault}
use Rattle.cms_compare.specs.declared.fault.CompareRule.{CompareRule}
use Rattle.cms_compare.specs.declared.fault.CompareRule.TheVariants as compare
use Rattle.cms_compare.specs.declared.fault.Which.{Which}
use Rattle.cms_compare.specs.declared.fault.Which.TheVariants as which
use Rattle.tsp_requester.specs.declared.rules.MatchFault.{MatchFault}
use Rattle.tsp_requester.specs.declared.rules.MatchFault.TheVariants as match
use Rattle.tsp_requester.specs.declared.fault.AttachFault.{AttachFault}
use Rattle.tsp_requester.specs.declared.fault.AttachFault.TheVariants as attach
use Rattle.evidence_making.specs.declared.fault.LeafFault.{LeafFault}
use Rattle.evidence_making.specs.declared.fault.LeafFault.TheVariants as leaf
use Rattle.evidence_making.specs.declared.fault.MakeFault.{MakeFault}
use Rattle.evidence_making.specs.declared.fault.MakeFault.TheVariants as make
use Rattle.evidence_making.specs.declared.fault.StampFault.{StampFault}
use Rattle.evidence_making.specs.declared.fault.StampFault.TheVariants as stamp
use Rattle.cli_failures.specs.declared.failure.Failure.{Failure}
use Rattle.cli_failures.specs.declared.failure.Failure.TheVariants as failure
use Rattle.cli_failures.specs.declared.failure.Message.{Message}
use Rattle.cli_failures.specs.declared.failure.Message.TheVariants as message
use Rattle.cli_failures.specs.declared.status.Status.{Status}
use Rattle.cli_failures.specs.declared.status.Status.TheVariants as status
use Rattle.cli_failures.specs.Failures.{failure_text, status_of}
use Rattle.library_answers.specs.declared.answer.Answer.{Answer}
use Rattle.library_answers.specs.Numbers.{nothing, ruled, with_fault, kind_number, signer_rule_number, refused_numbers}
use Rattle.library_answers.specs.Numbers.{token_numbers, evidence_numbers}

-- M1 to M15: 77 is the letter M
abbrev pub fault_numbers : Fault → Answer
fault_numbers f = with_fault (ruled 3 77 (kind_number f.kind)) f

abbrev pub message_number : Message → ℕ
message_number message.Request = 1
message_number message.Response = 2

-- E1 to E4: 69 is the letter E. A file of another type has no fault
abbrev pub compare_rule_numbers : CompareRule → Answer
compare_rule_numbers (compare.Malformed (cms.Malformed fault)) = with_fault (ruled 3 69 1) fault
compare_rule_numbers (compare.Malformed cms.NotSignedData) = ruled 2 69 1
compare_rule_numbers (compare.Malformed cms.OutOfMemory) = ruled 2 69 1
compare_rule_numbers compare.NoSuchSigner = ruled 2 69 2
compare_rule_numbers compare.NoContent = ruled 2 69 3
compare_rule_numbers (compare.Rule rule) = record (ruled 2 69 4) { inner = signer_rule_number rule }

abbrev pub which_number : Which → ℕ
which_number which.First = 1
which_number which.Second = 2

abbrev pub uncompared_numbers : CompareFault → Answer
uncompared_numbers f = record (compare_rule_numbers f.rule) { line = which_number f.which }

-- P1 to P7: 80 is the letter P
abbrev pub match_numbers : MatchFault → Answer
match_numbers match.Status = ruled 2 80 1
match_numbers match.NoToken = ruled 2 80 2
match_numbers match.TokenMalformed = ruled 2 80 3
match_numbers match.Imprint = ruled 2 80 4
match_numbers match.Nonce = ruled 2 80 5
match_numbers match.Policy = ruled 2 80 6
match_numbers match.CertMissing = ruled 2 80 7

-- A1 to A5: 65 is the letter A. A file of another type has no fault; A6, a lack of memory, is no verdict
abbrev pub attach_numbers : AttachFault → Answer
attach_numbers (attach.Malformed (cms.Malformed fault)) = with_fault (ruled 3 65 1) fault
attach_numbers (attach.Malformed cms.NotSignedData) = ruled 2 65 1
attach_numbers (attach.Malformed cms.OutOfMemory) = ruled 2 65 1
attach_numbers attach.NoSuchSigner = ruled 2 65 2
attach_numbers attach.TokenMalformed = ruled 2 65 3
attach_numbers attach.ImprintDiffers = ruled 2 65 4
attach_numbers attach.TooLong = ruled 2 65 5
attach_numbers attach.WriteFailed = nothing

-- U3, U4 and U7 to U10: 85 is the letter U, and 86 is V. A lack of memory is no verdict
abbrev pub stamping_numbers : StampFault → Answer
stamping_numbers stamp.TokenMalformed = ruled 2 85 7
stamping_numbers stamp.ImprintDiffers = ruled 2 85 8
stamping_numbers stamp.Order = ruled 2 85 9

abbrev pub making_numbers : MakeFault → Answer
making_numbers make.TooLong = ruled 2 85 10
making_numbers make.OutOfMemory = nothing

abbrev pub leaf_numbers : LeafFault → Answer
leaf_numbers (leaf.Malformed fault) = with_fault (ruled 3 86 1) fault
leaf_numbers leaf.NoStamp = ruled 2 85 3
leaf_numbers leaf.Unnamed = ruled 2 85 11
leaf_numbers leaf.OutOfMemory = nothing

abbrev pub failure_numbers : Failure → Answer
failure_numbers (failure.Malformed fault) = fault_numbers fault
failure_numbers (failure.MalformedMessage m fault) = record (fault_numbers fault) { line = message_number m }
failure_numbers failure.NotSignedData = ruled 2 0 0
failure_numbers (failure.Unmatched why) = match_numbers why
failure_numbers (failure.Refused why) = refused_numbers why
failure_numbers failure.Different = ruled 8 0 0
failure_numbers failure.Collision = ruled 9 0 0
failure_numbers (failure.Uncompared why) = uncompared_numbers why
failure_numbers (failure.Unattached why) = attach_numbers why
failure_numbers (failure.Unstamped why) = token_numbers why
failure_numbers (failure.Unshown why) = evidence_numbers why
failure_numbers (failure.Unevidenced why) = record (evidence_numbers why.refused) { line = 2 }
failure_numbers (failure.Unstamping why) = stamping_numbers why
failure_numbers (failure.Unmade why) = making_numbers why
failure_numbers (failure.Unrenewable why) = leaf_numbers why
failure_numbers failure.Mixed = ruled 2 85 4
failure_numbers why = nothing

-- one more than the exit status of the program
abbrev pub status_number : Status → ℕ
status_number status.Done = 1
status_number status.Refused = 2
status_number status.Malformed = 3
status_number status.Usage = 4
status_number status.Failed = 5

-- the same, but for a lack of memory
abbrev pub failure_status : Failure → ℕ
failure_status failure.Memory = 7
failure_status why = status_number (status_of why)

-- In what follows, `before` is what the room for a text held before the call, `after` what it holds then, and `size`
-- the length that the text has. Behind a text the room is as it was.

abbrev pub Holds : (text before : List ℕ) (size : ℕ) (after : List ℕ) → Type 0
Holds text before size after = (take size after ≡ text) × (drop size after ≡ drop size before)

-- the status of a verdict, and its line if there is room for any; or there is room, but, with 6, too little for a line
-- of this size, or, with 7, no memory to make it, and the room is as it was
abbrev pub IsLine : (line : List ℕ) (verdict status : ℕ) (before : List ℕ) (size : ℕ) (after : List ℕ) → Type 0
IsLine line verdict status before size after =
    ((status ≡ verdict) × (0 < length before → (size ≡ length line) × Holds line before size after)
    × (length before ≡ 0 → size ≡ 0))
    ⊎ ((0 < length before) × (after ≡ before)
    × (((status ≡ 6) × (size ≡ length line) × (length before < length line)) ⊎ ((status ≡ 7) × (size ≡ 0))))

-- the text, with this status; or, with 6, it has this size and there is too little room, which is as it was
abbrev pub IsPut : (text : List ℕ) (told status : ℕ) (before : List ℕ) (size : ℕ) (after : List ℕ) → Type 0
IsPut text told status before size after = (size ≡ length text) × (((status ≡ told) × Holds text before size after)
    ⊎ ((status ≡ 6) × (length before < length text) × (after ≡ before)))

-- what was made, with status 1, or that there is too little room for it
abbrev pub IsMade : (octets : List ℕ) (said : Answer)
    (status : ℕ) (before : List ℕ) (size : ℕ) (after : List ℕ) → Type 0
IsMade octets said status before size after = (said ≡ ruled 10 0 0) × IsPut octets 1 status before size after

-- why nothing was made, in numbers and by the status; and the line that says so if there is room for it, unless there
-- was no memory to make it, and then there is no text; without it the room is as it was
abbrev pub IsUnmade : Failure → (said : Answer) (status : ℕ) (before : List ℕ) (size : ℕ) (after : List ℕ) → Type 0
IsUnmade why said status before size after = (said ≡ failure_numbers why) × (status ≡ failure_status why)
    × (((size ≡ length (failure_text why)) × (size ≤ length before → Holds (failure_text why) before size after)
    × (length before < size → after ≡ before)) ⊎ ((size ≡ 0) × (after ≡ before)))

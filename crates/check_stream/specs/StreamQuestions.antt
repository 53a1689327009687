-- What is written for the questions of a file that comes from a source, and what is returned. Begin here.
--
-- If it is known which octets the source has to give, the text is that of the questions of these octets, in the words
-- of check_questions/specs/FileQuestions.antt and QuestionsText.antt. If they don't encode a ContentInfo, the fault
-- that is named holds openly: it is a fault of the octets, or it is met at an open place of them, so it may be named
-- before their end.
use Rattle.std.specs.Prelude.{◌≡◌, ⊤, ◌⊎◌, ℕ, List, Result, Ok, Err}
use Rattle.devices.specs.Device.{raised}
use Rattle.der_core.specs.OpenFaults.{FaultsOpenly}
use Rattle.der_core.specs.Grammar.{file}
use Rattle.der_grammar.specs.Table.{content_info}
use Rattle.der_grammar.specs.TooLarge.{IsTooLarge}
use Rattle.cms_types.specs.SignerValue.{SignerValue}
use Rattle.cms_types.specs.SignedDataValue.{EncodesAnotherType}
use Rattle.trust_lists.specs.Entries.{EntryValue}
use Rattle.trust_lists.specs.Asking.{Asked}
use Rattle.check_questions.specs.declared.fault.QuestionsFault.TheVariants.{Malformed, NotSignedData, WriteFailed}
use Rattle.check_questions.specs.FileQuestions.{AreQuestions, AreQuestionsOf}
use Rattle.check_questions.specs.QuestionsText.{questions_text}
use Rattle.check_questions.specs.Written.{IsWrittenWith, IsUntouched, WritesQuestions, EncodesNothing}
use Rattle.check_stream.specs.declared.fault.StreamQuestionsFault.{StreamQuestionsFault}
use Rattle.check_stream.specs.declared.fault.StreamQuestionsFault.TheVariants.{Questions, ReadFailed, TooLong}

-- what is returned
abbrev pub Returned : Type 0
Returned = Result (Unit {0}) StreamQuestionsFault

-- What is returned for a file of these octets, and what was then written: the text of its questions, or a beginning of
-- it after a failure of the sink; nothing for a fault, for another type, after a failure of the source, and if the file
-- states more than there is room for.
abbrev pub IsWrittenOf : (trust : List EntryValue) → (octets : List ℕ) → (room : ℕ) → Returned → (tells : Type 0)
    → (taken taken' : List ℕ) → (count count' : ℕ) → Type 0
IsWrittenOf trust octets room (Ok u) tells taken taken' count count' =
    WritesQuestions trust octets (Ok u) tells taken taken' count count'
IsWrittenOf trust octets room (Err (Questions WriteFailed)) tells taken taken' count count' =
    WritesQuestions trust octets (Err WriteFailed) tells taken taken' count count'
IsWrittenOf trust octets room (Err (Questions (Malformed f))) tells taken taken' count count' =
    FaultsOpenly (file content_info) octets f × (EncodesNothing octets × IsUntouched tells taken taken' count count')
IsWrittenOf trust octets room (Err (Questions NotSignedData)) tells taken taken' count count' =
    EncodesAnotherType octets × IsUntouched tells taken taken' count count'
IsWrittenOf trust octets room (Err ReadFailed) tells taken taken' count count' =
    IsUntouched tells taken taken' count count'
IsWrittenOf trust octets room (Err TooLong) tells taken taken' count count' =
    IsTooLarge octets room × IsUntouched tells taken taken' count count'

-- the whole text was written, or after a failure of the sink a beginning of it; nothing else is returned
abbrev pub IsWrittenAs : (text : List ℕ) → Returned → (tells : Type 0) → (taken taken' : List ℕ)
    → (count count' : ℕ) → Type 0
IsWrittenAs text (Ok u) tells taken taken' count count' = IsWrittenWith text (Ok u) tells taken taken' count count'
IsWrittenAs text (Err (Questions f)) tells taken taken' count count' =
    IsWrittenWith text (Err f) tells taken taken' count count'
IsWrittenAs text (Err ReadFailed) tells taken taken' count count' = ⊥
IsWrittenAs text (Err TooLong) tells taken taken' count count' = ⊥

-- the source failed, or there was too little room
abbrev pub IsCutShort : Returned → Type 0
IsCutShort (Err ReadFailed) = ⊤
IsCutShort (Err TooLong) = ⊤
IsCutShort _ = ⊥

abbrev pub IsMalformed : Returned → Type 0
IsMalformed (Err (Questions (Malformed f))) = ⊤
IsMalformed _ = ⊥

-- it may be returned before the file's end
abbrev pub IsEarly : Returned → Type 0
IsEarly (Err (Questions (Malformed f))) = ⊤
IsEarly (Err ReadFailed) = ⊤
IsEarly (Err TooLong) = ⊤
IsEarly _ = ⊥

-- it is returned before the first octet of the text is written
abbrev pub IsBeforeText : Returned → Type 0
IsBeforeText (Ok u) = ⊥
IsBeforeText (Err (Questions WriteFailed)) = ⊥
IsBeforeText _ = ⊤

-- The text of questions about some signers was written, or a beginning of it, unless this is returned before the text.
-- If it is known that the file has these octets, they are its questions.
abbrev pub IsTextOrBefore : (trust : List EntryValue) → (known : Type 0) → (octets : List ℕ) → Returned
    → (tells : Type 0) → (taken taken' : List ℕ) → (count count' : ℕ) → Type 0
IsTextOrBefore trust known octets r tells taken taken' count count' = IsBeforeText r
    ⊎ ((signers : List SignerValue) × (qs : List Asked) × AreQuestions trust signers qs
    × (known → AreQuestionsOf trust octets qs) × IsWrittenAs (questions_text qs) r tells taken taken' count count')

-- the source's count of failures is raised if it failed, and otherwise unchanged
abbrev pub CountsReads : Returned → (count count' : ℕ) → Type 0
CountsReads (Err ReadFailed) count count' = count' ≡ raised count
CountsReads _ count count' = count' ≡ count

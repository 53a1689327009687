-- Why the questions of a file were not printed, and what was then printed.
use Rattle.std.proofs.Common.{◌≡◌, ℕ, List, Option, Some, None, Ok, Err, inl, inr}
use Rattle.std.specs.Borrow.{Bor}
use Rattle.std.specs.Io.KnownBytes.{Appends}
use Rattle.der_grammar.specs.TooLarge.{IsTooLarge}
use Rattle.trust_lists.specs.Entries.{EntryValue}
use Rattle.check_questions.specs.declared.fault.QuestionsFault.TheVariants as fault
use Rattle.check_stream.specs.declared.fault.StreamQuestionsFault.{StreamQuestionsFault}
use Rattle.check_stream.specs.declared.fault.StreamQuestionsFault.TheVariants as stream
use Rattle.cli_failures.specs.declared.failure.Failure.{Failure}
use Rattle.cli_tasks.specs.declared.task.QuestionsWords.{QuestionsWords}
use Rattle.cli_commands.specs.Asking.{IsTooLong, IsUnasked, AsksPass, ShowsQuestions, ShowsPart, AsksNot}
use Rattle.cli_commands.specs.Asking.{KeepsUnlessFailed, failure_of}
use Rattle.cli_commands.specs.Checking.{IfKnown}
use Rattle.cli_commands.specs.Lists.{IsTrustOf}
use Rattle.cli_commands.specs.Rereading.{IsLimitFor, Sayings}

-- a pass over a file that was opened, with as much room as the words allow
module _ {F : Type 0} (holds : F → Option (List ℕ)) (says : Sayings F) (words : QuestionsWords)
    (trust : List EntryValue) (opened last : F) (limit : ℕ) (trusted : IsTrustOf holds trust)
    (allowed : IsLimitFor says opened words.buffer limit)
    (before after : Option (List ℕ)) where
  pub shows : (u : Unit {0}) → AsksPass trust (holds last) limit (Ok u) before after
      → (text : List ℕ) × ShowsQuestions holds text × Appends before after text
  shows u ((text, is, took), none) = (text, (trust, last, trusted, is), took)

  by_words : (octets : List ℕ) (why : StreamQuestionsFault) → IsUnasked trust (λ o. IsTooLarge o limit) octets why
      → IsUnasked trust (IsTooLong says words opened) octets why
  by_words octets (stream.Questions (fault.Malformed f)) is = is
  by_words octets (stream.Questions fault.NotSignedData) is = is
  by_words octets (stream.Questions fault.WriteFailed) is = is
  by_words octets stream.ReadFailed is = is
  by_words octets stream.TooLong is = (limit, allowed, is)

  if_known : (held : Option (List ℕ)) (why : StreamQuestionsFault)
      → IfKnown held (λ octets. IsUnasked trust (λ o. IsTooLarge o limit) octets why)
      → IfKnown held (λ octets. IsUnasked trust (IsTooLong says words opened) octets why)
  if_known None why is = tt
  if_known (Some octets) why is = λ are. by_words octets why (is are)

  -- what it printed: nothing, or a beginning of the text
  pub printed_part : (why : StreamQuestionsFault) (f : Failure)
      → AsksPass trust (holds last) limit (Err why) before after
      → f ≡ failure_of words.file why → ShowsPart holds before after f
  printed_part (stream.Questions (fault.Malformed g)) f (took, is) e = inl took
  printed_part (stream.Questions fault.NotSignedData) f (took, is) e = inl took
  printed_part (stream.Questions fault.WriteFailed) f ((text, of, begun), is) e =
      inr (e, (text, (trust, last, trusted, of), begun))
  printed_part stream.ReadFailed f (took, is) e = inl took
  printed_part stream.TooLong f (took, is) e = inl took

  pub not_asked : (why : StreamQuestionsFault) (f : Failure) → AsksPass trust (holds last) limit (Err why) before after
      → f ≡ failure_of words.file why → AsksNot holds says words f
  not_asked why f (took, is) e = inr (inr (trust, opened, last, why, trusted, if_known (holds last) why is, e))

pub kept_unless_failed : (trust : List EntryValue) (held : Option (List ℕ)) (room : ℕ) (why : StreamQuestionsFault)
    (path : Bor (List ℕ)) (f : Failure)
    (before after : Option (List ℕ)) → AsksPass trust held room (Err why) before after → f ≡ failure_of path why
    → KeepsUnlessFailed before after f
kept_unless_failed trust held room (stream.Questions (fault.Malformed g)) path f before after (took, is) e works = took
kept_unless_failed trust held room (stream.Questions fault.NotSignedData) path f before after (took, is) e works = took
kept_unless_failed trust held room (stream.Questions fault.WriteFailed) path f before after (took, is) e works =
    absurd (works e)
kept_unless_failed trust held room stream.ReadFailed path f before after (took, is) e works = took
kept_unless_failed trust held room stream.TooLong path f before after (took, is) e works = took

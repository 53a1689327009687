-- The values that the parser of the command line found, and what it says instead of them.
use Rattle.std.specs.Prelude.{◌≡◌, ◌<◌, ◌≤◌, ◌^◌, ℕ, Bool, true, false, List, Option, None, Some, option_map, unwrap_or}
use Rattle.std.specs.Prelude.{codes, IfSome}
use Rattle.std.specs.Borrow.{Bor}
use Rattle.std.specs.Str.Parse.{IsNumeral, digits_value, without_leading_plus}
use Rattle.clap.specs.Matches.{first_value, one_text}
use Rattle.clap.specs.declared.parser.matches.Found.{Found}
use Rattle.clap.specs.declared.error.kind.ErrorKind.{ErrorKind}
use Rattle.clap.specs.declared.error.kind.ErrorKind.TheVariants.{DisplayHelp, DisplayVersion}
use Rattle.cli_failures.specs.declared.failure.Failure.{Failure}
use Rattle.cli_failures.specs.declared.failure.Failure.TheVariants as failure
use Rattle.cli_tasks.specs.declared.task.AttachWords.{AttachWords}
use Rattle.cli_tasks.specs.declared.task.CheckWords.{CheckWords}
use Rattle.cli_tasks.specs.declared.task.CompareWords.{CompareWords}
use Rattle.cli_tasks.specs.declared.task.FitWords.{FitWords}
use Rattle.cli_tasks.specs.declared.task.MatchWords.{MatchWords}
use Rattle.cli_tasks.specs.declared.task.MigrateWords.{MigrateWords}
use Rattle.cli_tasks.specs.declared.task.QuestionsWords.{QuestionsWords}
use Rattle.cli_tasks.specs.declared.task.RequestWords.{RequestWords}
use Rattle.cli_tasks.specs.declared.task.StampQuestionsWords.{StampQuestionsWords}
use Rattle.cli_tasks.specs.declared.task.StampWords.{StampWords}
use Rattle.cli_tasks.specs.declared.task.Stamped.{Stamped}
use Rattle.cli_tasks.specs.declared.task.Stamped.TheVariants as stamped
use Rattle.cli_tasks.specs.declared.task.Task.{Task}
use Rattle.cli_tasks.specs.declared.task.Task.TheVariants as task
use Rattle.cli_tasks.specs.declared.task.TextTask.{TextTask}
use Rattle.cli_tasks.specs.declared.task.TextTask.TheVariants as text
use Rattle.cli_words.specs.declared.meaning.Meaning.{Meaning}
use Rattle.cli_words.specs.declared.meaning.Meaning.TheVariants as meaning

-- help and the version were requested; any other kind is a fault of the words
abbrev pub asks_for_help : ErrorKind → Bool
asks_for_help DisplayHelp = true
asks_for_help DisplayVersion = true
asks_for_help _ = false

-- a text was requested, and no task
abbrev pub IsHelp : Meaning → Type 0
IsHelp (meaning.Help text) = Unit {0}
IsHelp (meaning.Task task) = ⊥
IsHelp (meaning.Evidence task) = ⊥
IsHelp (meaning.Many many) = ⊥

-- a fault of the words, as a text reports it
abbrev pub IsWords : Failure → Type 0
IsWords (failure.Words text) = Unit {0}
IsWords _ = ⊥

-- whether a word without a value is on the command line
pub record IsFlagIn (given : Found) (name : List ℕ) (flag : Bool) : Type 0 where
  pub absent : one_text given name ≡ None → flag ≡ false
  pub set : one_text given name ≡ Some (codes "true") → flag ≡ true
  pub unset : one_text given name ≡ Some (codes "false") → flag ≡ false

-- the number that the value of an argument spells in decimal digits, if it is on the command line and is below 2^64
pub record IsNumberIn (given : Found) (name : List ℕ) (number : Option ℕ) : Type 0 where
  pub absent : one_text given name ≡ None → number ≡ None
  pub spelled : (t : List ℕ) (n : ℕ) → one_text given name ≡ Some t → number ≡ Some n
      → n ≡ digits_value 10 (without_leading_plus t)
  pub unspelled : (t : List ℕ) → one_text given name ≡ Some t → number ≡ None
      → IsNumeral 10 (without_leading_plus t) × (digits_value 10 (without_leading_plus t) < 2 ^ 64) → ⊥

-- the number of a signer: that of the argument, and 1 if the argument is absent
abbrev pub IsSignerIn : Found → (name : List ℕ) → ℕ → Type 0
IsSignerIn given name n = (number : Option ℕ) × IsNumberIn given name number × (n ≡ unwrap_or number 1)

-- how many octets may be kept of a file that is read in pieces: the number of the argument, if it is on the command
-- line; it is at least 1 and at most 2^30
abbrev pub IsBufferIn : Found → Option ℕ → Type 0
IsBufferIn given number = IsNumberIn given (codes "buffer") number × IfSome number (λ n. (0 < n) × (n ≤ 2 ^ 30))

-- what is to be stamped: a digest, if neither a file nor a signer is named, or the signature of a signer in a file, if
-- no digest is given
abbrev pub IsStampedIn : Found → Stamped → Type 0
IsStampedIn given (stamped.Digest digits) = (first_value given (codes "digest") ≡ Some digits.now)
    × (first_value given (codes "of") ≡ None) × (first_value given (codes "signer") ≡ None)
IsStampedIn given (stamped.Signature path number) = (first_value given (codes "digest") ≡ None)
    × (first_value given (codes "of") ≡ Some path.now) × IsSignerIn given (codes "signer") number

-- the values of a request are those of the arguments of their names
pub record IsRequestIn (given : Found) (words : RequestWords) : Type 0 where
  pub alg : first_value given (codes "alg") ≡ Some words.alg.now
  pub stamped : IsStampedIn given words.stamped
  pub policy : option_map (λ s. s.now) words.policy ≡ first_value given (codes "policy")
  pub nonce : option_map (λ s. s.now) words.nonce ≡ first_value given (codes "nonce")
  pub cert : IsFlagIn given (codes "cert") words.cert
  pub out : first_value given (codes "OUT") ≡ Some words.out.now

-- the same for the files that are compared
pub record IsFitIn (given : Found) (words : FitWords) : Type 0 where
  pub file : first_value given (codes "FILE") ≡ Some words.file.now
  pub content : option_map (λ s. s.now) words.content ≡ first_value given (codes "content")
  pub sha1 : IsFlagIn given (codes "sha1") words.sha1

-- the same for a request and a response
pub record IsMatchIn (given : Found) (words : MatchWords) : Type 0 where
  pub request : first_value given (codes "REQUEST") ≡ Some words.request.now
  pub response : first_value given (codes "RESPONSE") ≡ Some words.response.now
  pub token : option_map (λ s. s.now) words.token ≡ first_value given (codes "TOKEN")

-- the same for a trust list and the file that it goes into
pub record IsMigrateIn (given : Found) (words : MigrateWords) : Type 0 where
  pub list : first_value given (codes "LIST") ≡ Some words.list.now
  pub out : first_value given (codes "OUT") ≡ Some words.out.now

-- nothing of an evidence record is on the command line
pub record IsWithoutRecord (given : Found) : Type 0 where
  pub no_path : first_value given (codes "evidence") ≡ None
  pub no_end : first_value given (codes "end") ≡ None
  pub no_moment : first_value given (codes "at") ≡ None

-- the same for the lists that files are checked with, a content and what is allowed, under no record
pub record AreCheckValuesIn (given : Found) (trust answers : Bor (List ℕ)) (content : Option (Bor (List ℕ)))
    (sha1 : Bool) (buffer : Option ℕ) : Type 0 where
  pub alone : IsWithoutRecord given
  pub trust_named : first_value given (codes "trust") ≡ Some trust.now
  pub answers_named : first_value given (codes "answers") ≡ Some answers.now
  pub content_named : option_map (λ s. s.now) content ≡ first_value given (codes "content")
  pub allowed : IsFlagIn given (codes "sha1") sha1
  pub kept : IsBufferIn given buffer

-- the same for a file that is checked
abbrev pub IsCheckIn : Found → CheckWords → Type 0
IsCheckIn given words = AreCheckValuesIn given words.trust words.answers words.content words.sha1 words.buffer
    × (first_value given (codes "FILE") ≡ Some words.file.now)

-- the same for a file whose questions are printed
pub record IsQuestionsIn (given : Found) (words : QuestionsWords) : Type 0 where
  pub trust : first_value given (codes "trust") ≡ Some words.trust.now
  pub buffer : IsBufferIn given words.buffer
  pub file : first_value given (codes "FILE") ≡ Some words.file.now

-- the same for two signatures that are compared
pub record IsCompareIn (given : Found) (words : CompareWords) : Type 0 where
  pub first_file : first_value given (codes "A") ≡ Some words.first_file.now
  pub first_signer : IsSignerIn given (codes "first") words.first_signer
  pub second_file : first_value given (codes "B") ≡ Some words.second_file.now
  pub second_signer : IsSignerIn given (codes "second") words.second_signer

-- the same for a token that is attached
pub record IsAttachIn (given : Found) (words : AttachWords) : Type 0 where
  pub signer : IsNumberIn given (codes "signer") (Some words.signer)
  pub token : first_value given (codes "token") ≡ Some words.token.now
  pub file : first_value given (codes "FILE") ≡ Some words.file.now
  pub out : first_value given (codes "OUT") ≡ Some words.out.now

-- the same for a stamp that is checked
pub record IsStampIn (given : Found) (words : StampWords) : Type 0 where
  pub trust : first_value given (codes "trust") ≡ Some words.trust.now
  pub answers : first_value given (codes "answers") ≡ Some words.answers.now
  pub sha1 : IsFlagIn given (codes "sha1") words.sha1
  pub stamp : first_value given (codes "STAMP") ≡ Some words.stamp.now
  pub stamped : first_value given (codes "DATA") ≡ Some words.data.now

-- the same for a stamp whose questions are printed
pub record IsStampQuestionsIn (given : Found) (words : StampQuestionsWords) : Type 0 where
  pub trust : first_value given (codes "trust") ≡ Some words.trust.now
  pub stamp : first_value given (codes "STAMP") ≡ Some words.stamp.now

-- the same for a file that is shown as KIND says
abbrev pub IsShownIn : Found → TextTask → Type 0
IsShownIn given (text.ShowRequest path) = (first_value given (codes "KIND") ≡ Some (codes "request"))
    × (first_value given (codes "FILE") ≡ Some path.now)
IsShownIn given (text.ShowResponse path) = (first_value given (codes "KIND") ≡ Some (codes "response"))
    × (first_value given (codes "FILE") ≡ Some path.now)
IsShownIn given (text.ShowTst path) = (first_value given (codes "KIND") ≡ Some (codes "tst"))
    × (first_value given (codes "FILE") ≡ Some path.now)
IsShownIn given (text.ShowSigned path) = (first_value given (codes "KIND") ≡ Some (codes "signed"))
    × (first_value given (codes "FILE") ≡ Some path.now)
IsShownIn given (text.ShowEvidence path) = (first_value given (codes "KIND") ≡ Some (codes "evidence"))
    × (first_value given (codes "FILE") ≡ Some path.now)
IsShownIn given _ = ⊥

-- the values of a task are those of the arguments of their names
abbrev pub IsTextTaskIn : Found → TextTask → Type 0
IsTextTaskIn given (text.Request words) = IsRequestIn given words
IsTextTaskIn given (text.ShowRequest path) = IsShownIn given (text.ShowRequest path)
IsTextTaskIn given (text.ShowResponse path) = IsShownIn given (text.ShowResponse path)
IsTextTaskIn given (text.ShowTst path) = IsShownIn given (text.ShowTst path)
IsTextTaskIn given (text.ShowSigned path) = IsShownIn given (text.ShowSigned path)
IsTextTaskIn given (text.ShowEvidence path) = IsShownIn given (text.ShowEvidence path)
IsTextTaskIn given (text.ShowCertificate path) = first_value given (codes "FILE") ≡ Some path.now
IsTextTaskIn given (text.Fit words) = IsFitIn given words
IsTextTaskIn given (text.Match words) = IsMatchIn given words
IsTextTaskIn given (text.Migrate words) = IsMigrateIn given words
IsTextTaskIn given (text.Check words) = IsCheckIn given words
IsTextTaskIn given (text.Compare words) = IsCompareIn given words
IsTextTaskIn given (text.Attach words) = IsAttachIn given words
IsTextTaskIn given (text.CheckStamp words) = IsStampIn given words
IsTextTaskIn given (text.AskStamp words) = IsStampQuestionsIn given words

-- the same for every task
abbrev pub IsTaskIn : Found → Task → Type 0
IsTaskIn given (task.Questions words) = IsQuestionsIn given words
IsTaskIn given (task.Text t) = IsTextTaskIn given t

-- the command that asks for a task whose text is made before it is printed; of those about stamps, behind `stamp`
abbrev pub text_command_of : TextTask → List ℕ
text_command_of (text.Request words) = codes "request"
text_command_of (text.ShowRequest path) = codes "show"
text_command_of (text.ShowResponse path) = codes "show"
text_command_of (text.ShowTst path) = codes "show"
text_command_of (text.ShowSigned path) = codes "show"
text_command_of (text.ShowEvidence path) = codes "show"
text_command_of (text.ShowCertificate path) = codes "cert"
text_command_of (text.Fit words) = codes "fit"
text_command_of (text.Match words) = codes "match"
text_command_of (text.Migrate words) = codes "migrate"
text_command_of (text.Check words) = codes "check"
text_command_of (text.Compare words) = codes "compare"
text_command_of (text.Attach words) = codes "attach"
text_command_of (text.CheckStamp words) = codes "check"
text_command_of (text.AskStamp words) = codes "questions"

-- the command that asks for a task
abbrev pub command_of : Task → List ℕ
command_of (task.Questions words) = codes "questions"
command_of (task.Text t) = text_command_of t

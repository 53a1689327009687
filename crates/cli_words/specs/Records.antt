-- The values that the parser of the command line found for a command about evidence records.
use Rattle.std.specs.Prelude.{◌≡◌, ◌≢◌, ℕ, false, List, [], None, Some, map, option_map, unwrap_or, codes}
use Rattle.clap.specs.Matches.{first_value, matched_of, raw_values}
use Rattle.clap.specs.declared.parser.matches.Found.{Found}
use Rattle.cli_tasks.specs.declared.task.EvidenceQuestionsWords.{EvidenceQuestionsWords}
use Rattle.cli_tasks.specs.declared.task.EvidenceTask.{EvidenceTask}
use Rattle.cli_tasks.specs.declared.task.EvidenceTask.TheVariants as task
use Rattle.cli_tasks.specs.declared.task.EvidenceWords.{EvidenceWords}
use Rattle.cli_tasks.specs.declared.task.MakeWords.{MakeWords}
use Rattle.cli_tasks.specs.declared.task.RehashRequestWords.{RehashRequestWords}
use Rattle.cli_tasks.specs.declared.task.RehashWords.{RehashWords}
use Rattle.cli_tasks.specs.declared.task.RenewWords.{RenewWords}
use Rattle.cli_tasks.specs.declared.task.RenewalRequestWords.{RenewalRequestWords}
use Rattle.cli_tasks.specs.declared.task.RootRequestWords.{RootRequestWords}
use Rattle.cli_tasks.specs.declared.task.UnderWords.{UnderWords}
use Rattle.cli_words.specs.Words.{IsBufferIn, IsFlagIn}

-- all values of an argument, in the order of the words; none if it isn't on the command line
abbrev pub all_values : Found → (name : List ℕ) → List (List ℕ)
all_values given name = unwrap_or (option_map raw_values (matched_of given name)) []

-- the values of a record that is checked are those of the arguments of their names; it is checked for some file
pub record IsEvidenceIn (given : Found) (words : EvidenceWords) : Type 0 where
  pub trust : first_value given (codes "trust") ≡ Some words.trust.now
  pub answers : first_value given (codes "answers") ≡ Some words.answers.now
  pub ends : map (λ s. s.now) words.ends.items ≡ all_values given (codes "end")
  pub at : option_map (λ s. s.now) words.at ≡ first_value given (codes "at")
  pub whole : IsFlagIn given (codes "whole") words.whole
  pub path : first_value given (codes "RECORD") ≡ Some words.record.now
  pub covered : map (λ s. s.now) words.data.items ≡ all_values given (codes "DATA")
  pub some : words.data.items ≢ []

-- the same for a signed file that is checked under a record: the words don't allow SHA-1
pub record IsUnderIn (given : Found) (words : UnderWords) : Type 0 where
  pub trust : first_value given (codes "trust") ≡ Some words.trust.now
  pub answers : first_value given (codes "answers") ≡ Some words.answers.now
  pub path : first_value given (codes "evidence") ≡ Some words.record.now
  pub ends : map (λ s. s.now) words.ends.items ≡ all_values given (codes "end")
  pub at : option_map (λ s. s.now) words.at ≡ first_value given (codes "at")
  pub content : option_map (λ s. s.now) words.content ≡ first_value given (codes "content")
  pub no_sha1 : IsFlagIn given (codes "sha1") false
  pub buffer : IsBufferIn given words.buffer
  pub file : first_value given (codes "FILE") ≡ Some words.file.now

-- the same for a record whose questions are printed
pub record IsEvidenceQuestionsIn (given : Found) (words : EvidenceQuestionsWords) : Type 0 where
  pub trust : first_value given (codes "trust") ≡ Some words.trust.now
  pub path : first_value given (codes "RECORD") ≡ Some words.record.now

-- the same for a request for a stamp of the root of a tree
pub record IsRootRequestIn (given : Found) (words : RootRequestWords) : Type 0 where
  pub alg : first_value given (codes "alg") ≡ Some words.alg.now
  pub policy : option_map (λ s. s.now) words.policy ≡ first_value given (codes "policy")
  pub nonce : option_map (λ s. s.now) words.nonce ≡ first_value given (codes "nonce")
  pub cert : IsFlagIn given (codes "cert") words.cert
  pub sums : first_value given (codes "SUMS") ≡ Some words.sums.now
  pub out : first_value given (codes "OUT") ≡ Some words.out.now

-- the same for records that are made by such a stamp
pub record IsMakeIn (given : Found) (words : MakeWords) : Type 0 where
  pub alg : option_map (λ s. s.now) words.alg ≡ first_value given (codes "alg")
  pub token : first_value given (codes "token") ≡ Some words.token.now
  pub into : first_value given (codes "into") ≡ Some words.into.now
  pub sums : first_value given (codes "SUMS") ≡ Some words.sums.now

-- the same for a request for a stamp by which records are renewed: there is some record, and no token
pub record IsRenewalRequestIn (given : Found) (words : RenewalRequestWords) : Type 0 where
  pub paths : map (λ s. s.now) words.records.items ≡ all_values given (codes "RECORD")
  pub some : words.records.items ≢ []
  pub out : first_value given (codes "request") ≡ Some words.out.now
  pub no_token : first_value given (codes "token") ≡ None

-- the same for records that are renewed by such a stamp: there is some record, and no request
pub record IsRenewIn (given : Found) (words : RenewWords) : Type 0 where
  pub paths : map (λ s. s.now) words.records.items ≡ all_values given (codes "RECORD")
  pub some : words.records.items ≢ []
  pub token : first_value given (codes "token") ≡ Some words.token.now
  pub no_request : first_value given (codes "request") ≡ None

-- the same for a request for a stamp by which records get a new chain: there is no token
pub record IsRehashRequestIn (given : Found) (words : RehashRequestWords) : Type 0 where
  pub alg : first_value given (codes "alg") ≡ Some words.alg.now
  pub sums : first_value given (codes "SUMS") ≡ Some words.sums.now
  pub into : first_value given (codes "into") ≡ Some words.into.now
  pub alone : IsFlagIn given (codes "alone") words.alone
  pub out : first_value given (codes "request") ≡ Some words.out.now
  pub no_token : first_value given (codes "token") ≡ None

-- the same for records that get a new chain by such a stamp: there is no request
pub record IsRehashIn (given : Found) (words : RehashWords) : Type 0 where
  pub alg : first_value given (codes "alg") ≡ Some words.alg.now
  pub sums : first_value given (codes "SUMS") ≡ Some words.sums.now
  pub into : first_value given (codes "into") ≡ Some words.into.now
  pub alone : IsFlagIn given (codes "alone") words.alone
  pub token : first_value given (codes "token") ≡ Some words.token.now
  pub no_request : first_value given (codes "request") ≡ None

-- the same for every task about records
abbrev pub IsEvidenceTaskIn : Found → EvidenceTask → Type 0
IsEvidenceTaskIn given (task.Check words) = IsEvidenceIn given words
IsEvidenceTaskIn given (task.CheckUnder words) = IsUnderIn given words
IsEvidenceTaskIn given (task.Questions words) = IsEvidenceQuestionsIn given words
IsEvidenceTaskIn given (task.Request words) = IsRootRequestIn given words
IsEvidenceTaskIn given (task.Make words) = IsMakeIn given words
IsEvidenceTaskIn given (task.RequestRenewal words) = IsRenewalRequestIn given words
IsEvidenceTaskIn given (task.Renew words) = IsRenewIn given words
IsEvidenceTaskIn given (task.RequestRehash words) = IsRehashRequestIn given words
IsEvidenceTaskIn given (task.Rehash words) = IsRehashIn given words

-- the command that asks for such a task, behind `evidence`, but for the check of a signed file
abbrev pub evidence_command_of : EvidenceTask → List ℕ
evidence_command_of (task.Check words) = codes "check"
evidence_command_of (task.CheckUnder words) = codes "check"
evidence_command_of (task.Questions words) = codes "questions"
evidence_command_of (task.Request words) = codes "request"
evidence_command_of (task.Make words) = codes "make"
evidence_command_of (task.RequestRenewal words) = codes "renew"
evidence_command_of (task.Renew words) = codes "renew"
evidence_command_of (task.RequestRehash words) = codes "rehash"
evidence_command_of (task.Rehash words) = codes "rehash"

-- What holds of checks under evidence records.
use Rattle.std.specs.Prelude.{◌≡◌, ◌↔◌, ℕ, ◌≤◌, Bool, List, map, Option, All}
use Rattle.trust_lists.specs.Asking.{Asked}
use Rattle.trust_lists.specs.Entries.{EntryValue}
use Rattle.trust_lists.specs.declared.role.Role.TheVariants.{Tsa}
use Rattle.check_verdict.specs.Trusted.{Holds}
use Rattle.check_verdict.specs.Beside.{beside}
use Rattle.check_verdict.specs.Passing.{Terms}
use Rattle.check_verdict.specs.Verdicts.{Yes}
use Rattle.check_verdict.specs.Questions.{IsQuestion}
use Rattle.check_evidence.specs.Grounds.{Grounds}
use Rattle.evidence_questions.specs.Laws.{RecordAnswers, by_answers}
use Rattle.check_evidence.specs.Showing.{Shows}
use Rattle.check_under.specs.Under.{data_of, AllowsAt, YesUnder, RefusesUnder}
use Rattle.check_under.specs.TokensUnder.{beside_record}
use Rattle.check_under.specs.declared.refused.UnderRefused.{UnderRefused}

-- a file is accepted with at most one moment
abbrev pub UnderOneMoment : Type 0
UnderOneMoment = (g : Grounds) (octets file : List ℕ) (handed : Option (List ℕ)) (m n : ℕ)
    → YesUnder g octets file handed m → YesUnder g octets file handed n → m ≡ n

-- which isn't later than the record's
abbrev pub UnderInTime : Type 0
UnderInTime = (g : Grounds) (octets file : List ℕ) (handed : Option (List ℕ)) (m k : ℕ)
    → Shows g octets (data_of file handed) k → YesUnder g octets file handed m → m ≤ k

-- and is never both accepted and refused
abbrev pub UnderNeverBoth : Type 0
UnderNeverBoth = (g : Grounds) (octets file : List ℕ) (handed : Option (List ℕ)) (m : ℕ) (r : UnderRefused)
    → YesUnder g octets file handed m → RefusesUnder g octets file handed r → ⊥

-- a question of a file by the entries as they count is one by the list
abbrev pub QuestionsUnder : Type 0
QuestionsUnder = (trust : List EntryValue) (k : ℕ) (file : List ℕ) (q : Asked)
    → IsQuestion (map (beside k) trust) file q → IsQuestion trust file q

-- these answers to the questions of the record and of the file are those of the verifier
abbrev pub AnswersUnder : Grounds → (octets file : List ℕ) → (Asked → Bool) → Type 0
AnswersUnder g octets file answers = RecordAnswers g octets answers
    × ((q : Asked) → IsQuestion g.trust file q → answers q ≡ g.vouches q)

-- an acceptance with such answers is one with the verifier's, and so is a refusal
abbrev pub YesUnderSuffices : Type 0
YesUnderSuffices = (g : Grounds) (octets file : List ℕ) (handed : Option (List ℕ)) (answers : Asked → Bool)
    → AnswersUnder g octets file answers → (m : ℕ)
    → YesUnder g octets file handed m ↔ YesUnder (by_answers g answers) octets file handed m

abbrev pub RefusalsUnderSuffice : Type 0
RefusalsUnderSuffice = (g : Grounds) (octets file : List ℕ) (handed : Option (List ℕ)) (answers : Asked → Bool)
    → AnswersUnder g octets file answers → (r : UnderRefused)
    → RefusesUnder g octets file handed r ↔ RefusesUnder (by_answers g answers) octets file handed r

-- What is accepted by the headline with a moment that isn't later than k is so beside a record that shows it by k, if
-- each authority's entry holds at k.
abbrev pub AcceptedBeside : Type 0
AcceptedBeside = (t : Terms) (k : ℕ) (file : List ℕ) (handed : Option (List ℕ)) (m : ℕ)
    → All (λ e. e.role ≡ Tsa → Holds e k) t.trust → m ≤ k → Yes t file handed m → Yes (beside_record k t) file handed m

-- So a file that is accepted by itself is accepted under a record that shows it by k, not before its own moment, if the
-- algorithms that are allowed are those that hold at k, and each authority's entry holds then.
abbrev pub AcceptedUnder : Type 0
AcceptedUnder = (g : Grounds) (octets file : List ℕ) (handed : Option (List ℕ)) (t : Terms) (k m : ℕ)
    → Shows g octets (data_of file handed) k → AllowsAt g.ends k t.policy → t.trust ≡ g.trust → t.vouches ≡ g.vouches
    → All (λ e. e.role ≡ Tsa → Holds e k) t.trust → m ≤ k → Yes t file handed m → YesUnder g octets file handed m

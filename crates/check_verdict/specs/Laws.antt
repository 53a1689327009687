-- What holds of the definitions.
use Rattle.std.specs.Prelude.{◌≡◌, ℕ, Bool, ◌⊎◌, List, Option, Result}
use Rattle.der_core.specs.Element.{IsBytes}
use Rattle.check_fit.specs.declared.policy.Policy.{Policy}
use Rattle.check_fit.specs.declared.rules.TokenRule.{TokenRule}
use Rattle.check_fit.specs.declared.rules.Refused.{Refused}
use Rattle.trust_lists.specs.Asking.{Asked}
use Rattle.trust_lists.specs.Entries.{EntryValue}
use Rattle.check_verdict.specs.Passing.{Terms, Due, PassesFor}
use Rattle.check_verdict.specs.TokenRules.{TokenFailsFor}
use Rattle.check_verdict.specs.Verdicts.{Yes, Refuses}
use Rattle.check_verdict.specs.TokenVerdicts.{terms_of}
use Rattle.check_verdict.specs.Questions.{IsQuestion}
use Rattle.check_verdict.specs.Checking.{IsVerdict}
use Rattle.check_verdict.specs.Alone.{token_alone, alone, verdict_alone}

-- a token never both passes and fails, whatever is due as its imprint
abbrev pub TokensNeverBoth : Type 0
TokensNeverBoth = (t : Terms) (token : List ℕ) (due : Due) (m : ℕ) (failed : TokenRule) → PassesFor t token due m
    → TokenFailsFor t token due failed → ⊥

-- a token passes with at most one moment
abbrev pub TokensHaveOneMoment : Type 0
TokensHaveOneMoment = (t : Terms) (token : List ℕ) (due : Due) (m n : ℕ) → PassesFor t token due m
    → PassesFor t token due n → m ≡ n

-- and fails exactly one rule first
abbrev pub TokensFailOneRule : Type 0
TokensFailOneRule = (t : Terms) (token : List ℕ) (due : Due) (a b : TokenRule) → TokenFailsFor t token due a
    → TokenFailsFor t token due b → token_alone a ≡ token_alone b

-- each token, of octets, passes or fails
abbrev pub TokensPassOrFail : Type 0
TokensPassOrFail = (t : Terms) (token : List ℕ) (due : Due) → IsBytes token → ((m : ℕ) × PassesFor t token due m)
    ⊎ ((failed : TokenRule) × TokenFailsFor t token due failed)

-- a file is never both accepted and refused
abbrev pub FilesNeverBoth : Type 0
FilesNeverBoth = (t : Terms) (file : List ℕ) (handed : Option (List ℕ)) (m : ℕ) (r : Refused) → Yes t file handed m
    → Refuses t file handed r → ⊥

-- it is accepted with at most one moment
abbrev pub FilesHaveOneMoment : Type 0
FilesHaveOneMoment = (t : Terms) (file : List ℕ) (handed : Option (List ℕ)) (m n : ℕ) → Yes t file handed m
    → Yes t file handed n → m ≡ n

-- and refused by one rule, for one signer and one token
abbrev pub FilesHaveOneRefusal : Type 0
FilesHaveOneRefusal = (t : Terms) (file : List ℕ) (handed : Option (List ℕ)) (a b : Refused) → Refuses t file handed a
    → Refuses t file handed b → alone a ≡ alone b

-- each file, of octets, is accepted or refused
abbrev pub FilesAreJudged : Type 0
FilesAreJudged = (t : Terms) (file : List ℕ) (handed : Option (List ℕ)) → IsBytes file
    → ((m : ℕ) × Yes t file handed m) ⊎ ((r : Refused) × Refuses t file handed r)

-- two lists of answers that agree on the questions of a file give one verdict about it, with one moment or one refusal
abbrev pub AnswersDecide : Type 0
AnswersDecide = (policy : Policy) (trust : List EntryValue) (file : List ℕ) (handed : Option (List ℕ))
    (answers others : Asked → Bool) → ((q : Asked) → IsQuestion trust file q → answers q ≡ others q)
    → (verdict another : Result ℕ Refused) → IsVerdict (terms_of policy trust answers) file handed verdict
    → IsVerdict (terms_of policy trust others) file handed another → verdict_alone verdict ≡ verdict_alone another

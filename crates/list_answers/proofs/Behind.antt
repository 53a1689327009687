-- Questions in front of others.
use Rattle.std.proofs.Common.{◌≡◌, true, false, List, [], ◌∷◌, ◌++◌, Option, Some, None, Result, Ok, Err, refl, sym, ap}
use Rattle.std.proofs.Common.{◌∙◌, append_assoc, append-nil}
use Rattle.std.specs.Prelude.{is_some}
use Rattle.list_answers.specs.declared.answers_fault.AnswersFault.{AnswersFault}
use Rattle.list_answers.specs.declared.answers_fault.AnswersRule.TheVariants as rule
use Rattle.list_answers.specs.Asking.{Asked}
use Rattle.list_answers.specs.AnswersText.{asked_first, asked_of, asked_of_lines, behind}
use Rattle.list_answers.specs.Texts.{NumberedLine}

pub behind_none : (r : Result (List Asked) AnswersFault) → behind [] r ≡ r
behind_none (Ok others) = refl
behind_none (Err f) = refl

pub behind_all : (qs : List Asked) → behind qs (Ok []) ≡ Ok qs
behind_all qs = ap Ok (append-nil qs)

pub behind_more : (qs rs : List Asked) (r : Result (List Asked) AnswersFault)
    → behind (qs ++ rs) r ≡ behind qs (behind rs r)
behind_more qs rs (Ok others) = ap Ok (append_assoc qs rs others)
behind_more qs rs (Err f) = refl

pub ruleset in_front = (behind_none, behind_all, behind_more)

-- these questions are stated before the lines that are left
abbrev pub Before : (all left : List NumberedLine) → Type 0
Before all left = (qs : List Asked) × (asked_of_lines all ≡ behind qs (asked_of_lines left))

pub before_more : (all left others : List NumberedLine) (l m : NumberedLine) (q : Asked) → left ≡ l ∷ others → m ≡ l
    → asked_of m.octets ≡ Some q
    → Before all left → Before all others
before_more all left others l m q is same states (qs, e) =
    let here : asked_of_lines left ≡ behind (q ∷ []) (asked_of_lines others) = ap asked_of_lines is
    ∙ ap (λ o. asked_first l.number o (asked_of_lines others)) (sym (ap (λ x. asked_of x.octets) same) ∙ states) in
    (qs ++ q ∷ [], e ∙ ap (behind qs) here ∙ sym (behind_more qs (q ∷ []) (asked_of_lines others)))

-- a line that states a question states one
question_there : (o : Option Asked) → is_some o ≡ true → (q : Asked) × (o ≡ Some q)
question_there (Some q) h = (q, refl)
question_there None h = cc h

pub before_stated : (all left others : List NumberedLine) (l m : NumberedLine) → left ≡ l ∷ others → m ≡ l
    → is_some (asked_of m.octets) ≡ true
    → Before all left → Before all others
before_stated all left others l m is same states before =
    let q = question_there (asked_of m.octets) states in
    before_more all left others l m q.0 is same q.1 before

no_question_there : (o : Option Asked) → is_some o ≡ false → o ≡ None
no_question_there (Some q) h = cc h
no_question_there None h = refl

-- a line that states none is the first that doesn't
pub fault_there : (all left others : List NumberedLine) (l m : NumberedLine) (f : AnswersFault) → left ≡ l ∷ others
    → m ≡ l
    → is_some (asked_of m.octets) ≡ false → f ≡ record { rule = rule.Line; line = l.number } → Before all left
    → asked_of_lines all ≡ Err f
fault_there all left others l m f is same states fault (qs, e) =
    let none : asked_of l.octets ≡ None = sym (ap (λ x. asked_of x.octets) same)
    ∙ no_question_there (asked_of m.octets) states in
    let here : asked_of_lines left ≡ Err f = ap asked_of_lines is
    ∙ ap (λ o. asked_first l.number o (asked_of_lines others)) none ∙ ap Err (sym fault) in
    e ∙ ap (behind qs) here

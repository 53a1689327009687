-- Lines of questions that were put.
use Rattle.std.proofs.Common.{◌≡◌, ℕ, List, [], ◌∷◌, ◌++◌, Result, Ok, Err, sym, ap, subst, ◌∙◌, append-nil, inl, inr}
use Rattle.std.specs.Prelude.{codes}
use Rattle.std.proofs.lemmas.Grind.{flat_map-append}
use Rattle.std.proofs.lemmas.List.Concat.{flat_map-cons}
use Rattle.devices.specs.Device.{Wrote}
use Rattle.devices.specs.declared.sink.SinkFault.{SinkFault}
use Rattle.trust_lists.specs.Asking.{Asked}
use Rattle.devices.proofs.Putting.{TwoPuts, FirstPut, SecondPut, BothPut, wrote_next, wrote_part, wrote_both}
use Rattle.devices.proofs.Putting.{wrote_first}
use Rattle.list_answers.proofs.Puts.{wrote_none}
use Rattle.check_questions.specs.FileQuestions.{Joined, InOrder, OneOrNone}
use Rattle.check_questions.specs.QuestionsText.{ended, question_line, question_lines, questions_text}
use Rattle.check_questions.specs.AskingSteps.{PutsLines}

abbrev pub first_line : List ℕ
first_line = codes "cmsproof questions 1" ++ 10 ∷ []

-- a field was put, and what follows it
pub field_then : (p : TwoPuts) (x y : List ℕ) (end : ℕ) (b : List ℕ) → x ≡ y → FirstPut p (ended x end) → SecondPut p b
    → BothPut p (ended y end ++ b)
field_then p x y end b is first second =
    wrote_next p (ended y end) b (subst (λ (z : List ℕ). FirstPut p (ended z end)) is first) second

-- of two calls, the first put the lines of all questions that are these
abbrev pub FirstLines : (List Asked → Type 0) → TwoPuts → Type 0
FirstLines Are p = (qs : List Asked) → Are qs → FirstPut p (question_lines qs)

-- the second put those of all that are these, or some of them
abbrev pub SecondLines : (List Asked → Type 0) → TwoPuts → Type 0
SecondLines Are p = (qs : List Asked) → Are qs → SecondPut p (question_lines qs)

-- both together
abbrev pub BothLines : (List Asked → Type 0) → TwoPuts → Type 0
BothLines Are p = (qs : List Asked) → Are qs → BothPut p (question_lines qs)

lines_are : (First Others : List Asked → Type 0) (qs : List Asked) (j : Joined First Others qs)
    → question_lines qs ≡ question_lines j.first ++ question_lines j.others
lines_are First Others qs j = ap question_lines j.is ∙ flat_map-append question_line j.first j.others

-- what was put in two parts
pub two_put : (First Others : List Asked → Type 0) (p : TwoPuts) → FirstLines First p → SecondLines Others p
    → BothLines (Joined First Others) p
two_put First Others p first second qs j =
    wrote_both p (question_lines qs) (question_lines j.first) (question_lines j.others)
    (lines_are First Others qs j) (first j.first j.is_first) (second j.others j.are_others)

-- the first part was not put whole
pub first_part : (First Others : List Asked → Type 0) (f : SinkFault) (tells : Type 0) (t0 t1 : List ℕ) (c0 c1 : ℕ)
    → PutsLines First (Err f) tells t0 t1 c0 c1 → PutsLines (Joined First Others) (Err f) tells t0 t1 c0 c1
first_part First Others f tells t0 t1 c0 c1 put qs j =
    wrote_first f tells t0 t1 c0 c1 (question_lines qs) (question_lines j.first)
    (question_lines j.others) (lines_are First Others qs j) (put j.first j.is_first)

-- nothing was put, of no questions
pub none_put : (Are : List Asked → Type 0) (u : Unit {0}) (tells : Type 0) (t : List ℕ) (c : ℕ)
    → ((qs : List Asked) → Are qs → qs ≡ [])
    → PutsLines Are (Ok u) tells t t c c
none_put Are u tells t c none qs are = subst (λ (x : List Asked). Wrote (Ok u) tells t t c c (question_lines x))
    (sym (none qs are)) (wrote_none u tells t c)

-- one line was put
pub one_put : (Is : Asked → Type 0) (q : Asked) (r : Result (Unit {0}) SinkFault) (tells : Type 0) (t0 t1 : List ℕ)
    (c0 c1 : ℕ) → Is q
    → ((p : Asked) → Is p → p ≡ q)
    → Wrote r tells t0 t1 c0 c1 (question_line q) → PutsLines (OneOrNone Is) r tells t0 t1 c0 c1
one_put Is q r tells t0 t1 c0 c1 is one w qs (inl h) =
    subst (λ (x : List Asked). Wrote r tells t0 t1 c0 c1 (question_lines x))
    (sym (h.2 ∙ ap (λ (x : Asked). x ∷ []) (one h.0 h.1)))
    (subst (λ (x : List ℕ). Wrote r tells t0 t1 c0 c1 x)
    (sym (flat_map-cons question_line q [] ∙ append-nil (question_line q))) w)
one_put Is q r tells t0 t1 c0 c1 is one w qs (inr h) = absurd (h.0 q is)

-- ---- of these, in their order

-- what belongs to all that are left belongs to the first of them and to the others
pub next_of : {A : Type 0} (Has : A → List Asked → Type 0) (left : List A) (x : A) (xs : List A) → left ≡ x ∷ xs
    → (qs : List Asked)
    → InOrder Has left qs → Joined (Has x) (InOrder Has xs) qs
next_of {A} Has left x xs is qs are = subst (λ (l : List A). InOrder Has l qs) is are

pub next_put : {A : Type 0} (Has : A → List Asked → Type 0) (p : TwoPuts) (left : List A) (x : A) (xs : List A)
    → left ≡ x ∷ xs
    → FirstLines (Has x) p → SecondLines (InOrder Has xs) p → BothLines (InOrder Has left) p
next_put Has p left x xs is first second qs are =
    two_put (Has x) (InOrder Has xs) p first second qs (next_of Has left x xs is qs are)

pub last_put : {A : Type 0} (Has : A → List Asked → Type 0) (u : Unit {0}) (tells : Type 0) (t : List ℕ) (c : ℕ)
    (left : List A) → left ≡ []
    → PutsLines (InOrder Has left) (Ok u) tells t t c c
last_put {A} Has u tells t c left is = subst (λ (l : List A). PutsLines (InOrder Has l) (Ok u) tells t t c c) (sym is)
    (none_put (InOrder Has []) u tells t c (λ qs are. are))

-- ---- a text

-- the first line was put, and then the lines of all questions that are these, or some of them
pub text_put : (Are : List Asked → Type 0) (p : TwoPuts) → FirstPut p first_line → SecondLines Are p
    → (qs : List Asked) → Are qs → BothPut p (questions_text qs)
text_put Are p first second qs are = wrote_next p first_line (question_lines qs) first (second qs are)

-- the first line was not put whole
pub text_part : (Are : List Asked → Type 0) (f : SinkFault) (tells : Type 0) (t0 t1 : List ℕ) (c0 c1 : ℕ)
    → Wrote (Err f) tells t0 t1 c0 c1 first_line
    → (qs : List Asked) → Are qs → Wrote (Err f) tells t0 t1 c0 c1 (questions_text qs)
text_part Are f tells t0 t1 c0 c1 put qs are = wrote_part f tells t0 t1 c0 c1 first_line (question_lines qs) put

-- Why a file has no questions, and what is said of one that has some.
use Rattle.std.proofs.Common.{◌≡◌, ◌↔◌, ◌⊎◌, ℕ, List, Result, Ok, Err, refl, sym, ap, ◌∙◌, inl, inr}
use Rattle.cms_types.specs.SignedDataValue.{EncodesAnotherType}
use Rattle.trust_lists.specs.Entries.{EntryValue}
use Rattle.trust_lists.specs.Asking.{Asked}
use Rattle.check_questions.specs.declared.fault.QuestionsFault.{QuestionsFault}
use Rattle.check_questions.specs.declared.fault.QuestionsFault.TheVariants as fault
use Rattle.check_questions.specs.FileQuestions.{AreQuestionsOf}
use Rattle.check_questions.specs.QuestionsText.{questions_text}
use Rattle.check_questions.specs.Written.{IsTokenWritten, IsWritten, IsWrittenWith, EncodesNothing}
use Rattle.check_questions.specs.Written as written
use Rattle.library_answers.specs.declared.answer.Answer.{Answer}
use Rattle.library_answers.specs.Failures.{IsMade}
use Rattle.library_calls.specs.Questions.{IsUnasked, IsMalformed, IsQuestioned, unasked_numbers, unasked_status}
use Rattle.library_calls.proofs.Told.{made_as}

pub unasked : (trust : List EntryValue) (octets : List ℕ) (why : QuestionsFault) (tells : Type 0)
    (taken taken' : List ℕ) (count count' : ℕ)
    → IsWritten trust octets (Err why) tells taken taken' count count' → IsUnasked octets why
unasked trust octets (fault.Malformed f) tells taken taken' count count' (found, kept) = found
unasked trust octets fault.NotSignedData tells taken taken' count count' (another, kept) = another
unasked trust octets fault.WriteFailed tells taken taken' count count' written = tt

pub token_unasked : (trust : List EntryValue) (token : List ℕ) (why : QuestionsFault) (tells : Type 0)
    (taken taken' : List ℕ) (count count' : ℕ)
    → IsTokenWritten trust token (Err why) tells taken taken' count count' → IsUnasked token why
token_unasked trust token (fault.Malformed f) tells taken taken' count count' (found, kept) = found
token_unasked trust token fault.NotSignedData tells taken taken' count count' (another, kept) = another
token_unasked trust token fault.WriteFailed tells taken taken' count count' written = tt

-- if a text is to be written, only writing fails
pub write_failed : (text : List ℕ) (why : QuestionsFault) (tells : Type 0) (taken taken' : List ℕ) (count count' : ℕ)
    → IsWrittenWith text (Err why) tells taken taken' count count' → why ≡ fault.WriteFailed
write_failed text fault.WriteFailed tells taken taken' count count' h = refl
write_failed text (fault.Malformed f) tells taken taken' count count' h = absurd h
write_failed text fault.NotSignedData tells taken taken' count count' h = absurd h

abbrev Written : Type 0
Written = Result (Unit {0}) QuestionsFault

abbrev failing : QuestionsFault → Written
failing why = Err why

abbrev writing : Unit {0} → Written
writing u = Ok u

pub malformed_as : (octets : List ℕ) (why : QuestionsFault) → written.IsMalformed (Err why) ↔ EncodesNothing octets
    → IsMalformed why ↔ EncodesNothing octets
malformed_as octets (fault.Malformed f) h = h
malformed_as octets fault.NotSignedData h = h
malformed_as octets fault.WriteFailed h = h

pub another_as : (octets : List ℕ) (why : QuestionsFault)
    → (failing why ≡ Err fault.NotSignedData) ↔ EncodesAnotherType octets
    → (why ≡ fault.NotSignedData) ↔ EncodesAnotherType octets
another_as octets why h =
    ((λ e. h.0 (ap (λ (f : QuestionsFault). failing f) e)), λ another. same why fault.NotSignedData (h.1 another))
  where
    same : (f g : QuestionsFault) → failing f ≡ failing g → f ≡ g
    same f g e = cc

pub never_another : (octets : List ℕ) (u : Unit {0}) → (writing u ≡ Err fault.NotSignedData) ↔ EncodesAnotherType octets
    → EncodesAnotherType octets → ⊥
never_another octets u h another = no (h.1 another)
  where
    no : writing u ≡ failing fault.NotSignedData → ⊥
    no e = cc

-- ---- what is said of the questions

module _ (list : List EntryValue) (octets : List ℕ) (said : Answer) (status : ℕ) (before : List ℕ) (size : ℕ)
    (after : List ℕ) where
  made_status : (n : ℕ) (bytes : List ℕ) → IsMade bytes said status before size after → status ≡ n → (n ≡ 1) ⊎ (n ≡ 6)
  made_status n bytes (is, (long, inl (one, whole))) e = inl (sym e ∙ one)
  made_status n bytes (is, (long, inr (six, short, as_it_was))) e = inr (sym e ∙ six)

  not_three : (bytes : List ℕ) → IsMade bytes said status before size after → status ≡ 3 → ⊥
  not_three bytes made e = no (made_status 3 bytes made e)
    where
      no : ((let n : ℕ = 3 in n ≡ 1) ⊎ (let n : ℕ = 3 in n ≡ 6)) → ⊥
      no (inl k) = cc
      no (inr k) = cc

  not_two : (bytes : List ℕ) → IsMade bytes said status before size after → status ≡ 2 → ⊥
  not_two bytes made e = no (made_status 2 bytes made e)
    where
      no : ((let n : ℕ = 2 in n ≡ 1) ⊎ (let n : ℕ = 2 in n ≡ 6)) → ⊥
      no (inl k) = cc
      no (inr k) = cc

  pub questioned_made : (found bytes : List ℕ) → bytes ≡ found
      → (qs : List Asked) × AreQuestionsOf list octets qs × (found ≡ questions_text qs)
      → ((qs : List Asked) → AreQuestionsOf list octets qs → found ≡ questions_text qs) → (EncodesNothing octets → ⊥)
      → (EncodesAnotherType octets → ⊥)
      → IsMade bytes said status before size after → IsQuestioned list octets said status before size after
  questioned_made found bytes e (qs, are, is) only something same made = record {
    questions = inl (qs, are, made_as bytes (questions_text qs) said status before size after (e ∙ is) made);
    only = λ others of_file.
        inl (made_as bytes (questions_text others) said status before size after (e ∙ only others of_file) made);
    malformed = ((λ three. absurd (not_three bytes made three)), λ none. absurd (something none));
    another = ((λ two. absurd (not_two bytes made two)), λ other. absurd (same other));
  }

  three_is : (why : QuestionsFault) → IsMalformed why ↔ EncodesNothing octets
      → (unasked_status why ≡ 3) ↔ EncodesNothing octets
  three_is (fault.Malformed f) h = ((λ e. h.0 tt), λ none. refl)
  three_is fault.NotSignedData h = ((λ e. absurd cc), λ none. absurd (h.1 none))
  three_is fault.WriteFailed h = ((λ e. absurd cc), λ none. absurd (h.1 none))

  two_is : (why : QuestionsFault) → (why ≡ fault.NotSignedData) ↔ EncodesAnotherType octets
      → (unasked_status why ≡ 2) ↔ EncodesAnotherType octets
  two_is (fault.Malformed f) h = ((λ e. absurd cc), λ another. absurd (no (h.1 another)))
    where
      no : fault.Malformed f ≡ fault.NotSignedData → ⊥
      no e = cc
  two_is fault.NotSignedData h = ((λ e. h.0 refl), λ another. refl)
  two_is fault.WriteFailed h = ((λ e. absurd cc), λ another. absurd (no (h.1 another)))
    where
      no : fault.WriteFailed ≡ fault.NotSignedData → ⊥
      no e = cc

  by_status : (m n : ℕ) (E : Type 0) → m ≡ n → (k : ℕ) → (n ≡ k) ↔ E → (m ≡ k) ↔ E
  by_status m n E e k h = ((λ is. h.0 (sym e ∙ is)), λ x. e ∙ h.1 x)

  pub questioned_not : (why : QuestionsFault) → IsUnasked octets why
      → ((qs : List Asked) → AreQuestionsOf list octets qs → why ≡ fault.WriteFailed)
      → IsMalformed why ↔ EncodesNothing octets → (why ≡ fault.NotSignedData) ↔ EncodesAnotherType octets
      → said ≡ unasked_numbers why
      → status ≡ unasked_status why → size ≡ 0 → after ≡ before → IsQuestioned list octets said status before size after
  questioned_not why is only malformed another numbers e empty as_it_was = record {
    questions = inr (why, is, numbers, e, empty, as_it_was);
    only = λ qs are. inr (
      e ∙ ap (λ (f : QuestionsFault). unasked_status f) (only qs are),
      numbers ∙ ap (λ (f : QuestionsFault). unasked_numbers f) (only qs are),
    );
    malformed = by_status status (unasked_status why) (EncodesNothing octets) e 3 (three_is why malformed);
    another = by_status status (unasked_status why) (EncodesAnotherType octets) e 2 (two_is why another);
  }

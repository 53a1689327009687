-- What follows from what a call says under lists that may be held.
use Rattle.std.proofs.Common.{◌≡◌, ◌↔◌, ℕ, Bool, List, Option, Some, None, IfSome, sym, ap, subst, ◌∙◌}
use Rattle.cms_types.specs.SignedDataValue.{EncodesAnotherType}
use Rattle.trust_lists.specs.Asking.{Asked}
use Rattle.trust_lists.specs.Entries.{EntryValue}
use Rattle.check_verdict.specs.Questions.{Answers, with_answers}
use Rattle.check_under.specs.Laws.{RefusalsUnderSuffice, YesUnderSuffices}
use Rattle.check_questions.specs.FileQuestions.{AreQuestionsOf}
use Rattle.check_questions.specs.QuestionsText.{questions_text}
use Rattle.check_questions.specs.Written.{EncodesNothing}
use Rattle.library_answers.specs.declared.answer.Answer.{Answer}
use Rattle.library_calls.specs.Checked.{terms_under, IsChecked, SaysYes, SaysMoment, AnswersAsked}
use Rattle.library_calls.specs.CheckedTokens.{SaysPasses}
use Rattle.library_calls.specs.Questions.{IsAskedIfMemory, IsQuestioned}
use Rattle.library_calls.specs.Stamps.{SaysStamped}
use Rattle.library_records.specs.Evidence.{AnswersAlike, IsEvidenceChecked, SaysShown}
use Rattle.library_records.specs.Stated.{EvidenceCheck}
use Rattle.library_records.specs.Under.{AnswersUnderAlike, IsUnderChecked, SaysYesUnder, UnderCheck}
use Rattle.library_calls.proofs.Asking.{checked_by_asked}
use Rattle.library_calls.proofs.Checking.{says_yes, says_moment, checked_suffices}
use Rattle.library_calls.proofs.CheckingTokens.{says_passes}
use Rattle.library_calls.proofs.StampsSaid.{says_stamped}
use Rattle.library_records.proofs.EvidenceAlike.{checked_alike}
use Rattle.library_records.proofs.EvidenceSaid.{says_shown}
use Rattle.library_records.proofs.UnderAlike.{under_alike}
use Rattle.library_records.proofs.UnderSaid.{says_yes_under}
use Rattle.cmsproof_c.specs.Held.{SaysNoList, IsCheck, IsEvidenceCheck, IsStampCheck, IsTokenCheck, AsksFile}
use Rattle.cmsproof_c.specs.Held.{IsUnderCheck}

module _ (octets : List ℕ) (content : Option (List ℕ)) (sha1 : Bool) (said : Answer) (status : ℕ) (before : List ℕ)
    (size : ℕ) (after : List ℕ) where
  pub yes_held : (list : Option (List EntryValue)) (asked : Option (List Asked))
      → IsCheck list asked octets content sha1 said status before size after
      → IfSome list (λ l. IfSome asked (λ a. (m : ℕ) → SaysYes (terms_under l a sha1) octets content said m))
  yes_held (Some l) (Some a) h = says_yes (terms_under l a sha1) octets content said status before size after h
  yes_held (Some l) None h = tt
  yes_held None asked h = tt

  no_moment : SaysNoList said status before size after → SaysMoment said status
  no_moment h = record {
    moment = λ one. absurd (let no : 0 ≡ 1 = sym (ap (λ (a : Answer). a.verdict) h.1) ∙ one in cc);
    done = λ one. absurd (let no : 8 ≡ 1 = sym h.0 ∙ one in cc);
  }

  pub moment_held : (list : Option (List EntryValue)) (asked : Option (List Asked))
      → IsCheck list asked octets content sha1 said status before size after
      → SaysMoment said status
  moment_held (Some l) (Some a) h = says_moment (terms_under l a sha1) octets content said status before size after h
  moment_held (Some l) None h = no_moment h
  moment_held None (Some a) h = no_moment h
  moment_held None None h = no_moment h

  pub sufficient_held : (list : Option (List EntryValue)) (asked : Option (List Asked))
      → IsCheck list asked octets content sha1 said status before size after
      → IfSome list (λ l. IfSome asked (λ a. (vouches : Asked → Bool) → Answers (terms_under l a sha1) octets vouches
      → IsChecked (with_answers (terms_under l a sha1) vouches) octets content said status before size after))
  sufficient_held (Some l) (Some a) h =
      checked_suffices (terms_under l a sha1) octets content said status before size after h
  sufficient_held (Some l) None h = tt
  sufficient_held None asked h = tt

  pub asked_held : (list : Option (List EntryValue)) (asked : Option (List Asked))
      → IsCheck list asked octets content sha1 said status before size after
      → IfSome list
      (λ l. IfSome asked (λ a. (vouches : Asked → Bool) → AnswersAsked (terms_under l a sha1) octets content vouches
      → IsChecked (with_answers (terms_under l a sha1) vouches) octets content said status before size after))
  asked_held (Some l) (Some a) h =
      checked_by_asked (terms_under l a sha1) octets content said status before size after h
  asked_held (Some l) None h = tt
  asked_held None asked h = tt

pub passes_held : (token stamped : List ℕ) (sha1 : Bool) (said : Answer) (status : ℕ) (list : Option (List EntryValue))
    (asked : Option (List Asked))
    → IsTokenCheck list asked token stamped sha1 said status
    → IfSome list (λ l. IfSome asked (λ a. (m : ℕ) → SaysPasses (terms_under l a sha1) token stamped said m))
passes_held token stamped sha1 said status (Some l) (Some a) h =
    says_passes (terms_under l a sha1) token stamped said status h
passes_held token stamped sha1 said status (Some l) None h = tt
passes_held token stamped sha1 said status None asked h = tt

pub stamped_held : (stamp stamped : List ℕ) (sha1 : Bool) (said : Answer) (status : ℕ) (before : List ℕ) (size : ℕ)
    (after : List ℕ) (list : Option (List EntryValue)) (asked : Option (List Asked))
    → IsStampCheck list asked stamp stamped sha1 said status before size after
    → IfSome list (λ l. IfSome asked (λ a. (m : ℕ) → SaysStamped (terms_under l a sha1) stamp stamped said m))
stamped_held stamp stamped sha1 said status before size after (Some l) (Some a) h = λ m.
    says_stamped said status before size after (terms_under l a sha1) stamp stamped m h
stamped_held stamp stamped sha1 said status before size after (Some l) None h = tt
stamped_held stamp stamped sha1 said status before size after None asked h = tt

pub shown_held : (input : EvidenceCheck) (said : Answer) (status : ℕ) (before : List ℕ) (size : ℕ) (after : List ℕ)
    (list : Option (List EntryValue)) (asked : Option (List Asked))
    → IsEvidenceCheck list asked input said status before size after
    → IfSome list (λ l. IfSome asked (λ a. (m : ℕ) → SaysShown l a input said status m))
shown_held input said status before size after (Some l) (Some a) h = λ m.
    says_shown said status before size after l a input m h
shown_held input said status before size after (Some l) None h = tt
shown_held input said status before size after None asked h = tt

pub alike_held : (input : EvidenceCheck) (said : Answer) (status : ℕ) (before : List ℕ) (size : ℕ) (after : List ℕ)
    (list : Option (List EntryValue)) (asked : Option (List Asked))
    → IsEvidenceCheck list asked input said status before size after
    → IfSome list (λ l. IfSome asked (λ a. (others : List Asked) → AnswersAlike l input.evidence a others
    → IsEvidenceChecked l others input said status before size after))
alike_held input said status before size after (Some l) (Some a) h = λ others alike.
    checked_alike l a others input alike said status before size after h
alike_held input said status before size after (Some l) None h = tt
alike_held input said status before size after None asked h = tt

module _ (input : UnderCheck) (said : Answer) (status : ℕ) (before : List ℕ) (size : ℕ) (after : List ℕ) where
  pub yes_under_held : (list : Option (List EntryValue)) (asked : Option (List Asked))
      → IsUnderCheck list asked input said status before size after
      → IfSome list (λ l. IfSome asked (λ a. (m : ℕ) → SaysYesUnder l a input said status m))
  yes_under_held (Some l) (Some a) h = λ m. says_yes_under said status before size after l a input m h
  yes_under_held (Some l) None h = tt
  yes_under_held None asked h = tt

  pub under_alike_held : YesUnderSuffices → RefusalsUnderSuffice → (list : Option (List EntryValue))
      (asked : Option (List Asked)) → IsUnderCheck list asked input said status before size after
      → IfSome list (λ l. IfSome asked (λ a. (others : List Asked)
      → AnswersUnderAlike l input.evidence input.file a others
      → IsUnderChecked l others input said status before size after))
  under_alike_held suffices refusals (Some l) (Some a) h = λ others alike.
      under_alike suffices refusals l a others input alike said status before size after h
  under_alike_held suffices refusals (Some l) None h = tt
  under_alike_held suffices refusals None asked h = tt

module _ (octets : List ℕ) (said : Answer) (status : ℕ) (before : List ℕ) (size : ℕ) (after : List ℕ) where
  -- what is said under a list that was taken out of its handle is said of what the handle held
  pub asks_by : (held : Option (List EntryValue)) (taken its : List EntryValue) → Some taken ≡ held → its ≡ taken
      → IsQuestioned its octets said status before size after → AsksFile held octets said status before size after
  asks_by held taken its was same h = subst (λ (list : Option (List EntryValue)).
      AsksFile list octets said status before size after) was
      (subst (λ (list : List EntryValue). IsQuestioned list octets said status before size after) same h)

  pub only_held : (list : Option (List EntryValue)) → AsksFile list octets said status before size after
      → IfSome list (λ l. (qs : List Asked) → AreQuestionsOf l octets qs
      → IsAskedIfMemory (questions_text qs) said status before size after)
  only_held (Some l) h = h.only
  only_held None h = tt

  pub malformed_held : (list : Option (List EntryValue)) → AsksFile list octets said status before size after
      → IfSome list (λ _. (status ≡ 3) ↔ EncodesNothing octets)
  malformed_held (Some l) h = h.malformed
  malformed_held None h = tt

  pub another_held : (list : Option (List EntryValue)) → AsksFile list octets said status before size after
      → IfSome list (λ _. (status ≡ 2) ↔ EncodesAnotherType octets)
  another_held (Some l) h = h.another
  another_held None h = tt

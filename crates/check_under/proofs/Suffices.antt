-- The verdict under a record rests on the questions of the record and of the file alone.
use Rattle.std.proofs.Common.{◌∙◌, ℕ, Bool, List, Option, refl, sym, subst, ap}
use Rattle.trust_lists.specs.Asking.{Asked}
use Rattle.trust_lists.specs.Entries.{EntryValue}
use Rattle.check_verdict.specs.Passing.{Terms}
use Rattle.check_verdict.specs.Questions.{IsQuestion, Answers, with_answers, YesSuffices, RefusalsSuffice}
use Rattle.check_evidence.specs.Grounds.{Grounds}
use Rattle.evidence_questions.specs.Laws.{by_answers, RecordsShowAlike, RecordsRefusedAlike}
use Rattle.check_under.specs.Under.{data_of, AreTermsUnder, YesUnder, RefusesUnder}
use Rattle.check_under.specs.Laws.{AnswersUnder, YesUnderSuffices, RefusalsUnderSuffice}
use Rattle.check_under.specs.declared.refused.UnderRefused.{UnderRefused}
use Rattle.check_under.specs.declared.refused.UnderRefused.TheVariants as refused
use Rattle.check_under.proofs.Questions.{questions_under}

-- answers of the verifier are those of the other list too
back : (g : Grounds) (octets file : List ℕ) (w : Asked → Bool) → AnswersUnder g octets file w
    → AnswersUnder (by_answers g w) octets file g.vouches
back g octets file w agree = (λ q about. sym (agree.0 q about), λ q about. sym (agree.1 q about))

module _ (show : RecordsShowAlike) (g : Grounds) (octets file : List ℕ) (handed : Option (List ℕ)) (w : Asked → Bool)
    (agree : AnswersUnder g octets file w) where
  under_along : (t : Terms) → AreTermsUnder g octets (data_of file handed) t
      → AreTermsUnder (by_answers g w) octets (data_of file handed) (with_answers t w)
  under_along t u = record {
    shown = u.shown;
    shows = (show g octets w agree.0 (data_of file handed) u.shown).0 u.shows;
    allows = u.allows;
    trust = u.trust;
    vouches = refl;
  }

  answers : (t : Terms) → AreTermsUnder g octets (data_of file handed) t → Answers t file w
  answers t u q about =
      agree.1 q (questions_under g.trust u.shown file q
      (subst (λ (es : List EntryValue). IsQuestion es file q) u.trust about))
      ∙ sym (ap (λ (v : Asked → Bool). v q) u.vouches)

  yes_along : YesSuffices → (m : ℕ) → YesUnder g octets file handed m → YesUnder (by_answers g w) octets file handed m
  yes_along suffice m y = record {
    terms = with_answers y.terms w;
    under = under_along y.terms y.under;
    yes = (suffice y.terms file handed w (answers y.terms y.under) m).0 y.yes;
  }

  refused_along : RecordsRefusedAlike → RefusalsSuffice → (r : UnderRefused) → RefusesUnder g octets file handed r
      → RefusesUnder (by_answers g w) octets file handed r
  refused_along alike suffice (refused.Evidence r) h = (alike g octets w agree.0 (data_of file handed) r).0 h
  refused_along alike suffice (refused.Signed r) (t, u, h) =
      (with_answers t w, under_along t u, (suffice t file handed w (answers t u) r).0 h)

pub yes_under_suffices : RecordsShowAlike → YesSuffices → YesUnderSuffices
yes_under_suffices show suffice g octets file handed w agree m = (
  yes_along show g octets file handed w agree suffice m,
  yes_along show (by_answers g w) octets file handed g.vouches (back g octets file w agree) suffice m,
)

pub refusals_under_suffice : RecordsShowAlike → RecordsRefusedAlike → RefusalsSuffice → RefusalsUnderSuffice
refusals_under_suffice show alike suffice g octets file handed w agree r = (
  refused_along show g octets file handed w agree alike suffice r,
  refused_along show (by_answers g w) octets file handed g.vouches (back g octets file w agree) alike suffice r,
)

-- What is said of the words of a check and of the lists that they name, whatever is checked by them.
use Rattle.std.proofs.Common.{◌≡◌, ◌⊎◌, ℕ, Bool, List, Option, refl, inl, inr, codes, sym, subst}
use Rattle.std.specs.Prelude.{Any, IsSomeAnd}
use Rattle.std.specs.Borrow.{Bor}
use Rattle.trust_lists.specs.Asking.{is_among}
use Rattle.trust_lists.specs.Entries.{EntryValue}
use Rattle.check_evidence.specs.Grounds.{AlgEnd, Grounds}
use Rattle.cli_failures.specs.declared.failure.Failure.{Failure}
use Rattle.cli_failures.specs.declared.failure.Failure.TheVariants as failure
use Rattle.cli_failures.specs.Causes.{Names}
use Rattle.cli_failures.specs.Ends.{StatesNoEnd, StatesNoTime}
use Rattle.cli_commands.specs.Lists.{IsFailureOfAnswers, IsFailureOfTrust, IsTrustOf}
use Rattle.cli_evidence.specs.Checking.{AreEndsIn, AreEndsStatedBy, AreStatedBy, IsGroundsBy, RefusesBy}
use Rattle.cli_evidence.specs.Stating.{IsStated}
use Rattle.cli_evidence.specs.declared.stated.Stated.{Stated}

-- what a check goes by, where these ends were lent
abbrev pub grounds_by : Stated → (lent : List AlgEnd) → (whole : Bool) → Grounds
grounds_by stated lent whole = record {
  trust = stated.trust;
  vouches = λ q. is_among stated.answers q;
  ends = lent;
  at = stated.at;
  whole = whole;
}

module _ {F : Type 0} (holds : F → Option (List ℕ)) (ends : List (Bor (List ℕ))) (at : Option (Bor (List ℕ)))
    (trust answers : Bor (List ℕ)) (Later : Failure → Type 0) (f : Failure) where
  abbrev Refuses : Type 0
  Refuses = RefusesBy holds ends at trust answers Later f

  pub ends_refused : (f ≡ failure.Memory) ⊎ (Names (codes "end") f × Any (λ word. StatesNoEnd word.now) ends)
      → Refuses
  ends_refused (inl is) = inl is
  ends_refused (inr states) = inr (inl (inl states))

  pub at_refused : AreEndsStatedBy ends → Names (codes "at") f × IsSomeAnd at (λ text. StatesNoTime text.now)
      → Refuses
  at_refused stated (named, none) = inr (inl (inr (named, stated, none)))

  pub trust_refused : AreStatedBy ends at → IsFailureOfTrust holds trust f → Refuses
  trust_refused stated fails = inr (inr (stated, inl fails))

  pub answers_refused : AreStatedBy ends at → (entries : List EntryValue) → IsTrustOf holds entries
      → IsFailureOfAnswers holds answers f → Refuses
  answers_refused stated entries trusted fails = inr (inr (stated, inr (entries, trusted, inl fails)))

  -- what is refused before there is anything later
  pub before : RefusesBy holds ends at trust answers (λ f. ⊥) f → Refuses
  before (inl is) = inl is
  before (inr (inl unstated)) = inr (inl unstated)
  before (inr (inr (stated, inl fails))) = inr (inr (stated, inl fails))
  before (inr (inr (stated, inr (entries, trusted, inl fails)))) = inr (inr (stated, inr (entries, trusted, inl fails)))
  before (inr (inr (stated, inr (entries, trusted, inr (vouched, answered, never))))) = absurd never

  pub later : (stated : Stated) → IsStated holds ends at stated → Later f → Refuses
  later stated is fails = inr (inr (
    ((stated.ends.items, is.its_ends), (stated.at, is.its_at)),
    inr (stated.trust, is.trust, inr (stated.answers, is.answers, fails)),
  ))

-- it is what the words say
pub grounds : {F : Type 0} (holds : F → Option (List ℕ)) (ends : List (Bor (List ℕ))) (at : Option (Bor (List ℕ)))
    (stated : Stated) → IsStated holds ends at stated → (lent : List AlgEnd) → lent ≡ stated.ends.items
    → (whole : Bool) → IsGroundsBy holds ends at whole (grounds_by stated lent whole)
grounds holds ends at stated is lent same whole =
    let (text, asked, read, says, vouches) = is.answers in
    record {
      trust = is.trust;
      text = text;
      read = read;
      asked = asked;
      says = says;
      vouches = vouches;
      ends = subst (λ (es : List AlgEnd). AreEndsIn ends es) (sym same) is.its_ends;
      at = is.its_at;
      whole = refl;
    }

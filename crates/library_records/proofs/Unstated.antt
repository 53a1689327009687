-- What is said where what a caller states is not as it must be: what names a value says no verdict.
use Rattle.std.proofs.Common.{◌≡◌, ◌≢◌, ◌⊎◌, ◌∙◌, ℕ, List, inl, inr, refl, sym, ap, subst}
use Rattle.cli_failures.specs.declared.failure.Failure.{Failure}
use Rattle.cli_failures.specs.declared.failure.Failure.TheVariants as failure
use Rattle.cli_failures.specs.Causes.{Names}
use Rattle.library_answers.specs.declared.answer.Answer.{Answer}
use Rattle.library_answers.specs.Failures.{failure_numbers}
use Rattle.library_answers.specs.Numbers.{accepted_numbers, nothing}
use Rattle.library_calls.specs.Stamps.{SaysFailure}
use Rattle.library_records.specs.Evidence.{IsUnstated, SaysNoMemory}
use Rattle.library_records.specs.Stated.{RefusesEnds}

names_no_verdict : (value : List ℕ) (f : Failure) → Names value f → failure_numbers f ≡ nothing
names_no_verdict value (failure.Usage named) h = refl
names_no_verdict value (failure.Words text) h = refl
names_no_verdict value failure.NotText h = refl
names_no_verdict value failure.NotSignedData h = absurd h
names_no_verdict value (failure.Malformed fault) h = absurd h
names_no_verdict value (failure.MalformedMessage message fault) h = absurd h
names_no_verdict value (failure.Unmatched fault) h = absurd h
names_no_verdict value (failure.Refused why) h = absurd h
names_no_verdict value (failure.Unstamped rule) h = absurd h
names_no_verdict value (failure.Unshown why) h = absurd h
names_no_verdict value (failure.Unevidenced why) h = absurd h
names_no_verdict value (failure.Unasked fault) h = refl
names_no_verdict value failure.Different h = absurd h
names_no_verdict value failure.Collision h = absurd h
names_no_verdict value (failure.Uncompared fault) h = absurd h
names_no_verdict value (failure.Unattached fault) h = absurd h
names_no_verdict value (failure.Trust fault) h = refl
names_no_verdict value (failure.Answers fault) h = refl
names_no_verdict value (failure.Sums fault) h = refl
names_no_verdict value (failure.Unstamping why) h = absurd h
names_no_verdict value (failure.Unmade why) h = absurd h
names_no_verdict value (failure.Unrenewable why) h = absurd h
names_no_verdict value failure.Mixed h = absurd h
names_no_verdict value (failure.Open path) h = refl
names_no_verdict value (failure.Read path) h = refl
names_no_verdict value (failure.Size path) h = refl
names_no_verdict value (failure.Write path) h = refl
names_no_verdict value (failure.Unopened path) h = refl
names_no_verdict value (failure.Unread path) h = refl
names_no_verdict value (failure.Oversized path) h = refl
names_no_verdict value (failure.Unput path) h = refl
names_no_verdict value (failure.Taken path) h = refl
names_no_verdict value failure.Memory h = refl

pub no_verdict : (said : Answer) (m : ℕ) → said ≡ nothing → said ≡ accepted_numbers m → ⊥
no_verdict said m none one =
    let no : nothing.verdict ≡ (accepted_numbers m).verdict = ap (λ (a : Answer). a.verdict) (sym none ∙ one) in cc

-- ends that are none are named
pub ends_name : (text : List ℕ) (f : Failure) → RefusesEnds text f → (value : List ℕ) × Names value f
ends_name text f (some, inl (names, none)) = (_, names)
ends_name text f (some, inr (names, none)) = (_, names)

module _ (Refuses : Failure → Type 0) (names : (f : Failure) → Refuses f → (value : List ℕ) × Names value f)
    (said : Answer) (status : ℕ) (before : List ℕ) (size : ℕ) (after : List ℕ) where
  -- it is no acceptance
  pub says_none : (m : ℕ) → IsUnstated Refuses said status before size after → said ≡ accepted_numbers m → ⊥
  says_none m (inl (f, refuses, says)) one =
      let (value, named) = names f refuses in no_verdict said m (says.0 ∙ names_no_verdict value f named) one
  says_none m (inr (seven, none, empty, same)) one = no_verdict said m none one

  -- a lack of memory is none of what is refused
  pub unstated : {Stated : Type 0} (why : Failure) → (why ≡ failure.Memory) ⊎ Refuses why
      → (why ≡ failure.Memory → SaysNoMemory said status before size after)
      → (why ≢ failure.Memory → SaysFailure why said status before size after)
      → Stated ⊎ IsUnstated Refuses said status before size after
  unstated why (inl is) memory other = inr (inr (memory is))
  unstated why (inr refuses) memory other = inr (inl (
    why,
    refuses,
    other (λ is. (names failure.Memory (subst Refuses is refuses)).1),
  ))

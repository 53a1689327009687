-- Whether an algorithm holds by the ends up to one place, and by one more.
use Rattle.std.proofs.Common.{◌≡◌, ◌≢◌, ◌↔◌, ℕ, ◌+◌, ◌<◌, ◌≤◌, Bool, true, IsTrue, List, [], ◌∷◌, ◌++◌}
use Rattle.std.proofs.Common.{length}
use Rattle.std.proofs.Common.{get_or, take, refl, sym, subst, ◌∙◌, arith, inl, inr, ◌⊎◌}
use Rattle.std.specs.Prelude.{All, Any, Contains}
use Rattle.std.proofs.lemmas.List.{take_more, take_all, get_or_append_left, length-append}
use Rattle.std.proofs.lemmas.List.Elements.{All-nil, All-push, All-contains, Contains-push_cases}
use Rattle.std.proofs.lemmas.List.Quantifiers.{Any-push}
use Rattle.digests.specs.declared.algorithm.Alg.{Alg}
use Rattle.digests.specs.declared.algorithm.Alg.TheVariants.{Sha1}
use Rattle.check_evidence.specs.Grounds.{AlgEnd}
use Rattle.check_evidence.specs.Ends.{AlgHolds}

abbrev pub IsInTime : Alg → ℕ → AlgEnd → Type 0
IsInTime alg m e = e.alg ≡ alg → m ≤ e.last

abbrev pub IsSha1 : AlgEnd → Type 0
IsSha1 e = e.alg ≡ Sha1

-- no end of these is earlier, and the test says whether it holds by them
pub record SoFar (alg : Alg) (m : ℕ) (given : Bool) (ends : List AlgEnd) : Type 0 where
  pub in_time : All (IsInTime alg m) ends
  pub holds : IsTrue given ↔ AlgHolds ends alg m

none_in : Any IsSha1 [] → ⊥
none_in (k, e, lt, is, p) = omega (arith, lt)

pub none_yet : (alg : Alg) (m : ℕ) (given : Bool) → IsTrue given ↔ (alg ≢ Sha1) → SoFar alg m given []
none_yet alg m given other = record {
  in_time = All-nil (IsInTime alg m);
  holds = (
    λ is. record { in_time = All-nil (IsInTime alg m); given = λ sha1. absurd (other.0 is sha1) },
    λ h. other.1 (λ sha1. none_in (h.given sha1)),
  );
}

any_further : (ends : List AlgEnd) (e : AlgEnd) → Any IsSha1 ends → Any IsSha1 (ends ++ e ∷ [])
any_further ends e (k, x, lt, is, p) =
    (k, x, omega (arith, lt, length-append ends (e ∷ [])), get_or_append_left ends (e ∷ []) x k lt ∙ is, p)

any_before : (ends : List AlgEnd) (e : AlgEnd) → (IsSha1 e → ⊥) → Any IsSha1 (ends ++ e ∷ []) → Any IsSha1 ends
any_before ends e other (k, x, lt, is, p) =
    go (Contains-push_cases ends e x (k, lt, is))
  where
    go : Contains ends x ⊎ (e ≡ x) → Any IsSha1 ends
    go (inl (j, within, at)) = (j, x, within, at, p)
    go (inr same) = absurd (other (subst IsSha1 (sym same) p))

module _ (alg : Alg) (m : ℕ) (given : Bool) (ends : List AlgEnd) (e : AlgEnd) (h : SoFar alg m given ends) where
  -- an end of another algorithm
  another : e.alg ≢ alg → SoFar alg m given (ends ++ e ∷ [])
  another other = record {
    in_time = All-push (IsInTime alg m) ends e h.in_time (λ is. absurd (other is));
    holds = (
      λ is. record {
        in_time = All-push (IsInTime alg m) ends e h.in_time (λ same. absurd (other same));
        given = λ sha1. any_further ends e ((h.holds.0 is).given sha1);
      },
      λ k. h.holds.1 (record {
        in_time = h.in_time;
        given = λ sha1. any_before ends e (λ same. other (same ∙ sym sha1)) (k.given sha1);
      }),
    );
  }

  -- one of its own that isn't earlier
  its_own : e.alg ≡ alg → m ≤ e.last → SoFar alg m true (ends ++ e ∷ [])
  its_own is le = record {
    in_time = All-push (IsInTime alg m) ends e h.in_time (λ same. le);
    holds = (
      λ _. record {
        in_time = All-push (IsInTime alg m) ends e h.in_time (λ same. le);
        given = λ sha1. Any-push IsSha1 ends e (is ∙ sha1);
      },
      λ k. refl,
    );
  }

-- the next end of a list
module _ (alg : Alg) (m : ℕ) (given : Bool) (ends : List AlgEnd) (i : ℕ) (e : AlgEnd) (lt : i < length ends)
    (at : e ≡ get_or ends i e) (h : SoFar alg m given (take i ends)) where
  further : (now : Bool) → SoFar alg m now (take i ends ++ e ∷ []) → SoFar alg m now (take (i + 1) ends)
  further now k = rw (take_more ends i e lt, ← at) k

  pub of_another : e.alg ≢ alg → SoFar alg m given (take (i + 1) ends)
  of_another other = further given (another alg m given (take i ends) e h other)

  pub of_its_own : e.alg ≡ alg → m ≤ e.last → SoFar alg m true (take (i + 1) ends)
  of_its_own is le = further true (its_own alg m given (take i ends) e h is le)

  -- one that is earlier
  pub over : e.alg ≡ alg → e.last < m → AlgHolds ends alg m → ⊥
  over is late k =
      let le : m ≤ e.last = All-contains (IsInTime alg m) ends e k.in_time (i, lt, sym at) is in omega (arith, le, late)

pub by_all : (alg : Alg) (m : ℕ) (given : Bool) (ends : List AlgEnd) (i : ℕ) → length ends ≤ i
    → SoFar alg m given (take i ends) → IsTrue given ↔ AlgHolds ends alg m
by_all alg m given ends i le h =
    subst (λ (es : List AlgEnd). IsTrue given ↔ AlgHolds es alg m) (take_all i ends le) h.holds

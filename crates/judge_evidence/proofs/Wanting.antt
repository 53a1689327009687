-- The algorithms of the first stamps of chains, place by place.
use Rattle.std.proofs.Common.{◌≡◌, ◌⊎◌, true, List, [], sym, ◌∙◌, subst, inl, inr}
use Rattle.digests.specs.Sets.{is_in}
use Rattle.digests.specs.declared.algorithm.Alg.{Alg}
use Rattle.digests.specs.declared.set.Algs.{Algs}
use Rattle.evidence_types.specs.StampValue.{StampValue}
use Rattle.check_evidence.specs.Places.{Place, IsIn, IsBefore}
use Rattle.check_evidence.specs.StampStates.{HasAlg}
use Rattle.judge_evidence.specs.Going.{IsUpTo, GoesOn, EndsAt}
use Rattle.judge_evidence.specs.Data.{IsFirstAlg, AreFirstAlgs}

-- those of the places that were passed are among them, and no algorithm that is not of a place
pub record AreWanted (chains : List (List StampValue)) (p : Place) (wanted : Algs) : Type 0 where
  pub there : IsIn chains p
  pub each : (q : Place) → IsIn chains q → IsBefore q p → q.before ≡ [] → (alg : Alg) → HasAlg q.stamp alg
      → is_in alg wanted ≡ true
  pub only : (alg : Alg) → is_in alg wanted ≡ true → IsFirstAlg chains alg

-- ---- from place to place

module _ (chains : List (List StampValue)) (p : Place) (wanted more : Algs) (h : AreWanted chains p wanted)
    (kept : (alg : Alg) → is_in alg wanted ≡ true → is_in alg more ≡ true)
    (own : p.before ≡ [] → (alg : Alg) → HasAlg p.stamp alg → is_in alg more ≡ true)
    (only : (alg : Alg) → is_in alg more ≡ true
    → (is_in alg wanted ≡ true) ⊎ ((p.before ≡ []) × HasAlg p.stamp alg)) where
  -- up to a place, whose own is among them
  up_to : (r : Place) → IsIn chains r → IsUpTo r p → r.before ≡ [] → (alg : Alg) → HasAlg r.stamp alg
      → is_in alg more ≡ true
  up_to r there (inl k) first alg its = kept alg (h.each r there k first alg its)
  up_to r there (inr k) first alg its =
      own (subst (λ (x : Place). x.before ≡ []) k first) alg (subst (λ (x : Place). HasAlg x.stamp alg) k its)

  only_first : (alg : Alg) → is_in alg more ≡ true → IsFirstAlg chains alg
  only_first alg e = go (only alg e)
    where
      go : (is_in alg wanted ≡ true) ⊎ ((p.before ≡ []) × HasAlg p.stamp alg) → IsFirstAlg chains alg
      go (inl was) = h.only alg was
      go (inr is) = record { place = p; there = h.there; first = is.0; its = is.1 }

  pub next_wanted : (q : Place) → GoesOn p q → AreWanted chains q more
  next_wanted q goes = record {
    there = h.there ∙ sym goes.same;
    each = λ r there k. up_to r there ((goes.order r (sym h.there ∙ there)).0 k);
    only = only_first;
  }

  pub all_wanted : EndsAt p → AreFirstAlgs chains more
  all_wanted ends = λ alg. (
    only_first alg,
    λ f. up_to f.place f.there (ends f.place (sym h.there ∙ f.there)) f.first alg f.its,
  )

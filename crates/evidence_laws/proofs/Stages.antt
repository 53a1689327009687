-- How far an archive time-stamp comes through W1 to W5, and that it comes no further than to one of them.
use Rattle.std.proofs.Common.{◌≡◌, ℕ, zero, suc, ◌+◌, ◌<◌, List, refl, sym, ap, ◌∙◌, subst, inl, inr, arith}
use Rattle.std.specs.Prelude.{⊤}
use Rattle.std.proofs.lemmas.Bool.{cases_order}
use Rattle.digests.specs.declared.algorithm.Alg.{Alg}
use Rattle.check_fit.specs.declared.rules.TokenRule.{TokenRule}
use Rattle.check_verdict.specs.Passing.{PassesFor}
use Rattle.check_verdict.specs.TokenRules.{TokenFailsFor}
use Rattle.check_verdict.proofs.Lists.{lowered}
use Rattle.check_verdict.proofs.Tokens as token
use Rattle.check_evidence.specs.declared.rules.StampRule.{StampRule}
use Rattle.check_evidence.specs.declared.rules.StampRule.TheVariants as rule
use Rattle.check_evidence.specs.Grounds.{Grounds, terms_of, of_root, of_none}
use Rattle.check_evidence.specs.Roots.{IsRoot}
use Rattle.check_evidence.specs.Places.{Place}
use Rattle.check_evidence.specs.Covering.{covered_at}
use Rattle.check_evidence.specs.StampStates.{ShowsAlg}
use Rattle.check_evidence.specs.Standing.{IsAlgOf, HasLengths, Covers, Imprints, IsOrdered}
use Rattle.check_evidence.specs.Failing.{HasNoAlg, HasOtherLength, CoversNot, TokenFailsAt, TokenUnread, IsDisordered}
use Rattle.check_evidence.specs.Failing.{FailsToFit}
use Rattle.check_evidence.specs.Refusing.{Fits}
use Rattle.check_evidence.specs.Laws.{RootsAreUnique}
use Rattle.check_evidence.proofs.States.{one_alg, shows_alg}
use Rattle.check_evidence.proofs.Uses.{moments_same}
use Rattle.evidence_laws.specs.Alone.{stamp_alone}

-- its algorithm is this one, its lists have the lengths, cover what they must, and it passes with this moment
abbrev Long : Place → Alg → Type 0
Long p alg = IsAlgOf p alg × HasLengths p.stamp.lists alg

abbrev Covered : List (List ℕ) → Place → Alg → Type 0
Covered ds p alg = Long p alg × Covers ds p alg

abbrev Imprinted : Grounds → List (List ℕ) → Place → Alg → ℕ → Type 0
Imprinted g ds p alg m = Covered ds p alg × Imprints g ds p alg m

-- it came so far: its algorithm can be asked for, then W1, W2 .. W5 hold
abbrev Comes : Grounds → List (List ℕ) → ℕ → Place → Type 0
Comes g ds zero p = ⊤
Comes g ds (suc zero) p = ShowsAlg p.stamp.algorithm p.stamp
Comes g ds (suc (suc zero)) p = (alg : Alg) × IsAlgOf p alg
Comes g ds (suc (suc (suc zero))) p = (alg : Alg) × Long p alg
Comes g ds (suc (suc (suc (suc zero)))) p = (alg : Alg) × Covered ds p alg
Comes g ds (suc (suc (suc (suc (suc zero))))) p = (alg : Alg) × (m : ℕ) × Imprinted g ds p alg m
Comes g ds (suc (suc (suc (suc (suc (suc n)))))) p =
    (alg : Alg) × (m : ℕ) × Imprinted g ds p alg m × IsOrdered g p m

falls : (g : Grounds) (ds : List (List ℕ)) (k : ℕ) (p : Place) → Comes g ds (suc k) p → Comes g ds k p
falls g ds zero p h = tt
falls g ds (suc zero) p h = shows_alg p.stamp.algorithm p.stamp h.0 h.1.its
falls g ds (suc (suc zero)) p h = (h.0, h.1.0)
falls g ds (suc (suc (suc zero))) p h = (h.0, h.1.0)
falls g ds (suc (suc (suc (suc zero)))) p h = (h.0, h.2.0)
falls g ds (suc (suc (suc (suc (suc zero))))) p h = (h.0, h.1, h.2)
falls g ds (suc (suc (suc (suc (suc (suc n)))))) p h = h

-- the rule that fails if it comes so far and no further
abbrev IsRuleAt : Grounds → List (List ℕ) → Place → ℕ → StampRule → Type 0
IsRuleAt g ds p zero failed = (r : TokenRule) × (failed ≡ rule.Token r)
    × TokenFailsFor (terms_of g) p.stamp.stamp of_none r
IsRuleAt g ds p (suc zero) failed = failed ≡ rule.Algorithm
IsRuleAt g ds p (suc (suc zero)) failed = failed ≡ rule.HashLength
IsRuleAt g ds p (suc (suc (suc zero))) failed = failed ≡ rule.NotCovered
IsRuleAt g ds p (suc (suc (suc (suc zero)))) failed = (r : TokenRule) × (failed ≡ rule.Token r)
    × TokenFailsAt g ds p r
IsRuleAt g ds p (suc (suc (suc (suc (suc n))))) failed = failed ≡ rule.Order

record StopsFitting (g : Grounds) (ds : List (List ℕ)) (p : Place) (failed : StampRule) : Type 0 where
  stage : ℕ
  comes : Comes g ds stage p
  stops : Comes g ds (suc stage) p → ⊥
  is : IsRuleAt g ds p stage failed

-- ---- what it has is one thing

module _ (one_root : RootsAreUnique) (g : Grounds) (ds : List (List ℕ)) (p : Place) (a b : Alg) (h : IsAlgOf p a)
    (k : IsAlgOf p b) (x y : List ℕ) (is : IsRoot a p.stamp.lists (covered_at a ds p) x)
    (is' : IsRoot b p.stamp.lists (covered_at b ds p) y) where
  same_algs : a ≡ b
  same_algs = one_alg p.stamp a b h.its k.its

  roots_same : x ≡ y
  roots_same = one_root b p.stamp.lists (covered_at b ds p) x y
      (subst (λ (c : Alg). IsRoot c p.stamp.lists (covered_at c ds p) x) same_algs is) is'

  -- a token that passes on the one root does on the other, and so it fails
  passes_too : (m : ℕ) → PassesFor (terms_of g) p.stamp.stamp (of_root a x) m
      → PassesFor (terms_of g) p.stamp.stamp (of_root b y) m
  passes_too m passes =
      subst (λ (r : List ℕ). PassesFor (terms_of g) p.stamp.stamp (of_root b r) m) roots_same
      (subst (λ (c : Alg). PassesFor (terms_of g) p.stamp.stamp (of_root c x) m) same_algs passes)

  fails_too : (failed : TokenRule) → TokenFailsFor (terms_of g) p.stamp.stamp (of_root a x) failed
      → TokenFailsFor (terms_of g) p.stamp.stamp (of_root b y) failed
  fails_too failed fails =
      subst (λ (r : List ℕ). TokenFailsFor (terms_of g) p.stamp.stamp (of_root b r) failed) roots_same
      (subst (λ (c : Alg). TokenFailsFor (terms_of g) p.stamp.stamp (of_root c x) failed) same_algs fails)

-- ---- where it stops

module _ (one_root : RootsAreUnique) (g : Grounds) (ds : List (List ℕ)) (p : Place) where
  at_algorithm : HasNoAlg p → StopsFitting g ds p rule.Algorithm
  at_algorithm h = record { stage = 1; comes = h.shows; stops = λ c. h.none c.0 c.1; is = refl }

  at_lengths : HasOtherLength p → StopsFitting g ds p rule.HashLength
  at_lengths h = record {
    stage = 2;
    comes = (h.alg, h.is_alg);
    stops = λ c. h.other (subst (λ (a : Alg). HasLengths p.stamp.lists a)
        (one_alg p.stamp c.0 h.alg c.1.0.its h.is_alg.its) c.1.1);
    is = refl;
  }

  at_covering : CoversNot ds p → StopsFitting g ds p rule.NotCovered
  at_covering h = record {
    stage = 3;
    comes = (h.alg, (h.is_alg, h.lengths));
    stops = λ c. h.not (subst (λ (a : Alg). Covers ds p a)
        (one_alg p.stamp c.0 h.alg c.1.0.0.its h.is_alg.its) c.1.1);
    is = refl;
  }

  at_token : (failed : TokenRule) → TokenFailsAt g ds p failed → StopsFitting g ds p (rule.Token failed)
  at_token failed h = record {
    stage = 4;
    comes = (h.alg, ((h.is_alg, h.lengths), h.covers));
    stops = λ c. token.never_both (terms_of g) p.stamp.stamp (of_root h.alg h.root) c.1 failed
        (passes_too one_root g ds p c.0 h.alg c.2.0.0.0 h.is_alg c.2.1.root h.root c.2.1.is_root h.is_root c.1
        c.2.1.passes) h.fails;
    is = (failed, refl, h);
  }

  at_reading : (failed : TokenRule) → TokenUnread g p failed → StopsFitting g ds p (rule.Token failed)
  at_reading failed h = record { stage = 0; comes = tt; stops = h.unread; is = (failed, refl, h.fails) }

  at_order : IsDisordered g ds p → StopsFitting g ds p rule.Order
  at_order h = record {
    stage = 5;
    comes = (h.alg, h.moment, (((h.is_alg, h.lengths), h.covers), h.imprints));
    stops = λ c. h.not (subst (λ (m : ℕ). IsOrdered g p m)
        (moments_same g ds p c.0 h.alg c.1 h.moment c.2.1 h.imprints) c.3);
    is = refl;
  }

  stops_fitting : (failed : StampRule) → FailsToFit g ds p failed → StopsFitting g ds p failed
  stops_fitting rule.Algorithm h = at_algorithm h
  stops_fitting rule.HashLength h = at_lengths h
  stops_fitting rule.NotCovered h = at_covering h
  stops_fitting (rule.Token failed) (inl h) = at_token failed h
  stops_fitting (rule.Token failed) (inr h) = at_reading failed h
  stops_fitting rule.Order h = at_order h
  stops_fitting rule.Weak h = absurd h
  stops_fitting rule.Lapsed h = absurd h
  stops_fitting rule.Others h = absurd h

  further : (a b : ℕ) → a < b → Comes g ds b p → (Comes g ds (suc a) p → ⊥) → ⊥
  further a b lt comes stops = stops (lowered (Comes g ds) (falls g ds) (suc a) b p (omega (arith, lt)) comes)

  -- what fits comes to the end
  comes_to_end : (n : ℕ) → Fits g ds p → Comes g ds (6 + n) p
  comes_to_end n (alg, m, f) =
      subst (λ (k : ℕ). Comes g ds k p) (let e : suc (suc (suc (suc (suc (suc n))))) ≡ 6 + n = omega arith in e)
      (alg, m, (((f.is_alg, f.lengths), f.covers), f.imprints), f.ordered)

  pub never_unfit : Fits g ds p → (failed : StampRule) → FailsToFit g ds p failed → ⊥
  never_unfit fits failed h =
      let s = stops_fitting failed h in
      further s.stage (6 + s.stage) (omega arith) (comes_to_end s.stage fits) s.stops

  -- at one place it fails one rule
  same_rule : (n : ℕ) (a b : StampRule) → IsRuleAt g ds p n a → IsRuleAt g ds p n b → stamp_alone a ≡ stamp_alone b
  same_rule zero a b (r, e, h) (s, f, k) = ap stamp_alone e
      ∙ ap (λ (x : TokenRule). rule.Token x) (token.one_rule (terms_of g) p.stamp.stamp of_none r s h k)
      ∙ sym (ap stamp_alone f)
  same_rule (suc zero) a b e f = ap stamp_alone (e ∙ sym f)
  same_rule (suc (suc zero)) a b e f = ap stamp_alone (e ∙ sym f)
  same_rule (suc (suc (suc zero))) a b e f = ap stamp_alone (e ∙ sym f)
  same_rule (suc (suc (suc (suc zero)))) a b (r, e, h) (s, f, k) = ap stamp_alone e
      ∙ ap (λ (x : TokenRule). rule.Token x) (token.one_rule (terms_of g) p.stamp.stamp (of_root k.alg k.root) r s
      (fails_too one_root g ds p h.alg k.alg h.is_alg k.is_alg h.root k.root h.is_root k.is_root r h.fails) k.fails)
      ∙ sym (ap stamp_alone f)
  same_rule (suc (suc (suc (suc (suc n))))) a b e f = ap stamp_alone (e ∙ sym f)

  pub one_unfit : (a b : StampRule) → FailsToFit g ds p a → FailsToFit g ds p b → stamp_alone a ≡ stamp_alone b
  one_unfit a b h k = go (stops_fitting a h) (stops_fitting b k)
    where
      go : StopsFitting g ds p a → StopsFitting g ds p b → stamp_alone a ≡ stamp_alone b
      go s t = elim (cases_order s.stage t.stage) [
        | inl e ↦ same_rule t.stage a b (subst (λ (n : ℕ). IsRuleAt g ds p n a) e s.is) t.is
        | inr (inl lt) ↦ absurd (further s.stage t.stage lt t.comes s.stops)
        | inr (inr lt) ↦ absurd (further t.stage s.stage lt s.comes t.stops)
      ]

-- What stands beside a place, and how many places are left after it.
use Rattle.std.proofs.Common.{◌≡◌, ℕ, ◌<◌, List, [], ◌∷◌, ◌++◌, length, Some, None, refl, sym, ap, ◌∙◌}
use Rattle.std.proofs.Common.{inl, inr, arith, append_assoc, append-nil}
use Rattle.std.proofs.lemmas.Grind.{flat_map-append}
use Rattle.evidence_types.specs.StampValue.{StampValue}
use Rattle.check_evidence.specs.Places.{Place, chain_of, first_of, last_of, stamps_of, first_beside, preceding}
use Rattle.check_evidence.specs.Places.{following}
use Rattle.judge_evidence.specs.Going.{IsFirstPlace, IsLastPlace, IsNextInChain, IsNextPlace}

abbrev Stamps : Type 0
Stamps = List StampValue

abbrev Chains : Type 0
Chains = List (List StampValue)

-- the stamps that are left after it
abbrev pub left_after : Place → Stamps
left_after p = p.after ++ stamps_of p.later

abbrev pub how_many_left : Place → ℕ
how_many_left p = length (left_after p)

pub last_is : (l : Stamps) (s : StampValue) → last_of (l ++ s ∷ []) ≡ Some s
last_is [] s = refl
last_is (t ∷ []) s = refl
last_is (t ∷ u ∷ l) s = last_is (u ∷ l) s

-- what follows is the first that is left
pub next_left : (p q : Place) → IsNextPlace p q → left_after p ≡ q.stamp ∷ left_after q
next_left p q (inl h) = λ i. h.after i ++ stamps_of (sym h.later i)
next_left p q (inr h) = (λ i. h.after i ++ stamps_of (h.later i))
    ∙ ap (λ (l : Stamps). (l ++ q.stamp ∷ q.after) ++ stamps_of q.later) h.before

pub follows_next : (p q : Place) → IsNextPlace p q → following p ≡ Some q.stamp
follows_next p q h = ap first_of (next_left p q h)

pub fewer_left : (p q : Place) → IsNextPlace p q → how_many_left q < how_many_left p
fewer_left p q h = let e = ap (λ (l : Stamps). length l) (next_left p q h) in omega arith

pub none_follows : (p : Place) → IsLastPlace p → following p ≡ None
none_follows p h = λ i. first_of (h.no_stamp i ++ stamps_of (h.no_chain i))

-- what is before the next
pub before_next : (p q : Place) → IsNextPlace p q → preceding q ≡ Some p.stamp
before_next p q (inl h) = (λ i. last_of (stamps_of (h.earlier i) ++ h.before i))
    ∙ ap last_of (sym (append_assoc (stamps_of p.earlier) p.before (p.stamp ∷ [])))
    ∙ last_is (stamps_of p.earlier ++ p.before) p.stamp
before_next p q (inr h) = (λ i. last_of (stamps_of (h.earlier i) ++ h.before i))
    ∙ ap last_of (append-nil (stamps_of (p.earlier ++ chain_of p ∷ []))
    ∙ flat_map-append (λ (c : Stamps). c) p.earlier (chain_of p ∷ [])
    ∙ ap (λ (l : Stamps). stamps_of p.earlier ++ l) (append-nil (chain_of p)
    ∙ ap (λ (l : Stamps). p.before ++ p.stamp ∷ l) h.after)
    ∙ sym (append_assoc (stamps_of p.earlier) p.before (p.stamp ∷ [])))
    ∙ last_is (stamps_of p.earlier ++ p.before) p.stamp

pub none_before : (p : Place) → IsFirstPlace p → preceding p ≡ None
none_before p h = λ i. last_of (stamps_of (h.no_chain i) ++ h.no_stamp i)

-- the first of the chain is the same in a chain, and the next chain begins with what comes next
pub same_beside : (p q : Place) → IsNextInChain p q → first_beside q ≡ first_beside p
same_beside p q h = ap first_of (ap (λ (l : Stamps). l ++ q.stamp ∷ q.after) h.before
    ∙ append_assoc p.before (p.stamp ∷ []) (q.stamp ∷ q.after)
    ∙ ap (λ (l : Stamps). p.before ++ p.stamp ∷ l) (sym h.after))

pub itself_beside : (p : Place) → p.before ≡ [] → first_beside p ≡ Some p.stamp
itself_beside p h = ap (λ (l : Stamps). first_of (l ++ p.stamp ∷ p.after)) h

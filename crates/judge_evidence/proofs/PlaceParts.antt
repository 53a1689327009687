-- What is kept of a place belongs together, and so does what is kept of the next.
use Rattle.std.proofs.Common.{◌≡◌, ◌-◌, ◌+◌, List, [], ◌∷◌, ◌++◌, length, take, refl, sym, ap, ◌∙◌, subst, arith}
use Rattle.std.proofs.Common.{append_assoc, Option, Some, None, MatchOption, inr}
use Rattle.std.specs.List.{flat_map}
use Rattle.std.proofs.Math.Seq.{take-append_seam}
use Rattle.std.proofs.lemmas.List.{length-append}
use Rattle.std.proofs.lemmas.Grind.{flat_map-append}
use Rattle.evidence_types.specs.StampValue.{StampValue}
use Rattle.check_evidence.specs.Places.{Place, chain_of, last_of}
use Rattle.judge_evidence.specs.Going.{IsLastPlace, IsNextInChain, IsNextPlace}
use Rattle.judge_evidence.specs.PlaceParts.{before_end, place_of, ArePlaceParts}
use Rattle.judge_evidence.proofs.Neighbours.{last_is}

pub before_end_of : {A : Type 0} (xs end : List A) → before_end (xs ++ end) end ≡ xs
before_end_of xs end =
    let e : length (xs ++ end) - length end ≡ length xs = omega (arith, length-append xs end) in
    ap (λ n. take n (xs ++ end)) e ∙ take-append_seam xs end

-- a list is what is before its end, and its end
pub split_at : {A : Type 0} (whole xs end : List A) → whole ≡ xs ++ end → before_end whole end ≡ xs
split_at whole xs end h = ap (λ w. before_end w end) h ∙ before_end_of xs end

pub joins : {A : Type 0} (whole xs end : List A) → whole ≡ xs ++ end → whole ≡ before_end whole end ++ end
joins whole xs end h = h ∙ ap (λ w. w ++ end) (sym (split_at whole xs end h))

-- one more is before what follows it
pub one_more : {A : Type 0} (whole : List A) (x : A) (end : List A)
    → whole ≡ before_end whole (x ∷ end) ++ x ∷ end → before_end whole end ≡ before_end whole (x ∷ end) ++ x ∷ []
one_more whole x end h = split_at whole (before_end whole (x ∷ end) ++ x ∷ []) end
    (h ∙ sym (append_assoc (before_end whole (x ∷ end)) (x ∷ []) end))

pub joins_more : {A : Type 0} (whole : List A) (x : A) (end : List A)
    → whole ≡ before_end whole (x ∷ end) ++ x ∷ end → whole ≡ before_end whole end ++ end
joins_more whole x end h = joins whole (before_end whole (x ∷ end) ++ x ∷ []) end
    (h ∙ sym (append_assoc (before_end whole (x ∷ end)) (x ∷ []) end))

-- all is the end of itself
pub all_of : {A : Type 0} (whole : List A) → before_end whole whole ≡ []
all_of whole = split_at whole [] whole refl

pub joins_all : {A : Type 0} (whole : List A) → whole ≡ before_end whole whole ++ whole
joins_all whole = joins whole [] whole refl

-- how many are before the end
pub length_before : {A : Type 0} (whole end : List A) → whole ≡ before_end whole end ++ end
    → length (before_end whole end) + length end ≡ length whole
length_before whole end h = sym (length-append (before_end whole end) end) ∙ ap (λ w. length w) (sym h)

-- what is made of each before the end is before what is made of each of the end
pub flat_before : {X A : Type 0} (f : X → List A) (whole end : List X) → whole ≡ before_end whole end ++ end
    → before_end (flat_map f whole) (flat_map f end) ≡ flat_map f (before_end whole end)
flat_before f whole end h = split_at (flat_map f whole) (flat_map f (before_end whole end)) (flat_map f end)
    (ap (λ w. flat_map f w) h ∙ flat_map-append f (before_end whole end) end)

-- ---- the next place

module _ (chains onward later : List (List StampValue)) (chain : List StampValue) (previous : Option StampValue)
    (stamp : StampValue) (after : List StampValue)
    (parts : ArePlaceParts chains onward later chain previous stamp after) where
  pub next_parts : (next : StampValue) (others : List StampValue) → after ≡ next ∷ others
      → ArePlaceParts chains onward later chain (Some stamp) next others
  next_parts next others e = record {
    ends = parts.ends;
    begins = parts.begins;
    its = subst (λ (l : List StampValue). chain ≡ before_end chain l ++ l) e (joins_more chain stamp after parts.its);
    last = sym (last_is (before_end chain (stamp ∷ after)) stamp)
        ∙ ap last_of (sym (one_more chain stamp after parts.its) ∙ ap (before_end chain) e);
  }

  pub next_in_chain : (next : StampValue) (others : List StampValue) → after ≡ next ∷ others
      → IsNextInChain (place_of chains onward later chain stamp after) (place_of chains onward later chain next others)
  next_in_chain next others e = record {
    earlier = refl;
    before = ap (before_end chain) (sym e) ∙ one_more chain stamp after parts.its;
    after = e;
    later = refl;
  }

  onward_parts : chains ≡ before_end chains (chain ∷ later) ++ chain ∷ later
  onward_parts = subst (λ (l : List (List StampValue)). chains ≡ before_end chains l ++ l) parts.begins parts.ends

  pub later_parts : chains ≡ before_end chains later ++ later
  later_parts = joins_more chains chain later onward_parts

  pub after_chain : (q : Option Place) → after ≡ [] → MatchOption q (later ≡ [])
      (λ q. (q.earlier ≡ before_end chains later) × (q.before ≡ []) × (later ≡ chain_of q ∷ q.later))
      → MatchOption q (IsLastPlace (place_of chains onward later chain stamp after))
      (IsNextPlace (place_of chains onward later chain stamp after))
  after_chain None none h = record { no_stamp = none; no_chain = h }
  after_chain (Some q) none h = inr (record {
    earlier = h.0 ∙ one_more chains chain later onward_parts
        ∙ (λ i. before_end chains (sym parts.begins i) ++ parts.its i ∷ []);
    before = h.1;
    after = none;
    later = h.2;
  })

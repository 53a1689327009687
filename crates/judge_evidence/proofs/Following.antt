-- A stamp stands whatever follows it, as long as it is used in time.
use Rattle.std.proofs.Common.{◌≡◌, ℕ, List, [], ◌∷◌, ◌++◌, Option, refl, sym, ◌∙◌}
use Rattle.std.proofs.lemmas.Grind.{flat_map-append}
use Rattle.evidence_types.specs.StampValue.{StampValue}
use Rattle.check_evidence.specs.Grounds.{Grounds, terms_of, of_root}
use Rattle.check_evidence.specs.Places.{Place, first_of, stamps_of, first_beside, following}
use Rattle.check_evidence.specs.StampStates.{HasTime, IsUntilBy}
use Rattle.check_evidence.specs.Standing.{IsInTime, Stands}
use Rattle.check_evidence.proofs.States.{passing_time}

abbrev pub Stamps : Type 0
Stamps = List StampValue

abbrev pub Chains : Type 0
Chains = List (List StampValue)

-- the stamps that follow it
abbrev pub all_after : Place → Stamps
all_after p = p.after ++ stamps_of p.later

-- the place has other stamps after it
abbrev pub with_after : Place → (after : Stamps) → (later : Chains) → Place
with_after p after later = record {
  earlier = p.earlier;
  before = p.before;
  stamp = p.stamp;
  after = after;
  later = later;
}

pub first_stays : (l : Stamps) (t : StampValue) (r q : Stamps) → first_of (l ++ t ∷ r) ≡ first_of (l ++ t ∷ q)
first_stays [] t r q = refl
first_stays (u ∷ l) t r q = refl

pub stamps_append : (a b : Chains) → stamps_of (a ++ b) ≡ stamps_of a ++ stamps_of b
stamps_append a b = flat_map-append (λ (c : Stamps). c) a b

-- the grounds of a check for which the last stamp must hold at another moment, or at its own
abbrev pub checked_at : Option ℕ → Grounds → Grounds
checked_at at g = record { trust = g.trust; vouches = g.vouches; ends = g.ends; at = at; whole = g.whole }

-- it stood with others after it
module _ (g : Grounds) (was at : Option ℕ) (ds : List (List ℕ)) (p : Place) (after : Stamps) (later : Chains) where
  pub stands_then : first_beside (with_after p after later) ≡ first_beside p
      → ((m : ℕ) → HasTime p.stamp m → IsInTime (following (with_after p after later)) was m
      → IsInTime (following p) at m)
      → ((end : ℕ) → IsUntilBy (following (with_after p after later)) was p.stamp end
      → IsUntilBy (following p) at p.stamp end)
      → Stands (checked_at was g) ds (with_after p after later) → Stands (checked_at at g) ds p
  stands_then beside in_time is_until st =
      let f = st.fits in
      record {
        alg = st.alg;
        moment = st.moment;
        fits = record {
          is_alg = record {
            its = f.is_alg.its;
            first = f.is_alg.first;
            is_first = sym beside ∙ f.is_alg.is_first;
            same = f.is_alg.same;
          };
          lengths = f.lengths;
          covers = f.covers;
          imprints = record {
            root = f.imprints.root;
            is_root = f.imprints.is_root;
            passes = f.imprints.passes;
          };
          ordered = record {
            later = f.ordered.later;
            in_time = in_time st.moment (passing_time (terms_of g) p.stamp (of_root st.alg f.imprints.root) st.moment
                f.imprints.passes) f.ordered.in_time;
          };
        };
        until = st.until;
        is_until = is_until st.until st.is_until;
        algs = st.algs;
        lasts = st.lasts;
      }

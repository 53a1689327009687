-- A record shows the same to whoever trusts more.
use Rattle.std.proofs.Common.{ℕ, List, Contains, Any}
use Rattle.cms_types.specs.AttributeValue.{AttributeValue}
use Rattle.cms_types.specs.SignerValue.{SignerValue}
use Rattle.trust_lists.specs.Entries.{EntryValue}
use Rattle.check_verdict.specs.Passing.{Due, StampedUnder, PassesFor}
use Rattle.check_verdict.proofs.PassesBy.{stamped_by, passes_by}
use Rattle.check_evidence.specs.Grounds.{Grounds, terms_of, of_root}
use Rattle.check_evidence.specs.Places.{Place}
use Rattle.check_evidence.specs.Standing.{Stands}
use Rattle.judge_evidence.specs.ShowingLaws.{trusting, MoreTrustShows}

-- what holds of one of these holds of one of those, if they contain these
any_more : {X : Type 0} (P Q : X → Type 0) (xs ys : List X) → ((x : X) → Contains xs x → Contains ys x)
    → ((x : X) → P x → Q x) → Any P xs → Any Q ys
any_more P Q xs ys contains holds h =
    let there = contains h.1 (h.0, h.2, h.3) in (there.0, h.1, there.1, there.2, holds h.1 h.4)

module _ (g : Grounds) (trust : List EntryValue) (more : (e : EntryValue) → Contains g.trust e → Contains trust e) where
  under_still : (s : SignerValue) (attributes : List AttributeValue) (m : ℕ) (e : EntryValue)
      → StampedUnder (terms_of g) s attributes m e → StampedUnder (terms_of (trusting trust g)) s attributes m e
  under_still s attributes m e h = stamped_by (terms_of g) trust g.vouches s attributes m e h h.vouched

  abbrev passes_still : (token : List ℕ) (due : Due) (m : ℕ) → PassesFor (terms_of g) token due m
      → PassesFor (terms_of (trusting trust g)) token due m
  passes_still token due m p = passes_by (terms_of g) trust g.vouches token due m p
      (any_more (StampedUnder (terms_of g) p.signer p.attributes m)
      (StampedUnder (terms_of (trusting trust g)) p.signer p.attributes m) g.trust trust more
      (under_still p.signer p.attributes m) p.entry)

  stands_still : (ds : List (List ℕ)) (p : Place) → Stands g ds p → Stands (trusting trust g) ds p
  stands_still ds p s =
      let f = s.fits in
      record {
        alg = s.alg;
        moment = s.moment;
        fits = record {
          is_alg = f.is_alg;
          lengths = f.lengths;
          covers = f.covers;
          imprints = record {
            root = f.imprints.root;
            is_root = f.imprints.is_root;
            passes = passes_still p.stamp.stamp (of_root s.alg f.imprints.root) s.moment f.imprints.passes;
          };
          ordered = record { later = f.ordered.later; in_time = f.ordered.in_time };
        };
        until = s.until;
        is_until = s.is_until;
        algs = s.algs;
        lasts = any_more _ _ g.trust trust more
            (λ e h. (under_still f.imprints.passes.signer f.imprints.passes.attributes s.moment e h.0, h.1)) s.lasts;
      }

pub shown_to_more : MoreTrustShows
shown_to_more g trust octets ds m more s = record {
  some_data = s.some_data;
  record_value = s.record_value;
  encodes = s.encodes;
  open_data = s.open_data;
  stands = λ p there. stands_still g trust more ds p (s.stands p there);
  first = s.first;
  is_first = s.is_first;
  moment = s.moment;
  whole = s.whole;
}

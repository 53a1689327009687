-- What becomes of a record that is renewed by a token over the root of a tree, in either way.
use Rattle.std.proofs.Common.{◌≡◌, ◌<◌, ◌≤◌, ◌^◌, ℕ, List, length, Option, sym, subst}
use Rattle.digests.specs.Digests.{octets_of}
use Rattle.digests.specs.declared.algorithm.Alg.{Alg}
use Rattle.evidence_types.specs.EvidenceValue.{EvidenceValue, EncodesEvidence, evidence_parts}
use Rattle.evidence_types.specs.StampValue.{StampValue}
use Rattle.check_evidence.specs.Grounds.{Grounds, of_root, terms_of}
use Rattle.check_evidence.specs.Showing.{Shows}
use Rattle.judge_evidence.specs.ShowingLaws.{held_at}
use Rattle.evidence_trees.specs.HashTrees.{HashTree}
use Rattle.evidence_making.specs.Laws.{TokenStands}
use Rattle.evidence_making.specs.Made.{stamp_with}
use Rattle.evidence_making.specs.RenewalLaws.{LastStands, ShowsStill}
use Rattle.library_records.specs.TreeRenewals.{IsNewRecord, IsTooLongNew, LeadUp, StampsTree, Way}
use Rattle.evidence_making.proofs.Made.{time_of}
use Rattle.evidence_making.proofs.RootStamps.{one_case, standing_stamps}

-- a token that stands on the root of a tree has the moment with which it stamps it
pub its_moment : (tree : HashTree) (token : List ℕ) (m n : ℕ) (g : Grounds) → StampsTree tree token m
    → TokenStands g tree.algorithm tree.root token n → m ≡ n
its_moment tree token m n g stamped stands =
    one_case.one_moment token stamped.root m n stamped.stamps (standing_stamps g stamped.root token n
    (subst (λ (a : Alg). TokenStands g a (octets_of stamped.root) token n) (sym stamped.is_root.algorithm)
    (subst (λ (r : List ℕ). TokenStands g tree.algorithm r token n) (sym stamped.is_root.octets) stands)))

module _ (renew : Way) (tree : HashTree) (leaf token octets : List ℕ) (alg : Alg) (of_tree : alg ≡ tree.algorithm)
    (values : List (List ℕ)) (up : LeadUp tree leaf values) (v : EvidenceValue) (encodes : EncodesEvidence octets v)
  where
    pub is_too_long : 2 ^ 32 ≤ length (evidence_parts (renew v alg values token))
        → IsTooLongNew renew tree leaf token octets
    is_too_long size = record {
      values = values;
      up = up;
      old = v;
      was = encodes;
      size = subst (λ (a : Alg). 2 ^ 32 ≤ length (evidence_parts (renew v a values token))) of_tree size;
    }

    module _ (new : List ℕ) where
      pub is_new_record : (Stay : List (List StampValue) → List ℕ → Type 0)
          → EncodesEvidence new (renew v alg values token) → Stay v.chains new
          → IsNewRecord renew Stay tree leaf token octets new
      is_new_record Stay encoded stay = record {
        values = values;
        up = up;
        old = v;
        was = encodes;
        encoded = subst (λ (a : Alg). EncodesEvidence new (renew v a values token)) of_tree encoded;
        stay = stay;
      }

      -- What the old record shows the new one shows, where the new time-stamp, with these lists, stands if the token
      -- does at a later moment.
      pub shown_after : (lists : Option (List (List (List ℕ))))
          → ShowsStill octets (stamp_with alg lists token) (renew v alg values token).chains new
          → (last m : ℕ) → StampsTree tree token m → last < m → (g : Grounds) (data_objects : List (List ℕ))
          → ((n : ℕ) → last < n → TokenStands g tree.algorithm tree.root token n
          → LastStands g data_objects (renew v tree.algorithm values token).chains)
          → (k n : ℕ) → TokenStands g tree.algorithm tree.root token n → Shows (held_at n g) octets data_objects k
          → Shows g new data_objects k
      shown_after lists still last m stamped later g data_objects stand k n stands =
          (subst (λ (a : Alg). ShowsStill octets (stamp_with a lists token) (renew v a values token).chains new)
          of_tree still) g data_objects k n
          (time_of (terms_of g) (stamp_with tree.algorithm lists token) (of_root tree.algorithm tree.root) n
          stands.passes)
          (stand n (subst (λ (x : ℕ). last < x) (its_moment tree token m n g stamped stands) later) stands)

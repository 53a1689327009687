-- What becomes of one record.
use Rattle.std.proofs.Common.{◌≡◌, ◌<◌, ◌≤◌, ◌^◌, ℕ, length, List, sym, ◌∙◌, subst}
use Rattle.digests.specs.Digests.{octets_of}
use Rattle.digests.specs.declared.algorithm.Alg.{Alg}
use Rattle.evidence_types.specs.EvidenceValue.{EvidenceValue, EncodesEvidence, evidence_parts}
use Rattle.check_evidence.specs.Grounds.{Grounds, of_root, terms_of}
use Rattle.evidence_trees.specs.HashTrees.{HashTree}
use Rattle.evidence_making.specs.declared.leaves.LastStamp.{LastStamp}
use Rattle.evidence_making.specs.Done.{IsRenewedBy}
use Rattle.evidence_making.specs.Laws.{TokenStands}
use Rattle.evidence_making.specs.Leaves.{IsLastStamp}
use Rattle.evidence_making.specs.Made.{stamp_of}
use Rattle.evidence_making.specs.Renewed.{renewed}
use Rattle.evidence_making.specs.RenewalLaws.{ShowsStill}
use Rattle.evidence_making.specs.Renewing.{ChainsStandIn}
use Rattle.evidence_making.proofs.StandsOn.{stands_in_chain}
use Rattle.evidence_making.proofs.Made.{time_of}
use Rattle.evidence_making.proofs.RootStamps.{one_case, standing_stamps}
use Rattle.cli_making.specs.Stamps.{StampsTree}
use Rattle.cli_renewing.specs.Renewing.{IsDone, IsRenewalOf, IsTooLong, LeadsUp, ShowsAfter}

-- a token that stands on the root of a tree has the moment with which it stamps it
pub its_moment : (tree : HashTree) (token : List ℕ) (m n : ℕ) (g : Grounds) → StampsTree tree token m
    → TokenStands g tree.algorithm tree.root token n → m ≡ n
its_moment tree token m n g (root, is_root, stamped) stands =
    one_case.one_moment token root m n stamped (standing_stamps g root token n
    (subst (λ (a : Alg). TokenStands g a (octets_of root) token n) (sym is_root.algorithm)
    (subst (λ (r : List ℕ). TokenStands g tree.algorithm r token n) (sym is_root.octets) stands)))

module _ (tree : HashTree) (token : List ℕ) (m : ℕ) (stamped : StampsTree tree token m) (octets : List ℕ)
    (last : LastStamp) (values : List (List ℕ)) (up : LeadsUp tree last.leaf values) (later : last.moment < m) where
  pub is_done : IsRenewedBy octets token last → IsDone tree token m octets
  is_done h = record { last = last; done = h; by = sym h.3.stood.by ∙ up.by; leaf = up.there; later = later }

  module _ (stood : IsLastStamp octets last) where
    by : last.alg ≡ tree.algorithm
    by = sym stood.3.by ∙ up.by

    shows_after : (v : EvidenceValue) (new : List ℕ) → EncodesEvidence octets v
        → ShowsStill octets (stamp_of tree.algorithm values token) (renewed v tree.algorithm values token).chains new
        → ShowsAfter tree token octets new
    shows_after v new encodes still g ds k n stands =
        still g ds k n
        (time_of (terms_of g) (stamp_of tree.algorithm values token) (of_root tree.algorithm tree.root) n
        stands.passes)
        (stands_in_chain octets stood.0 stood.1 last stood.3 g v tree values token ds n encodes (sym by) up.lists
        (subst (λ (x : ℕ). last.moment < x) (its_moment tree token m n g stamped stands) later) stands)

    pub is_renewal : (v : EvidenceValue) (new : List ℕ) → EncodesEvidence octets v
        → EncodesEvidence new (renewed v last.alg values token) → ChainsStandIn v.chains new
        → ShowsStill octets (stamp_of last.alg values token) (renewed v last.alg values token).chains new
        → IsRenewalOf tree token m octets new
    is_renewal v new encodes encoded stays still = record {
      last = last;
      stood = stood;
      by = by;
      later = later;
      values = values;
      up = up;
      old = v;
      was = encodes;
      encoded = subst (λ (a : Alg). EncodesEvidence new (renewed v a values token)) by encoded;
      stays = stays;
      shows = shows_after v new encodes (subst (λ (a : Alg). ShowsStill octets (stamp_of a values token)
          (renewed v a values token).chains new) by still);
    }

    pub too_long : (v : EvidenceValue) → EncodesEvidence octets v
        → 2 ^ 32 ≤ length (evidence_parts (renewed v last.alg values token)) → IsTooLong tree token octets
    too_long v encodes size =
        let there = subst (λ (a : Alg). 2 ^ 32 ≤ length (evidence_parts (renewed v a values token))) by size in
        record { last = last; stood = stood; values = values; up = up; size = (v, encodes, there) }

-- What becomes of one record.
use Rattle.std.proofs.Common.{◌≡◌, ◌<◌, ◌≤◌, ◌^◌, ℕ, Bool, length, List, Contains, sym, ◌∙◌, subst}
use Rattle.digests.specs.declared.algorithm.Alg.{Alg}
use Rattle.digests.specs.declared.value.Digest.{Digest}
use Rattle.evidence_types.specs.EvidenceValue.{EvidenceValue, EncodesEvidence, chains_parts, evidence_parts}
use Rattle.check_evidence.specs.Grounds.{of_root, terms_of}
use Rattle.evidence_trees.specs.Groups.{GroupValue}
use Rattle.evidence_trees.specs.HashTrees.{AreListsOf, HashTree}
use Rattle.evidence_making.specs.Done.{IsRehashedBy}
use Rattle.evidence_making.specs.Groups.{AreAmong, IsRehashLeaf}
use Rattle.evidence_making.specs.Made.{group_lists, stamp_with}
use Rattle.evidence_making.specs.Renewed.{rehashed}
use Rattle.evidence_making.specs.RenewalLaws.{ShowsStill}
use Rattle.evidence_making.specs.Renewing.{StandIn}
use Rattle.evidence_making.proofs.Groups.{group_stands}
use Rattle.evidence_making.proofs.Made.{time_of}
use Rattle.cli_making.specs.Stamps.{StampsTree}
use Rattle.cli_renewing.specs.Renewing.{LeadsUp}
use Rattle.cli_renewing.proofs.Renewals.{its_moment}
use Rattle.cli_rehashing.specs.Rehashing.{HasNewChain, IsNewChainOf, IsTooLongAnew, ShowsDataAfter}
use Rattle.cli_rehashing.specs.Standing.{IsNodeOf}

module _ (tree : HashTree) (token : List ℕ) (m : ℕ) (stamped : StampsTree tree token m) (octets : List ℕ)
    (alone : Bool) (alg : Alg) (digests : List Digest) (group : GroupValue) (leaf : Digest) (node : IsNodeOf group leaf)
    (last : ℕ) (values : List (List ℕ)) (up : LeadsUp tree leaf values) (later : last < m) where
  pub has_new_chain : IsRehashedBy octets token alg digests group last → HasNewChain tree token m alg digests octets
  has_new_chain h = record {
    by = sym h.is_group.algorithm ∙ sym node.by ∙ up.by;
    group = group;
    last = last;
    done = h;
    there = subst (λ (v : List ℕ). Contains tree.leaves v) node.octets up.there;
    later = later;
  }

  module _ (stood : IsRehashLeaf octets alone alg digests group last) (named : 0 < length digests) where
    by : alg ≡ tree.algorithm
    by = sym stood.3.lead.is_group.algorithm ∙ sym node.by ∙ up.by

    shows_after : (v : EvidenceValue) (new : List ℕ) → EncodesEvidence octets v
        → ShowsStill octets (stamp_with tree.algorithm (group_lists group.values values) token)
        (rehashed v tree.algorithm group.values values token).chains new
        → ShowsDataAfter tree digests token octets new
    shows_after v new encodes still g data_objects k n among stands =
        still g data_objects k n
        (time_of (terms_of g) (stamp_with tree.algorithm (group_lists group.values values) token)
        (of_root tree.algorithm tree.root) n stands.passes)
        (group_stands octets stood.0 stood.1 alone alg digests named group last stood.3 g v tree values token
        data_objects n encodes (subst (λ (a : Alg). AreAmong a digests data_objects) (sym by) among) (sym by)
        (subst (λ (v : List ℕ). AreListsOf tree v values) node.octets up.lists)
        (subst (λ (x : ℕ). last < x) (its_moment tree token m n g stamped stands) later) stands)

    pub is_new_chain : (v : EvidenceValue) (new : List ℕ) → EncodesEvidence octets v
        → EncodesEvidence new (rehashed v alg group.values values token) → StandIn (chains_parts v.chains) new
        → ShowsStill octets (stamp_with alg (group_lists group.values values) token)
        (rehashed v alg group.values values token).chains new
        → IsNewChainOf tree token m alone alg digests octets new
    is_new_chain v new encodes encoded stays still = record {
      by = by;
      group = group;
      last = last;
      stood = stood;
      leaf = leaf;
      node = node;
      later = later;
      values = values;
      up = up;
      old = v;
      was = encodes;
      encoded = subst (λ (a : Alg). EncodesEvidence new (rehashed v a group.values values token)) by encoded;
      stays = stays;
      shows = shows_after v new encodes
          (subst (λ (a : Alg). ShowsStill octets (stamp_with a (group_lists group.values values) token)
          (rehashed v a group.values values token).chains new) by still);
    }

    pub too_long : (v : EvidenceValue) → EncodesEvidence octets v
        → 2 ^ 32 ≤ length (evidence_parts (rehashed v alg group.values values token))
        → IsTooLongAnew tree token alone alg digests octets
    too_long v encodes size = record {
      by = by;
      group = group;
      last = last;
      stood = stood;
      leaf = leaf;
      node = node;
      values = values;
      up = up;
      size = (
        v,
        encodes,
        subst (λ (a : Alg). 2 ^ 32 ≤ length (evidence_parts (rehashed v a group.values values token))) by size,
      );
    }

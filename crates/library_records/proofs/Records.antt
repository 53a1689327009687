-- The record of a leaf of a tree.
use Rattle.std.proofs.Common.{◌≡◌, ◌≤◌, ◌^◌, ◌↔◌, ℕ, List, length, Contains, Option, Some, None, Result, Err, refl, sym}
use Rattle.std.proofs.Common.{IfSome, subst, inl, inr}
use Rattle.digests.specs.Algorithms.{length_of}
use Rattle.digests.specs.Digests.{alg_of, octets_of}
use Rattle.digests.specs.declared.algorithm.Alg.{Alg}
use Rattle.digests.specs.declared.value.Digest.{Digest}
use Rattle.evidence_types.specs.EvidenceValue.{EncodesEvidence, evidence_parts}
use Rattle.evidence_trees.specs.HashTrees.{HashTree, IsWayFrom, AreListsOf}
use Rattle.evidence_making.specs.Laws.{ShowsLeaf}
use Rattle.evidence_making.specs.Made.{made}
use Rattle.library_records.specs.TreeRenewals.{LeadUp, StampsTree}
use Rattle.evidence_making.specs.declared.fault.MakeFault.{MakeFault}
use Rattle.evidence_making.specs.declared.fault.MakeFault.TheVariants as make
use Rattle.cli_failures.specs.Failures.{failure_of_making}
use Rattle.library_records.specs.Trees.{IsDigestBy}
use Rattle.library_records.specs.Records.{IsLeaf, IsRecordOf, MakesNoRecord, ShowsData}

-- the octets are a leaf exactly if the digest that they are is one
pub leaf_of_digest : (P : Type 0) (tree : HashTree) (octets : List ℕ) (digest : Digest)
    → length octets ≡ length_of tree.algorithm → IsDigestBy tree octets digest
    → P ↔ ((alg_of digest ≡ tree.algorithm) × Contains tree.leaves (octets_of digest)) → P ↔ IsLeaf tree octets
leaf_of_digest P tree octets digest sized given h = (
  λ p. (sized, subst (λ (d : List ℕ). Contains tree.leaves d) given.is (h.0 p).1),
  λ l. h.1 (given.by, subst (λ (d : List ℕ). Contains tree.leaves d) (sym given.is) l.1),
)

-- the values that lead up from that digest, if there are some, lead up from the octets
pub leads_up : (values : Option (List (List ℕ))) (tree : HashTree) (its octets : List ℕ) → its ≡ octets
    → IfSome values (IsWayFrom tree its) → IfSome values (AreListsOf tree its) → IfSome values (LeadUp tree octets)
leads_up (Some values) tree its octets same way lists = record {
  way = subst (λ (l : List ℕ). IsWayFrom tree l values) same way;
  lists = subst (λ (l : List ℕ). AreListsOf tree l values) same lists;
}
leads_up None tree its octets same way lists = tt

module _ (tree : HashTree) (digest token : List ℕ) (is_leaf : IsLeaf tree digest) (m : ℕ)
    (stamped : StampsTree tree token m) (alg : Alg) (of_tree : alg ≡ tree.algorithm) (values : List (List ℕ))
    (up : LeadUp tree digest values) where
  shows : (octets : List ℕ) → ShowsLeaf alg values token octets → ShowsData tree digest token octets
  shows octets still g data_object n is stands =
      (subst (λ (a : Alg). ShowsLeaf a values token octets) of_tree still) g tree data_object n refl
      (subst (λ (l : List ℕ). AreListsOf tree l values) (sym is) up.lists) stands

  pub record_is : (octets : List ℕ) → EncodesEvidence octets (made alg values token) → ShowsLeaf alg values token octets
      → IsRecordOf tree digest token octets
  record_is octets encoded still = record {
    moment = m;
    stamped = stamped;
    leaf = is_leaf;
    values = values;
    up = up;
    encoded = subst (λ (a : Alg). EncodesEvidence octets (made a values token)) of_tree encoded;
    shows = shows octets still;
  }

  -- it isn't made, for this fault
  pub not_made : {O : Type 0} (r : Result O MakeFault) (fault : MakeFault) → r ≡ Err fault
      → (r ≡ Err make.TooLong → 2 ^ 32 ≤ length (evidence_parts (made alg values token)))
      → MakesNoRecord tree digest token (failure_of_making fault)
  not_made r make.TooLong is long = inr (inr (
    is_leaf,
    inr (
      refl,
      (m, stamped),
      record {
        values = values;
        up = up;
        size = subst (λ (a : Alg). 2 ^ 32 ≤ length (evidence_parts (made a values token))) of_tree (long is);
      },
    ),
  ))
  not_made r make.OutOfMemory is long = inl refl

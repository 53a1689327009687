-- What becomes of a record that gets a new chain.
use Rattle.std.proofs.Common.{◌≡◌, ◌⊎◌, ◌↔◌, ◌<◌, ℕ, Bool, true, false, List, [], ◌∷◌, length, Result, Err, refl, sym}
use Rattle.std.proofs.Common.{subst, inl, inr, arith}
use Rattle.der_core.specs.declared.fault.Fault.{Fault}
use Rattle.der_core.specs.Faults.{Faults}
use Rattle.der_core.specs.Grammar.{file}
use Rattle.digests.specs.Algorithms.{name_of}
use Rattle.digests.specs.Digests.{octets_of}
use Rattle.digests.specs.declared.algorithm.Alg.{Alg}
use Rattle.digests.specs.declared.value.Digest.{Digest}
use Rattle.evidence_types.specs.EvidenceTable.{evidence_record}
use Rattle.evidence_types.specs.EvidenceValue.{EvidenceValue, EncodesEvidence, chains_parts}
use Rattle.evidence_trees.specs.Groups.{GroupValue}
use Rattle.evidence_trees.specs.HashTrees.{HashTree}
use Rattle.evidence_making.specs.declared.fault.LeafFault.{LeafFault}
use Rattle.evidence_making.specs.declared.fault.LeafFault.TheVariants as leaf_fault
use Rattle.evidence_making.specs.declared.fault.RenewFault.{RenewFault}
use Rattle.evidence_making.specs.Done.{IsDoneAnewBy, StandsAnewOn}
use Rattle.evidence_making.specs.Groups.{AreAmong, IsRehashLeaf, LeavesOthers, StandsInNewChain}
use Rattle.evidence_making.specs.Leaves.{HasNoMoment}
use Rattle.evidence_making.specs.Made.{group_lists, stamp_with}
use Rattle.evidence_making.specs.Renewed.{rehashed}
use Rattle.evidence_making.specs.RenewalLaws.{ShowsStill}
use Rattle.evidence_making.specs.Renewing.{IsAnswer, StandIn}
use Rattle.library_records.specs.TreeRenewals.{LeadUp}
use Rattle.library_records.proofs.TreeRenewals.{is_new_record, shown_after}
use Rattle.library_records.specs.NewChains.{AreGiven, HasNewChain, HasNoNewLeaf, IsDueAnew, IsFoundAnew, IsNewChainOf}
use Rattle.library_records.specs.NewChains.{IsNodeStampedAfter, IsNotDoneAnew, RehashesNot, StandsAnewOnNothing}
use Rattle.library_records.specs.NewChains.{over_group}
use Rattle.cli_failures.specs.declared.failure.Failure.{Failure}
use Rattle.cli_failures.specs.declared.failure.Failure.TheVariants as failure
use Rattle.cli_failures.specs.Failures.{failure_of_leaf}
use Rattle.library_records.specs.Renewals.{IsNotStamped, IsStampedAfter, failure_of_renewal, token_in}
use Rattle.library_records.proofs.NewRecords.{IsNoNewRecord, no_new_record}

-- ---- digests

-- there is one digest or more
pub some_given : (alg : Alg) (given : List ℕ) (digests : List Digest) → AreGiven alg given digests
    → 0 < length digests
some_given alg given [] are = absurd (let none : 0 < 0 = are.are.some in omega (arith, none))
some_given alg given (d ∷ digests) are = omega arith

-- what is lent of them is the same
pub lent_given : (alg : Alg) (given : List ℕ) (digests lent : List Digest) → lent ≡ digests
    → AreGiven alg given digests → AreGiven alg given lent
lent_given alg given digests lent same are = subst (λ (ds : List Digest). AreGiven alg given ds) (sym same) are

-- ---- what a renewal stands on

-- why that isn't found
pub stands_on_nothing : {T : Type 0} (octets : List ℕ) (alone : Bool) (digests : List Digest) (r : Result T LeafFault)
    (fault : LeafFault) → r ≡ Err fault → (r ≡ Err leaf_fault.NoStamp) ↔ HasNoMoment octets
    → (r ≡ Err leaf_fault.Unnamed) ↔ LeavesOthers octets alone digests
    → ((its : Fault) → r ≡ Err (leaf_fault.Malformed its) → Faults (file evidence_record) octets its)
    → (failure_of_leaf fault ≡ failure.Memory) ⊎ StandsAnewOnNothing octets alone digests (failure_of_leaf fault)
stands_on_nothing octets alone digests r (leaf_fault.Malformed its) is none unnamed malformed =
    inr (inl (inl (record { fault = its; malformed = refl; found = malformed its is })))
stands_on_nothing octets alone digests r leaf_fault.NoStamp is none unnamed malformed =
    inr (inl (inr (refl, none.0 is)))
stands_on_nothing octets alone digests r leaf_fault.Unnamed is none unnamed malformed = inr (inr (refl, unnamed.0 is))
stands_on_nothing octets alone digests r leaf_fault.OutOfMemory is none unnamed malformed = inl refl

-- what is found is what the renewal stands on
module _ (token octets : List ℕ) (alone : Bool) (alg : Alg) (digests : List Digest) where
  pub stands_anew : (done : Bool) (group : GroupValue) (m : ℕ)
      → IsFoundAnew token octets alone alg digests done group m
      → StandsAnewOn (token_in token) octets alone alg digests group m
  stands_anew true group m h = inl h
  stands_anew false group m h = inr (h.0, h.1)

  pub found_done : (done : Bool) (group : GroupValue) (m : ℕ) → done ≡ true
      → IsFoundAnew token octets alone alg digests done group m
      → IsDoneAnewBy (token_in token) octets alg digests group m
  found_done done group m is h = subst (λ (b : Bool). IsFoundAnew token octets alone alg digests b group m) is h

  pub found_leaf : (done : Bool) (group : GroupValue) (m : ℕ) → done ≡ false
      → IsFoundAnew token octets alone alg digests done group m
      → IsNotDoneAnew token octets alg digests × IsRehashLeaf octets alone alg digests group m
  found_leaf done group m is h = subst (λ (b : Bool). IsFoundAnew token octets alone alg digests b group m) is h

-- why there is no leaf
pub no_new_leaf : (name given octets : List ℕ) (alone : Bool) (alg : Alg) → name ≡ name_of alg
    → (digests : List Digest) → AreGiven alg given digests → (f : Failure)
    → (f ≡ failure.Memory) ⊎ StandsAnewOnNothing octets alone digests f → HasNoNewLeaf name given octets alone f
no_new_leaf name given octets alone alg named digests are f (inl memory) = inl memory
no_new_leaf name given octets alone alg named digests are f (inr nothing) =
    inr (inr (alg, named, inr (digests, are, nothing)))

-- ---- records, for the digests that are given

module _ (tree : HashTree) (given : List ℕ) (alone : Bool) (token octets : List ℕ) (alg : Alg)
    (of_tree : alg ≡ tree.algorithm) (digests : List Digest) (are : AreGiven alg given digests) where
  of_the_tree : AreGiven tree.algorithm given digests
  of_the_tree = subst (λ (a : Alg). AreGiven a given digests) of_tree are

  pub rehashes_nothing : (f : Failure) → (f ≡ failure.Memory) ⊎ StandsAnewOnNothing octets alone digests f
      → RehashesNot tree given alone token octets f
  rehashes_nothing f (inl memory) = inl memory
  rehashes_nothing f (inr nothing) = inr (inr (inl (digests, of_the_tree, inl nothing)))

  module _ (group : GroupValue) (last : ℕ) (leaf : Digest) (is_node : octets_of leaf ≡ group.node) where
    pub not_on_tree : StandsAnewOn (token_in token) octets alone alg digests group last → (f : Failure)
        → IsNotStamped tree leaf last token f → RehashesNot tree given alone token octets f
    not_on_tree stands f not = inr (inr (inl (
      digests,
      of_the_tree,
      inr (record {
        group = group;
        last = last;
        stands = subst (λ (a : Alg). StandsAnewOn (token_in token) octets alone a digests group last) of_tree stands;
        leaf = leaf;
        is_node = is_node;
        not = not;
      }),
    )))

    module _ (stamped : IsStampedAfter tree leaf last token) where
      node_stamped : IsNodeStampedAfter tree group last token
      node_stamped = record { leaf = leaf; is_node = is_node; stamped = stamped }

      pub has_new_chain : IsDoneAnewBy (token_in token) octets alg digests group last
          → HasNewChain tree given token octets
      has_new_chain done = record {
        digests = digests;
        are_given = of_the_tree;
        group = group;
        last = last;
        done = subst (λ (a : Alg). IsDoneAnewBy (token_in token) octets a digests group last) of_tree done;
        stamped = node_stamped;
      }

      module _ (not_done : IsNotDoneAnew token octets alg digests)
          (stood : IsRehashLeaf octets alone alg digests group last) (values : List (List ℕ))
          (way : LeadUp tree (octets_of leaf) values) where
        abbrev due : IsDueAnew tree given alone token octets
        due = record {
          digests = digests;
          are_given = of_the_tree;
          group = group;
          last = last;
          not_done = subst (λ (a : Alg). IsNotDoneAnew token octets a digests) of_tree not_done;
          stood = subst (λ (a : Alg). IsRehashLeaf octets alone a digests group last) of_tree stood;
          stamped = node_stamped;
        }

        up : LeadUp tree group.node values
        up = subst (λ (x : List ℕ). LeadUp tree x values) is_node way

        pub is_new_chain : StandsInNewChain octets alg digests group last → (v : EvidenceValue) (new : List ℕ)
            → EncodesEvidence octets v → EncodesEvidence new (rehashed v alg group.values values token)
            → StandIn (chains_parts v.chains) new
            → ShowsStill octets (stamp_with alg (group_lists group.values values) token)
            (rehashed v alg group.values values token).chains new → IsNewChainOf tree given alone token octets new
        is_new_chain suffices v new encodes encoded stays still = record {
          due = due;
          is = is_new_record (over_group group) tree group.node token octets alg of_tree values up v encodes new
              (λ chains all. StandIn (chains_parts chains) all) encoded stays;
          shows = λ g data_objects k n among. shown_after (over_group group) tree group.node token octets alg of_tree
              values up v encodes new (group_lists group.values values) still last stamped.moment stamped.stamped
              stamped.later g data_objects
              (λ m later stands. suffices g v tree values token data_objects m encodes
              (subst (λ (a : Alg). AreAmong a digests data_objects) (sym of_tree) among) (sym of_tree) up.lists later
              stands) k n;
        }

        not_so : (f : Failure) → IsNoNewRecord (over_group group) tree group.node token octets f
            → RehashesNot tree given alone token octets f
        not_so f (inl (inl memory)) = inl memory
        not_so f (inl (inr malformed)) = inr (inr (inl (digests, of_the_tree, inl (inl (inl malformed)))))
        not_so f (inr long) = inr (inr (inr (record { due = due; told = long.0; long = long.1 })))

        -- it gets none, for this fault
        pub not_rehashed : {O : Type 0} (items : O → List ℕ) (r : Result O RenewFault) (fault : RenewFault)
            → r ≡ Err fault → IsAnswer (λ v. rehashed v alg group.values values token) octets items r
            → RehashesNot tree given alone token octets (failure_of_renewal fault)
        not_rehashed items r fault is answer =
            not_so (failure_of_renewal fault)
            (no_new_record (over_group group) tree group.node token octets alg of_tree values up items r fault is
            answer)

-- What the renewals of records stand on, one after the other.
use Rattle.std.proofs.Common.{◌≡◌, ◌≢◌, ◌⊎◌, ℕ, Bool, true, false, List, [], ◌∷◌, ◌++◌, Option, Some, None, Result, Err}
use Rattle.std.proofs.Common.{refl, sym, ◌∙◌, subst, inl, inr}
use Rattle.std.specs.List.{AllByRecursion}
use Rattle.der_core.specs.declared.fault.Fault.{Fault}
use Rattle.der_core.specs.Faults.{Faults}
use Rattle.der_core.specs.Grammar.{file}
use Rattle.digests.specs.declared.algorithm.Alg.{Alg}
use Rattle.digests.specs.declared.value.Digest.{Digest}
use Rattle.evidence_types.specs.EvidenceTable.{evidence_record}
use Rattle.evidence_trees.specs.HashTrees.{HashTree}
use Rattle.evidence_trees.specs.Groups.{GroupValue}
use Rattle.evidence_sums.specs.Records.{RecordValue}
use Rattle.evidence_sums.proofs.Recorded.{all_by, some_records}
use Rattle.evidence_making.specs.declared.fault.LeafFault.{LeafFault}
use Rattle.evidence_making.specs.declared.fault.LeafFault.TheVariants as leaf_fault
use Rattle.evidence_making.specs.Leaves.{HasNoMoment}
use Rattle.evidence_making.specs.Done.{IsDoneAnewBy, StandsAnewOn}
use Rattle.evidence_making.specs.Groups.{IsRehashLeaf, LeavesOthers}
use Rattle.cli_failures.specs.declared.failure.Failure.{Failure}
use Rattle.cli_failures.specs.declared.failure.Failure.TheVariants as failure
use Rattle.cli_failures.specs.Failures.{failure_of_leaf}
use Rattle.cli_failures.specs.Files.{path_below}
use Rattle.cli_renewing.specs.declared.footing.Footing.{Footing}
use Rattle.cli_renewing.specs.Footings.{AreBy}
use Rattle.cli_renewing.specs.Keeping.{Ways, kept}
use Rattle.cli_renewing.specs.Steps.{AreOfFirst}
use Rattle.cli_renewing.proofs.Zips.{zip_push}
use Rattle.cli_rehashing.specs.declared.folder.RecordFolder.{RecordFolder}
use Rattle.cli_rehashing.specs.Footings.{AreLineFootings, IsLineFooting}
use Rattle.cli_rehashing.specs.Lines.{AreLines}
use Rattle.cli_renewing.specs.Renewing.{IsNoLeaf}
use Rattle.cli_rehashing.specs.Rehashing.{IsOutsideAnew}
use Rattle.cli_rehashing.specs.Standing.{HasNoLeaf, IsFoundAnew, IsNodeOf}
use Rattle.cli_rehashing.specs.Unrehashed.{RefusesRecord, StopsAt}
use Rattle.cli_rehashing.proofs.Walks.{Walked, along, goes_on}

abbrev Sums : Type 0
Sums = List RecordValue

-- ---- one record

-- what holds of the algorithm and the digests that are handed on holds of those of the record
pub at_record : (P : Alg → List Digest → Type 0) (a alg : Alg) (lent items digests : List Digest) → a ≡ alg
    → lent ≡ items → items ≡ digests → P a lent → P alg digests
at_record P a alg lent items digests by same are p =
    subst (λ (b : Alg). P b digests) by (subst (λ (ds : List Digest). P a ds) (same ∙ are) p)

module _ (token : Option (List ℕ)) (octets : List ℕ) (alone : Bool) (alg : Alg) (digests : List Digest) where
  -- what is found is what the renewal stands on
  pub stands_anew : (done : Bool) (group : GroupValue) (m : ℕ)
      → IsFoundAnew token octets alone alg digests done group m
      → StandsAnewOn token octets alone alg digests group m
  stands_anew true group m h = inl h
  stands_anew false group m h = inr (h.0, h.1)

  pub found_done : (done : Bool) (group : GroupValue) (m : ℕ) → done ≡ true
      → IsFoundAnew token octets alone alg digests done group m → IsDoneAnewBy token octets alg digests group m
  found_done done group m is h =
      subst (λ (b : Bool). IsFoundAnew token octets alone alg digests b group m) is h

  pub found_leaf : (done : Bool) (group : GroupValue) (m : ℕ) → done ≡ false
      → IsFoundAnew token octets alone alg digests done group m → IsRehashLeaf octets alone alg digests group m
  found_leaf done group m is h =
      (subst (λ (b : Bool). IsFoundAnew token octets alone alg digests b group m) is h).1

module _ (ways : Ways) (token : Option (List ℕ)) (folder : RecordFolder) (s : RecordValue) where
  pub line_footing : (name octets held : List ℕ) (alg : Alg) (lent digests : List Digest) (done : Bool)
      (group : GroupValue) (after : ℕ) (f : Footing) → name ≡ s.name → octets ≡ held → alg ≡ s.alg → lent ≡ digests
      → digests ≡ s.digests → ways.read (kept (path_below folder.path.now name) held)
      → IsFoundAnew token octets folder.alone alg lent done group after → IsNodeOf group f.leaf → f.after ≡ after
      → IsLineFooting ways token folder s f
  line_footing name octets held alg lent digests done group after f named same by lends are read found node at =
      record {
        octets = octets;
        read = subst (λ (n : List ℕ). ways.read (kept (path_below folder.path.now n) octets)) named
            (subst (λ (os : List ℕ). ways.read (kept (path_below folder.path.now name) os)) (sym same) read);
        group = group;
        stands = subst (λ (a : Alg). StandsAnewOn token octets folder.alone a s.digests group f.after) by
            (subst (λ (ds : List Digest). StandsAnewOn token octets folder.alone alg ds group f.after) (lends ∙ are)
            (subst (λ (m : ℕ). StandsAnewOn token octets folder.alone alg lent group m) (sym at)
            (stands_anew token octets folder.alone alg lent done group after found)));
        node = node;
      }

-- why there is no leaf
pub no_leaf : {X : Type 0} (octets : List ℕ) (alone : Bool) (digests : List Digest) (answer : Result X LeafFault)
    (fault : LeafFault) → answer ≡ Err fault → (answer ≡ Err leaf_fault.NoStamp → HasNoMoment octets)
    → (answer ≡ Err leaf_fault.Unnamed → LeavesOthers octets alone digests)
    → ((f : Fault) → answer ≡ Err (leaf_fault.Malformed f) → Faults (file evidence_record) octets f)
    → (failure_of_leaf fault ≡ failure.Memory) ⊎ HasNoLeaf octets alone digests (failure_of_leaf fault)
no_leaf octets alone digests answer (leaf_fault.Malformed f) is none others malformed =
    inr (inl (record { fault = f; malformed = refl; found = malformed f is }))
no_leaf octets alone digests answer leaf_fault.NoStamp is none others malformed = inr (inr (inl (refl, none is)))
no_leaf octets alone digests answer leaf_fault.Unnamed is none others malformed = inr (inr (inr (refl, others is)))
no_leaf octets alone digests answer leaf_fault.OutOfMemory is none others malformed = inl refl

-- ---- a record that the tree isn't over

module _ (tree : HashTree) (token : List ℕ) (m : ℕ) (alone : Bool) (alg : Alg) (digests : List Digest)
    (octets : List ℕ) where
  abbrev Outside : Type 0
  Outside = IsOutsideAnew tree token m alone alg digests octets

  pub outside_fault : (fault : Fault) → Faults (file evidence_record) octets fault → Outside
  outside_fault fault found = inl (fault, found)

  pub outside_none : (f : Failure) → (f ≡ failure.Memory → ⊥)
      → (f ≡ failure.Memory) ⊎ HasNoLeaf octets alone digests f → Outside
  outside_none f never (inl memory) = absurd (never memory)
  outside_none f never (inr (inl h)) = outside_fault h.fault h.found
  outside_none f never (inr (inr (inl (told, none)))) = inr (inl none)
  outside_none f never (inr (inr (inr (told, others)))) = inr (inr (inl others))

  pub outside_leaf : (done : Bool) (group : GroupValue) (last : ℕ) (f : Footing)
      → IsFoundAnew (Some token) octets alone alg digests done group last → IsNodeOf group f.leaf → f.after ≡ last
      → IsNoLeaf tree m f.leaf f.after → Outside
  outside_leaf done group last f found node at none = inr (inr (inr (
    group,
    last,
    stands_anew (Some token) octets alone alg digests done group last found,
    (f.leaf, node, subst (λ (n : ℕ). IsNoLeaf tree m f.leaf n) at none),
  )))

-- ---- all records

module _ (ways : Ways) (token : Option (List ℕ)) (folder : RecordFolder) where
  abbrev Stand : Sums → List Footing → Type 0
  Stand sums footings = AreLineFootings ways token folder sums footings

  module _ (sum : RecordValue) (left others sums : Sums) (footings : List Footing) (is : left ≡ sum ∷ others)
      (w : Walked (λ (front : Sums). Stand front footings) left sums) where
    pub one_more : (f : Footing) → IsLineFooting ways token folder sum f → (all : List Footing)
        → all ≡ footings ++ f ∷ [] → Walked (λ (front : Sums). Stand front all) others sums
    one_more f there all added = goes_on (λ (front : Sums). Stand front footings) left sums sum others is w
        (λ (front : Sums). Stand front all)
        (subst (λ (fs : List Footing). Stand (w.front ++ sum ∷ []) fs) (sym added)
        (zip_push (λ (s : RecordValue) (g : Footing). IsLineFooting ways token folder s g) w.front footings sum f w.so
        there))

    pub stops : (f : Failure) → RefusesRecord ways folder sum f → StopsAt ways token folder sums f
    stops f why = record {
      front = w.front;
      line = sum;
      others = others;
      all = along (λ (front : Sums). Stand front footings) left sums sum others is w;
      footings = footings;
      are = w.so;
      why = why;
    }

  -- their leaves are by the algorithm of the sums
  group_by : (octets : List ℕ) (alone : Bool) (alg : Alg) (digests : List Digest) (group : GroupValue) (m : ℕ)
      → (t : Option (List ℕ)) → StandsAnewOn t octets alone alg digests group m → group.algorithm ≡ alg
  group_by octets alone alg digests group m None (inl done) = absurd done
  group_by octets alone alg digests group m (Some t) (inl done) = done.is_group.algorithm
  group_by octets alone alg digests group m t (inr stands) = stands.1.3.lead.is_group.algorithm

  are_by : (alg : Alg) (sums : Sums) (footings : List Footing) → Stand sums footings
      → AllByRecursion (λ s. s.alg ≡ alg) sums → AreBy alg footings
  are_by alg [] [] stand all = tt
  are_by alg [] (f ∷ footings) stand all = absurd stand
  are_by alg (s ∷ sums) [] stand all = absurd stand
  are_by alg (s ∷ sums) (f ∷ footings) stand all = (
    stand.0.node.by
        ∙ group_by stand.0.octets folder.alone s.alg s.digests stand.0.group f.after token stand.0.stands ∙ all.0,
    are_by alg sums footings stand.1 all.1,
  )

  some_footings : (sums : Sums) (footings : List Footing) → Stand sums footings → footings ≡ [] → sums ≡ []
  some_footings [] footings stand none = refl
  some_footings (s ∷ sums) [] stand none = absurd stand
  some_footings (s ∷ sums) (f ∷ footings) stand none = absurd (let z : f ∷ footings ≡ [] = none in cc)

  module _ (alg : Alg) (text : List ℕ) (sums : Sums) (are : AreLines alg text sums) (footings : List Footing)
      (stand : AreLineFootings ways token folder sums footings) where
    pub of_first : AreOfFirst footings
    of_first = go footings (are_by alg sums footings stand (all_by alg text sums are.stated))
      where
        go : (fs : List Footing) → AreBy alg fs → AreOfFirst fs
        go [] by = tt
        go (f ∷ fs) by = subst (λ (a : Alg). AreBy a (f ∷ fs)) (sym by.0) by

    pub are_some : footings ≢ []
    are_some none = some_records alg text sums are.stated (some_footings sums footings stand none)

-- what is lent of them is the same
pub stand_as :
    (ways : Ways) (token : Option (List ℕ)) (folder : RecordFolder) (sums : Sums) (footings lent : List Footing)
    → lent ≡ footings → AreLineFootings ways token folder sums footings → AreLineFootings ways token folder sums lent
stand_as ways token folder sums footings lent same stand =
    subst (λ (fs : List Footing). AreLineFootings ways token folder sums fs) (sym same) stand

-- why there are no footings
abbrev pub Stops : Ways → Option (List ℕ) → RecordFolder → Sums → Failure → Type 0
Stops ways token folder sums f = (f ≡ failure.Memory) ⊎ StopsAt ways token folder sums f

-- what they stand on with this token
abbrev pub StandBy : Ways → (token : List ℕ) → RecordFolder → Sums → List Footing → Type 0
StandBy ways token folder sums footings = AreLineFootings ways (Some token) folder sums footings

-- What the renewal of a record by a hash tree stands on for all of its data objects.
use Rattle.std.proofs.Common.{◌≡◌, ◌≢◌, ◌↔◌, ℕ, ◌<◌, Bool, zero, suc, List, [], ◌∷◌, ◌++◌, None}
use Rattle.std.proofs.Common.{Result, Ok, Err, IfOk, IsSome, All, Contains, length, map, refl, sym, ap, ◌∙◌, subst}
use Rattle.std.proofs.Common.{arith, inr}
use Rattle.std.specs.List.{AllByRecursion, AllZip}
use Rattle.std.proofs.lemmas.List.Elements.{All-from_recursion, recursion_from_All}
use Rattle.der_core.specs.declared.fault.Fault.{Fault}
use Rattle.der_core.specs.Element.{el}
use Rattle.der_core.specs.Faults.{Faults}
use Rattle.der_core.specs.Grammar.{file}
use Rattle.digests.specs.Digests.{alg_of, octets_of}
use Rattle.digests.specs.Messages.{digest_of}
use Rattle.digests.specs.declared.algorithm.Alg.{Alg}
use Rattle.digests.specs.declared.value.Digest.{Digest}
use Rattle.evidence_types.specs.StampValue.{StampValue}
use Rattle.evidence_types.proofs.EvidenceReaders.{evidence_unique}
use Rattle.evidence_types.specs.EvidenceTable.{evidence_record}
use Rattle.evidence_types.specs.EvidenceValue.{EvidenceValue, EncodesEvidence, chains_parts}
use Rattle.check_evidence.specs.Places.{Place, IsIn, last_of, stamps_of}
use Rattle.check_evidence.specs.StampStates.{HasTime}
use Rattle.check_evidence.specs.Covering.{covered_of, covered_at}
use Rattle.judge_evidence.specs.Going.{IsLastPlace}
use Rattle.evidence_trees.specs.Groups.{GroupValue, IsGroup}
use Rattle.evidence_trees.specs.HashTrees.{AreLeavesOf}
use Rattle.evidence_making.specs.declared.fault.LeafFault.{LeafFault}
use Rattle.evidence_making.specs.declared.fault.LeafFault.TheVariants.{Malformed, NoStamp, OutOfMemory, Unnamed}
use Rattle.evidence_making.specs.declared.leaves.NewLeaf.{NewLeaf}
use Rattle.evidence_making.specs.Made.{group_lists, stamp_with}
use Rattle.evidence_making.specs.Groups.{AreAll, AreAmong, IsRehashOn, LeaveOthers, IsRehashLeaf, LeavesOthers}
use Rattle.evidence_making.specs.Groups.{IsDueInNewChain, StandsInNewChain}
use Rattle.evidence_making.specs.Leaves.{IsRehashOf, EndsWithoutTime, HasNoMoment, OfOpen}
use Rattle.evidence_making.specs.LeafSteps.{AreEndsOf, HaveAll, IsNewLeaf, IsNewLeafOf, IsOpened}
use Rattle.evidence_making.proofs.Standing.{at_the_end, rehashed_stamps_stand}
use Rattle.evidence_making.proofs.StandsOn.{bad, by_last, last_there, some_chain, covered_is, of_other, of_these}
use Rattle.evidence_making.proofs.StandsOn.{to_record}
use Rattle.evidence_making.proofs.StandsOn.{of_record, never_no_moment, is_rehash_of, never_encoded, not_open}

abbrev Chains : Type 0
Chains = List (List StampValue)

-- ---- lists

pub zip_push : {A B : Type 0} (R : A → B → Type 0) (xs : List A) (ys : List B) (x : A) (y : B) → AllZip R xs ys → R x y
    → AllZip R (xs ++ x ∷ []) (ys ++ y ∷ [])
zip_push R [] [] x y all r = (r, tt)
zip_push R [] (z ∷ ys) x y all r = absurd all
zip_push R (z ∷ xs) [] x y all r = absurd all
zip_push R (z ∷ xs) (w ∷ ys) x y all r = (all.0, zip_push R xs ys x y all.1 r)

pub zip_map : {A B : Type 0} (P R : A → B → Type 0) (xs : List A) (ys : List B) → ((x : A) (y : B) → P x y → R x y)
    → AllZip P xs ys → AllZip R xs ys
zip_map P R [] [] f all = tt
zip_map P R [] (y ∷ ys) f all = absurd all
zip_map P R (x ∷ xs) [] f all = absurd all
zip_map P R (x ∷ xs) (y ∷ ys) f all = (f x y all.0, zip_map P R xs ys f all.1)

-- with what holds of each of the first
pub zip_with : {A B : Type 0} (Q : A → Type 0) (R : A → B → Type 0) (xs : List A) (ys : List B) → AllByRecursion Q xs
    → AllZip R xs ys → AllZip (λ x y. Q x × R x y) xs ys
zip_with Q R [] [] q all = tt
zip_with Q R [] (y ∷ ys) q all = absurd all
zip_with Q R (x ∷ xs) [] q all = absurd all
zip_with Q R (x ∷ xs) (y ∷ ys) q all = ((q.0, all.0), zip_with Q R xs ys q.1 all.1)

pub zip_some : {A B : Type 0} (R : A → B → Type 0) (xs : List A) (ys : List B) → AllZip R xs ys → 0 < length xs
    → 0 < length ys
zip_some R [] ys all some = absurd (omega (arith, some))
zip_some R (x ∷ xs) [] all some = absurd all
zip_some R (x ∷ xs) (y ∷ ys) all some = omega arith

-- the first of two lists that go together
pub zip_first : {A B : Type 0} (R : A → B → Type 0) (xs : List A) (ys : List B) → AllZip R xs ys → 0 < length xs
    → (x : A) × (y : B) × R x y
zip_first R [] ys all some = absurd (omega (arith, some))
zip_first R (x ∷ xs) [] all some = absurd all
zip_first R (x ∷ xs) (y ∷ ys) all some = (x, y, all.0)

-- what holds of the second, where it follows
pub zip_right : {A B : Type 0} (R : A → B → Type 0) (Q : B → Type 0) (xs : List A) (ys : List B)
    → ((x : A) (y : B) → R x y → Q y) → AllZip R xs ys → AllByRecursion Q ys
zip_right R Q [] [] f all = tt
zip_right R Q [] (y ∷ ys) f all = absurd all
zip_right R Q (x ∷ xs) [] f all = absurd all
zip_right R Q (x ∷ xs) (y ∷ ys) f all = (f x y all.0, zip_right R Q xs ys f all.1)

-- ---- one data object

-- what a new chain must cover, by the digest of a data object
abbrev new_value : Alg → Chains → List ℕ → List ℕ
new_value alg chains h = digest_of alg (h ++ digest_of alg (el 0x30 (chains_parts chains)))

-- the leaves, by the digests
leaves_are : (alg : Alg) (chains : Chains) (m : ℕ) (digests leaves : List Digest)
    → AllZip (λ d leaf. (alg_of d ≡ alg) × IsRehashOf chains d leaf m) digests leaves
    → map octets_of leaves ≡ map (new_value alg chains) (map octets_of digests)
leaves_are alg chains m [] [] all = refl
leaves_are alg chains m [] (l ∷ leaves) all = absurd all
leaves_are alg chains m (d ∷ digests) [] all = absurd all
leaves_are alg chains m (d ∷ digests) (l ∷ leaves) all =
    let first : octets_of l ≡ new_value alg chains (octets_of d) = all.0.1.hashed
    ∙ ap (λ (a : Alg). new_value a chains (octets_of d)) all.0.0 in
    let rest = leaves_are alg chains m digests leaves all.1 in
    λ i. first i ∷ rest i

-- and by the data objects
covered_are : (alg : Alg) (chains : Chains) → chains ≢ [] → (data_objects : List (List ℕ))
    → map (new_value alg chains) (map (digest_of alg) data_objects) ≡ map (covered_of alg chains) data_objects
covered_are alg chains some [] = refl
covered_are alg chains some (o ∷ data_objects) =
    let first : new_value alg chains (digest_of alg o) ≡ covered_of alg chains o =
    covered_is alg chains (digest_of alg o) (new_value alg chains (digest_of alg o)) o some refl refl in
    let rest = covered_are alg chains some data_objects in
    λ i. first i ∷ rest i

contains_map : (f : List ℕ → List ℕ) (xs : List (List ℕ)) (x : List ℕ) → Contains xs x → Contains (map f xs) (f x)
contains_map f [] x c = absurd (omega (arith, c.1))
contains_map f (y ∷ xs) x (zero, lt, is) = (zero, omega arith, ap f is)
contains_map f (y ∷ xs) x (suc k, lt, is) =
    let c = contains_map f xs x (k, omega (arith, lt), is) in
    (suc c.0, omega (arith, c.1), c.2)

-- each data object that is among those of the digests has its value in the group
each_there : (alg : Alg) (chains : Chains) → chains ≢ [] → (digests : List Digest) (group : List (List ℕ))
    → All (Contains group) (map (new_value alg chains) (map octets_of digests)) → (data_objects : List (List ℕ))
    → AreAmong alg digests data_objects → AllByRecursion (Contains group) (map (covered_of alg chains) data_objects)
each_there alg chains some digests group all [] among = tt
each_there alg chains some digests group all (o ∷ data_objects) among =
    let values = map (new_value alg chains) (map octets_of digests) in
    let c : Contains values (new_value alg chains (digest_of alg o)) =
    contains_map (new_value alg chains) (map octets_of digests) (digest_of alg o) among.0 in
    let is : new_value alg chains (digest_of alg o) ≡ covered_of alg chains o =
    covered_is alg chains (digest_of alg o) (new_value alg chains (digest_of alg o)) o some refl refl in (
      subst (λ (v : List ℕ). Contains group v) (c.2 ∙ is) (all c.0 (new_value alg chains (digest_of alg o)) c.1),
      each_there alg chains some digests group all data_objects among.1,
    )

-- ---- all of them

module _ (octets : List ℕ) (v : EvidenceValue) (encodes : EncodesEvidence octets v) (alone : Bool) (alg : Alg)
    (digests : List Digest) (named : 0 < length digests) (group : GroupValue) (m : ℕ)
    (on : IsRehashOn alone v.chains alg digests group m) where
  -- that of one of the data objects
  of_one : (d : Digest) × (leaf : Digest) × ((alg_of d ≡ alg) × IsRehashOf v.chains d leaf m)
  of_one = zip_first _ digests on.lead.leaves on.lead.each named

  abbrev place : Place
  place = of_one.2.1.place

  some : v.chains ≢ []
  some = some_chain v.chains place of_one.2.1.there

  values_are : map octets_of on.lead.leaves ≡ map (new_value alg v.chains) (map octets_of digests)
  values_are = leaves_are alg v.chains m digests on.lead.leaves on.lead.each

  pub never_without : HasNoMoment octets → v.encryption ≡ None → ⊥
  never_without none open_data =
      never_no_moment octets v encodes open_data place m of_one.2.1.there of_one.2.1.is_last of_one.2.1.time none

  due : (values : List (List ℕ)) (token : List ℕ) (data_objects : List (List ℕ)) (p : Place)
      → map octets_of digests ≡ map (digest_of alg) data_objects
      → IsIn (v.chains ++ (stamp_with alg (group_lists group.values values) token ∷ []) ∷ []) p → IsLastPlace p
      → AreLeavesOf (covered_at alg data_objects p) group.values
  due values token data_objects p are there end =
      let s = stamp_with alg (group_lists group.values values) token in
      let covered : map octets_of on.lead.leaves ≡ covered_at alg data_objects p = values_are
      ∙ ap (λ (l : List (List ℕ)). map (new_value alg v.chains) l) are
      ∙ covered_are alg v.chains some data_objects
      ∙ ap (λ (q : Place). covered_at alg data_objects q) (sym (at_the_end v.chains [] s p there end)) in
      subst (λ (l : List (List ℕ)). AreLeavesOf l group.values) covered on.lead.is_group.values

-- of the value that the octets encode
module _ (octets : List ℕ) (v : EvidenceValue) (encodes : EncodesEvidence octets v) (alone : Bool) (alg : Alg)
    (digests : List Digest) (named : 0 < length digests) (group : GroupValue) (m : ℕ)
    (on : IsRehashOn alone v.chains alg digests group m) where
  on_other : (w : EvidenceValue) → EncodesEvidence octets w → IsRehashOn alone w.chains alg digests group m
  on_other w other = of_other octets v encodes w (λ chains. IsRehashOn alone chains alg digests group m) other on

  pub group_due : IsDueInNewChain octets alg digests group
  group_due w values token data_objects p other are there end =
      due octets w other alone alg digests named group m (on_other w other) values token data_objects p are there end

  pub group_stands : StandsInNewChain octets alg digests group m
  group_stands g w tree values token data_objects n other among by lists later stands =
      let k = on_other w other in
      let its = of_one octets w other alone alg digests named group m k in
      let filled = some octets w other alone alg digests named group m k in
      let is_group = k.lead.is_group in
      let each : AllByRecursion (Contains group.values) (map (covered_of alg w.chains) data_objects) =
      each_there alg w.chains filled digests group.values
      (subst (λ (l : List (List ℕ)). All (Contains group.values) l)
      (values_are octets w other alone alg digests named group m k) is_group.values.all) data_objects among in
      rehashed_stamps_stand g w tree group values token data_objects n its.2.1.place.stamp m is_group.good
      (is_group.algorithm ∙ sym by) lists
      (All-from_recursion (Contains group.values) _
      (subst (λ (a : Alg). AllByRecursion (Contains group.values) (map (covered_of a w.chains) data_objects)) (sym by)
      each))
      (ap (λ (c : Chains). last_of (stamps_of c)) (by_last w.chains its.2.1.place its.2.1.there its.2.1.is_last)
      ∙ last_there its.2.1.place.earlier its.2.1.place.before its.2.1.place.stamp) its.2.1.time later stands

-- ---- what is found

pub is_new_leaf :
    (chains : Chains) (first last : StampValue) (e : AreEndsOf chains first last) (alone : Bool) (alg : Alg)
    (digests leaves : List Digest) (group : GroupValue) (m : ℕ) → HasTime last m → AreAll alone chains (length digests)
    → All (λ d. alg_of d ≡ alg) digests → AllZip (IsNewLeafOf alg (chains_parts chains)) digests leaves
    → IsGroup alg (map octets_of leaves) group → IsRehashOn alone chains alg digests group m
is_new_leaf chains first last e alone alg digests leaves group m time all by are is_group = record {
  all = all;
  lead = record {
    leaves = leaves;
    each = zip_map (λ d leaf. (alg_of d ≡ alg) × IsNewLeafOf alg (chains_parts chains) d leaf)
        (λ d leaf. (alg_of d ≡ alg) × IsRehashOf chains d leaf m) digests leaves
        (λ d leaf h. (h.0, is_rehash_of chains first last e alg d leaf m time h.0 h.1))
        (zip_with (λ d. alg_of d ≡ alg) (IsNewLeafOf alg (chains_parts chains)) digests leaves
        (recursion_from_All (λ d. alg_of d ≡ alg) digests by) are);
    is_group = is_group;
  };
}

-- a leaf, as it is computed
pub new_leaf_by : (alg : Alg) (before bytes : List ℕ) (digest leaf sequence : Digest) → bytes ≡ before
    → octets_of sequence ≡ digest_of alg (el 0x30 bytes) → alg_of leaf ≡ alg
    → octets_of leaf ≡ digest_of alg (octets_of digest ++ octets_of sequence) → IsNewLeafOf alg before digest leaf
new_leaf_by alg before bytes digest leaf sequence same of by hashed = record {
  by = by;
  hashed = hashed ∙ ap (λ (x : List ℕ). digest_of alg (octets_of digest ++ x))
      (of ∙ ap (λ (b : List ℕ). digest_of alg (el 0x30 b)) same);
}

pub leave_others : (chains : Chains) (first last : StampValue) → AreEndsOf chains first last → (alone : Bool)
    (count m : ℕ) → HasTime last m → (AreAll alone chains count → ⊥) → LeaveOthers alone chains count
leave_others chains first last e alone count m time others = record {
  place = e.place;
  there = e.there;
  is_last = e.is_last;
  moment = m;
  time = subst (λ (s : StampValue). HasTime s m) (sym e.at) time;
  others = others;
}

pub have_all : (chains : Chains) (first last : StampValue) → AreEndsOf chains first last → (alone : Bool)
    (count m : ℕ) → HasTime last m → AreAll alone chains count → HaveAll alone chains count
have_all chains first last e alone count m time all = record {
  place = e.place;
  there = e.there;
  is_last = e.is_last;
  moment = m;
  time = subst (λ (s : StampValue). HasTime s m) (sym e.at) time;
  all = all;
}

-- the leaves are of one algorithm, and some
pub leaves_by : (alg : Alg) (before : List ℕ) (digests leaves : List Digest)
    → AllZip (IsNewLeafOf alg before) digests leaves
    → All (λ d. alg_of d ≡ alg) leaves
leaves_by alg before digests leaves are =
    All-from_recursion (λ d. alg_of d ≡ alg) leaves (zip_right (IsNewLeafOf alg before) (λ d. alg_of d ≡ alg) digests
    leaves (λ d leaf h. h.by) are)

-- ---- what is answered

abbrev Answer : Type 0
Answer = Result NewLeaf LeafFault

-- of a record that is open
module _ (octets : List ℕ) (v : EvidenceValue) (is : EncodesEvidence octets v × (v.encryption ≡ None)) (chains : Chains)
    (same : chains ≡ v.chains) (alone : Bool) (alg : Alg) (digests : List Digest) (named : 0 < length digests) where
  here : (Is : Chains → Type 0) → Is chains → Is v.chains
  here Is h = to_record octets v is chains same Is h

  there : (Is : Chains → Type 0) → Is chains → OfOpen octets Is
  there Is h = of_record octets v is chains same Is h

  theirs : (Is : Chains → Type 0) → OfOpen octets Is → Is v.chains
  theirs Is h = of_these octets v is.0 is.1 Is h

  pub leaf_found : (r : Answer) → IsNewLeaf alone chains alg digests r
      → IfOk r (λ n. IsRehashLeaf octets alone alg digests n.group n.after)
  leaf_found (Ok n) h = there (λ l. IsRehashOn alone l alg digests n.group n.after) h
  leaf_found (Err fault) h = tt

  pub leaf_due : (r : Answer) → IsNewLeaf alone chains alg digests r
      → IfOk r (λ n. IsDueInNewChain octets alg digests n.group)
  leaf_due (Ok n) h = group_due octets v is.0 alone alg digests named n.group n.after
      (here (λ l. IsRehashOn alone l alg digests n.group n.after) h)
  leaf_due (Err fault) h = tt

  pub leaf_stands : (r : Answer) → IsNewLeaf alone chains alg digests r
      → IfOk r (λ n. StandsInNewChain octets alg digests n.group n.after)
  leaf_stands (Ok n) h = group_stands octets v is.0 alone alg digests named n.group n.after
      (here (λ l. IsRehashOn alone l alg digests n.group n.after) h)
  leaf_stands (Err fault) h = tt

  pub leaf_malformed : (r : Answer) → IsNewLeaf alone chains alg digests r → (its : Fault) → r ≡ Err (Malformed its)
      → Faults (file evidence_record) octets its
  leaf_malformed (Ok n) h its e = absurd cc
  leaf_malformed (Err (Malformed fault)) h its e = absurd h
  leaf_malformed (Err NoStamp) h its e = absurd cc
  leaf_malformed (Err Unnamed) h its e = absurd cc
  leaf_malformed (Err OutOfMemory) h its e = absurd cc

  others_here : LeaveOthers alone chains (length digests) → HasNoMoment octets → ⊥
  others_here h none =
      let k = here (λ l. LeaveOthers alone l (length digests)) h in
      never_no_moment octets v is.0 is.1 k.place k.moment k.there k.is_last k.time none

  all_here : HaveAll alone chains (length digests) → HasNoMoment octets → ⊥
  all_here h none =
      let k = here (λ l. HaveAll alone l (length digests)) h in
      never_no_moment octets v is.0 is.1 k.place k.moment k.there k.is_last k.time none

  pub leaf_no_stamp : (r : Answer) → IsNewLeaf alone chains alg digests r → (r ≡ Err NoStamp) ↔ HasNoMoment octets
  leaf_no_stamp (Ok n) h = (
    λ e. absurd (let z = e in cc),
    λ none. absurd (never_without octets v is.0 alone alg digests named n.group n.after
        (here (λ l. IsRehashOn alone l alg digests n.group n.after) h) none is.1),
  )
  leaf_no_stamp (Err (Malformed fault)) h = absurd h
  leaf_no_stamp (Err NoStamp) h = (λ e. inr (there EndsWithoutTime h), λ none. refl)
  leaf_no_stamp (Err Unnamed) h = (λ e. absurd (let z = e in cc), λ none. absurd (others_here h none))
  leaf_no_stamp (Err OutOfMemory) h = (λ e. absurd (let z = e in cc), λ none. absurd (all_here h none))

  never_others : AreAll alone chains (length digests) → LeavesOthers octets alone digests → ⊥
  never_others all h =
      let k = theirs (λ l. LeaveOthers alone l (length digests)) h in
      k.others (here (λ l. AreAll alone l (length digests)) all)

  pub leaf_unnamed : (r : Answer) → IsNewLeaf alone chains alg digests r
      → (r ≡ Err Unnamed) ↔ LeavesOthers octets alone digests
  leaf_unnamed (Ok n) h = (λ e. absurd (let z = e in cc), λ k. absurd (never_others h.all k))
  leaf_unnamed (Err (Malformed fault)) h = absurd h
  leaf_unnamed (Err NoStamp) h = (
    λ e. absurd (let z = e in cc),
    λ k. let l = theirs (λ c. LeaveOthers alone c (length digests)) k in
        absurd (never_no_moment octets v is.0 is.1 l.place l.moment l.there l.is_last l.time
        (inr (there EndsWithoutTime h))),
  )
  leaf_unnamed (Err Unnamed) h = (λ e. there (λ l. LeaveOthers alone l (length digests)) h, λ k. refl)
  leaf_unnamed (Err OutOfMemory) h = (λ e. absurd (let z = e in cc), λ k. absurd (never_others h.all k))

-- of one that isn't
pub unnamed_opened : (octets : List ℕ) (alone : Bool) (digests : List Digest) (fault : LeafFault)
    → IsOpened octets (Err fault) → (bad NewLeaf fault ≡ bad NewLeaf Unnamed) ↔ LeavesOthers octets alone digests
unnamed_opened octets alone digests (Malformed fault) h = (
  λ e. absurd (let z = e in cc),
  λ k. absurd (never_encoded octets fault h k.0 k.1),
)
unnamed_opened octets alone digests NoStamp h = (
  λ e. absurd (let z = e in cc),
  λ k. absurd (not_open k.0.encryption k.2 (subst (λ (w : EvidenceValue). IsSome w.encryption)
      (evidence_unique octets h.record_value k.0 h.encodes k.1) h.encrypted)),
)
unnamed_opened octets alone digests Unnamed h = absurd h
unnamed_opened octets alone digests OutOfMemory h = absurd h

-- What the renewals of records stand on, one record after the other.
use Rattle.std.proofs.Common.{◌≡◌, ◌⊎◌, ◌<◌, ◌+◌, ◌↔◌, ℕ, Bool, true, false, List, [], ◌∷◌, ◌++◌, Option, Some}
use Rattle.std.proofs.Common.{Result, Err, refl, sym, ◌∙◌, subst, inl, inr, length, take, get_or}
use Rattle.std.specs.Prelude.{IsTrue}
use Rattle.std.specs.Borrow.{Bor}
use Rattle.digests.specs.Digests.{alg_of}
use Rattle.digests.specs.declared.algorithm.Alg.{Alg}
use Rattle.der_core.specs.declared.fault.Fault.{Fault}
use Rattle.der_core.specs.Faults.{Faults}
use Rattle.der_core.specs.Grammar.{file}
use Rattle.evidence_types.specs.EvidenceTable.{evidence_record}
use Rattle.evidence_trees.specs.HashTrees.{HashTree}
use Rattle.evidence_making.specs.declared.fault.LeafFault.{LeafFault}
use Rattle.evidence_making.specs.declared.fault.LeafFault.TheVariants as leaf
use Rattle.evidence_making.specs.declared.leaves.LastStamp.{LastStamp}
use Rattle.evidence_making.specs.Done.{IsDoneBy, StandsOn}
use Rattle.evidence_making.specs.Leaves.{HasNoStamp, IsLastStamp, IsOfLast}
use Rattle.cli_failures.specs.declared.failure.Failure.{Failure}
use Rattle.cli_failures.specs.declared.failure.Failure.TheVariants as failure
use Rattle.cli_failures.specs.Failures.{failure_of_leaf}
use Rattle.cli_renewing.specs.declared.footing.Footing.{Footing}
use Rattle.cli_renewing.specs.Footings.{AreFootings, IsFootingRead}
use Rattle.cli_renewing.specs.Keeping.{Ways, kept}
use Rattle.cli_renewing.specs.Renewing.{IsNoLeaf, IsOutside}
use Rattle.cli_renewing.specs.Standing.{HasNoFooting, IsFound}
use Rattle.cli_renewing.specs.Steps.{AreOfFirst, IsOfFirst}
use Rattle.cli_renewing.specs.Unrenewed.{IsMixed, RefusesRecord, StopsAt}
use Rattle.cli_renewing.proofs.Zips.{all_push, split_at, zip_next}

-- ---- one record

-- why the last time-stamp of a record isn't found
pub no_footing : (octets : List ℕ) (r : Result LastStamp LeafFault) (fault : LeafFault) → r ≡ Err fault
    → (r ≡ Err leaf.NoStamp) ↔ HasNoStamp octets
    → ((its : Fault) → r ≡ Err (leaf.Malformed its) → Faults (file evidence_record) octets its)
    → IsOfLast fault → HasNoFooting octets (failure_of_leaf fault)
no_footing octets r (leaf.Malformed its) is none malformed other =
    inl (record { fault = its; malformed = refl; found = malformed its is })
no_footing octets r leaf.NoStamp is none malformed other = inr (refl, none.0 is)
no_footing octets r leaf.Unnamed is none malformed other = absurd other
no_footing octets r leaf.OutOfMemory is none malformed other = absurd other

-- what is found is what the renewal stands on
pub stands_on : (token : Option (List ℕ)) (octets : List ℕ) (done : Bool) (last : LastStamp)
    → IsFound token octets done last → StandsOn token octets last
stands_on token octets true last h = inl h
stands_on token octets false last h = inr (h.0, h.1)

pub found_done : (token : Option (List ℕ)) (octets : List ℕ) (done : Bool) (last : LastStamp) → done ≡ true
    → IsFound token octets done last → IsDoneBy token octets last
found_done token octets done last is h = subst (λ (b : Bool). IsFound token octets b last) is h

pub found_last : (token : Option (List ℕ)) (octets : List ℕ) (done : Bool) (last : LastStamp) → done ≡ false
    → IsFound token octets done last → IsLastStamp octets last
found_last token octets done last is h = (subst (λ (b : Bool). IsFound token octets b last) is h).1

pub is_footing : (ways : Ways) (token : Option (List ℕ)) (path octets : List ℕ) (done : Bool) (last : LastStamp)
    → ways.read (kept path octets) → IsFound token octets done last
    → IsFootingRead ways token path (record { leaf = last.leaf; after = last.moment })
is_footing ways token path octets done last read found = record {
  octets = octets;
  read = read;
  is = record { last = last; stands = stands_on token octets done last found; leaf = refl; after = refl };
}

-- ---- a record that the tree isn't over

module _ (tree : HashTree) (token : List ℕ) (m : ℕ) (octets : List ℕ) where
  pub outside_fault : (fault : Fault) → Faults (file evidence_record) octets fault → IsOutside tree token m octets
  outside_fault fault found = inl (fault, found)

  pub outside_none : (f : Failure) → (f ≡ failure.Memory → ⊥) → (f ≡ failure.Memory) ⊎ HasNoFooting octets f
      → IsOutside tree token m octets
  outside_none f never (inl memory) = absurd (never memory)
  outside_none f never (inr (inl h)) = outside_fault h.fault h.found
  outside_none f never (inr (inr (told, none))) = inr (inl none)

  pub outside_leaf : (done : Bool) (last : LastStamp) → IsFound (Some token) octets done last
      → IsNoLeaf tree m last.leaf last.moment → IsOutside tree token m octets
  outside_leaf done last found none = inr (inr (last, stands_on (Some token) octets done last found, none))

-- ---- the algorithm of the first

pub first_more : (footings : List Footing) (f : Footing) → AreOfFirst footings → IsOfFirst footings (alg_of f.leaf)
    → AreOfFirst (footings ++ f ∷ [])
first_more [] f are is = (refl, tt)
first_more (g ∷ footings) f are is = all_push (λ (x : Footing). alg_of x.leaf ≡ alg_of g.leaf) (g ∷ footings) f are
    (sym is)

-- a test says whether an algorithm is that of the first of a slice
module _ (footings slice : List Footing) (alg : Alg) (f : Footing) (b : Bool) (same : slice ≡ footings)
    (is : alg ≡ alg_of f.leaf) (says : IsTrue b ↔ IsOfFirst slice alg) where
  pub of_first : b ≡ true → IsOfFirst footings (alg_of f.leaf)
  of_first holds = subst (λ (x : Alg). IsOfFirst footings x) is
      (subst (λ (fs : List Footing). IsOfFirst fs alg) same (says.0 holds))

  pub not_of_first : b ≡ false → IsOfFirst footings (alg_of f.leaf) → ⊥
  not_of_first fails h =
      let holds : b ≡ true = says.1 (subst (λ (fs : List Footing). IsOfFirst fs alg) (sym same)
      (subst (λ (x : Alg). IsOfFirst footings x) (sym is) h)) in
      absurd (let z : false ≡ true = sym fails ∙ holds in cc)

-- ---- many records

module _ (ways : Ways) (token : Option (List ℕ)) (paths : List (Bor (List ℕ))) (footings : List Footing) (i : ℕ)
    (d : Bor (List ℕ)) (within : i < length paths) (are : AreFootings ways token (take i paths) footings) where
  abbrev path : Bor (List ℕ)
  path = get_or paths i d

  pub one_more : (f : Footing) → IsFootingRead ways token path.now f
      → AreFootings ways token (take (i + 1) paths) (footings ++ f ∷ [])
  one_more f is =
      zip_next (λ (p : Bor (List ℕ)) (g : Footing). IsFootingRead ways token p.now g) paths footings i d f within are is

  stops : (f : Failure) → RefusesRecord ways path.now f ⊎ IsMixed ways token footings path.now f
      → StopsAt ways token paths f
  stops f why =
      let split = split_at paths i d within in
      record {
        front = take i paths;
        path = path;
        others = split.0;
        all = split.1;
        footings = footings;
        are = are;
        why = why;
      }

  pub refused_at : (f : Failure) → (f ≡ failure.Memory) ⊎ RefusesRecord ways path.now f
      → (f ≡ failure.Memory) ⊎ StopsAt ways token paths f
  refused_at f (inl memory) = inl memory
  refused_at f (inr why) = inr (stops f (inl why))

  pub mixed_at : (f : Footing) → AreOfFirst footings → (IsOfFirst footings (alg_of f.leaf) → ⊥)
      → IsFootingRead ways token path.now f → StopsAt ways token paths failure.Mixed
  mixed_at f by never there = stops failure.Mixed (inr (go footings by never))
    where
      go : (fs : List Footing) → AreOfFirst fs → (IsOfFirst fs (alg_of f.leaf) → ⊥)
          → IsMixed ways token fs path.now failure.Mixed
      go [] by never = absurd (never tt)
      go (g ∷ fs) by never = record {
        some = λ e. absurd (let z = e in cc);
        alg = alg_of g.leaf;
        by = by;
        other = f;
        there = there;
        differs = λ e. never (sym e);
        told = refl;
      }

-- what is lent of them is the same
pub footings_as : (ways : Ways) (token : Option (List ℕ)) (paths : List (Bor (List ℕ))) (footings lent : List Footing)
    → lent ≡ footings → AreFootings ways token paths footings → AreFootings ways token paths lent
footings_as ways token paths footings lent same are =
    subst (λ (fs : List Footing). AreFootings ways token paths fs) (sym same) are

-- what they stand on with this token
abbrev pub StandBy : Ways → (token : List ℕ) → List (Bor (List ℕ)) → List Footing → Type 0
StandBy ways token paths footings = AreFootings ways (Some token) paths footings

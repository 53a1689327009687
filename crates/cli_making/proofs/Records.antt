-- The record of a leaf: what it shows, and when it is too long or can't be put.
use Rattle.std.proofs.Common.{◌≡◌, ◌≤◌, ◌<◌, ◌^◌, ℕ, List, [], ◌∷◌, Option, Result, Ok, Err, sym, subst, refl, inl, inr}
use Rattle.std.proofs.Common.{length, arith}
use Rattle.std.specs.Prelude.{IfErr, IfOk, OnOk}
use Rattle.digests.specs.declared.algorithm.Alg.{Alg}
use Rattle.digests.specs.declared.value.Digest.{Digest}
use Rattle.digests.specs.Digests.{octets_of}
use Rattle.evidence_types.specs.EvidenceValue.{EncodesEvidence, evidence_parts}
use Rattle.evidence_trees.specs.HashTrees.{HashTree, IsRising, IsWayFrom, AreListsOf}
use Rattle.evidence_trees.proofs.Ways.{one_way}
use Rattle.evidence_making.specs.Laws.{ShowsLeaf}
use Rattle.evidence_making.specs.Made.{made}
use Rattle.evidence_making.specs.declared.fault.MakeFault.{MakeFault}
use Rattle.evidence_making.specs.declared.fault.MakeFault.TheVariants as make
use Rattle.evidence_sums.specs.SumLines.{SumValue}
use Rattle.cli_failures.specs.declared.failure.Failure.{Failure}
use Rattle.cli_failures.specs.Failures.{failure_of_making}
use Rattle.cli_making.specs.Adding.{Adds}
use Rattle.cli_making.specs.Placing.{Placed, Ways, placed}
use Rattle.cli_making.specs.Making.{IsFileOf, IsRecordOf, ShowsData}
use Rattle.cli_making.specs.Unmade.{FailsAt, IsNotMade, IsNotPut, IsTooLong}

shows_data : (tree : HashTree) (token : List ℕ) (digest : Digest) (values : List (List ℕ)) (octets : List ℕ)
    → AreListsOf tree (octets_of digest) values → ShowsLeaf tree.algorithm values token octets
    → ShowsData tree token digest octets
shows_data tree token digest values octets lists shows g data_object m is stands =
    shows g tree data_object m refl (subst (λ (leaf : List ℕ). AreListsOf tree leaf values) (sym is) lists) stands

record_is : (tree : HashTree) (token : List ℕ) (digest : Digest) (values : List (List ℕ)) (octets : List ℕ)
    → IsWayFrom tree (octets_of digest) values → AreListsOf tree (octets_of digest) values
    → EncodesEvidence octets (made tree.algorithm values token)
    → ShowsLeaf tree.algorithm values token octets → IsRecordOf tree token digest octets
record_is tree token digest values octets way lists encoded shows = record {
  values = values;
  way = way;
  lists = lists;
  encoded = encoded;
  shows = shows_data tree token digest values octets lists shows;
}

module _ (tree : HashTree) (token : List ℕ) (digest leaf : Digest) (alg : Alg) (values : List (List ℕ))
    (same : leaf ≡ digest) (by : alg ≡ tree.algorithm) (way : IsWayFrom tree (octets_of leaf) values)
    (lists : AreListsOf tree (octets_of leaf) values) where
  way_of_digest : IsWayFrom tree (octets_of digest) values
  way_of_digest = subst (λ (d : Digest). IsWayFrom tree (octets_of d) values) same way

  of_digest : AreListsOf tree (octets_of digest) values
  of_digest = subst (λ (d : Digest). AreListsOf tree (octets_of d) values) same lists

  -- what is made of the lists of the leaf is its record
  pub record_made : {O E : Type 0} (items : O → List ℕ) (r : Result O E)
      → IfOk r (λ o. EncodesEvidence (items o) (made alg values token))
      → IfOk r (λ o. ShowsLeaf alg values token (items o)) → IfOk r (λ o. IsRecordOf tree token digest (items o))
  record_made items (Err e) encoded shows = tt
  record_made items (Ok o) encoded shows = record_is tree token digest values (items o) way_of_digest of_digest
      (subst (λ (a : Alg). EncodesEvidence (items o) (made a values token)) by encoded)
      (subst (λ (a : Alg). ShowsLeaf a values token (items o)) by shows)

  pub record_too_long : 2 ^ 32 ≤ length (evidence_parts (made alg values token)) → IsTooLong tree token digest
  record_too_long size = record {
    values = values;
    way = way_of_digest;
    lists = of_digest;
    size = subst (λ (a : Alg). 2 ^ 32 ≤ length (evidence_parts (made a values token))) by size;
  }

-- a record that was made isn't too long
never_long : (tree : HashTree) (token : List ℕ) (digest : Digest) (octets : List ℕ) → IsRising tree.leaves
    → IsRecordOf tree token digest octets → IsTooLong tree token digest → ⊥
never_long tree token digest octets rising is long =
    let same : long.values ≡ is.values = one_way tree (octets_of digest) is.values long.values rising is.way long.way in
    let short : length (evidence_parts (made tree.algorithm is.values token)) < 2 ^ 32 = is.encoded.1.size in
    let size : 2 ^ 32 ≤ length (evidence_parts (made tree.algorithm is.values token)) =
    subst (λ (vs : List (List ℕ)). 2 ^ 32 ≤ length (evidence_parts (made tree.algorithm vs token))) same long.size in
    omega (arith, short, size)

module _ (tree : HashTree) (token : List ℕ) (s : SumValue) where
  -- a line of which there is a file fails when that is put
  pub not_put : (ways : Ways) (folder : List ℕ) → IsRising tree.leaves → (p : Placed) × IsFileOf folder tree token s p
      → (f : Failure) → FailsAt ways folder tree token s f → IsNotPut ways folder tree token s f
  not_put ways folder rising (p, of) f (inl (inl m)) = inl m
  not_put ways folder rising (p, of) f (inl (inr (told, long))) =
      absurd (never_long tree token s.digest p.octets rising of.is long)
  not_put ways folder rising (p, of) f (inr fails) = inr fails

  -- a record isn't made, for this fault
  pub not_made : {O : Type 0} (r : Result O MakeFault) (fault : MakeFault) → r ≡ Err fault
      → (r ≡ Err make.TooLong → IsTooLong tree token s.digest) → IsNotMade tree token s (failure_of_making fault)
  not_made r make.TooLong is long = inr (refl, long is)
  not_made r make.OutOfMemory is long = inl refl

  -- the file of a line
  pub its_file : (name octets : List ℕ) → name ≡ s.name → IsRecordOf tree token s.digest octets → (folder : List ℕ)
      → IsFileOf folder tree token s (placed folder name octets)
  its_file name octets by is folder = record { below = refl; by = by; is = is }

  module _ (ways : Ways) (folder name octets file_name file_octets : List ℕ) (named : name ≡ file_name)
      (same : octets ≡ file_octets)
      (is : (folder : List ℕ) → IsFileOf folder tree token s (placed folder file_name file_octets))
    where
      there : IsFileOf folder tree token s (placed folder name octets)
      there = subst (λ (n : List ℕ). IsFileOf folder tree token s (placed folder n octets)) (sym named)
          (subst (λ (os : List ℕ). IsFileOf folder tree token s (placed folder file_name os)) (sym same) (is folder))

      pub can_put : {T : Type 0} (r : Result T Failure) → OnOk r (ways.can (placed folder name octets))
          → OnOk r ((p : Placed) × IsFileOf folder tree token s p × ways.can p)
      can_put (Err f) can = tt
      can_put (Ok t) can = (placed folder name octets, there, can)

      pub fails_at : {T : Type 0} (r : Result T Failure) → IfErr r (ways.fails (placed folder name octets))
          → IfErr r (FailsAt ways folder tree token s)
      fails_at (Ok t) fails = tt
      fails_at (Err f) fails = inr (placed folder name octets, there, fails)

      pub was_put : {T : Type 0} (Did : Placed → Type 0) (before after : Option (List Placed)) (r : Result T Failure)
          → OnOk r (Did (placed folder name octets)) → OnOk r (Adds before after (placed folder name octets ∷ []))
          → OnOk r ((p : Placed) × IsFileOf folder tree token s p × Did p × Adds before after (p ∷ []))
      was_put Did before after (Err f) did adds = tt
      was_put Did before after (Ok t) did adds = (placed folder name octets, there, did, adds)

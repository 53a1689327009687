-- What becomes of a record that is renewed by a time-stamp.
use Rattle.std.proofs.Common.{◌≡◌, ◌≢◌, ℕ, Bool, true, false, List, [], ◌∷◌, Some, length, Result, Ok, Err, IfErr}
use Rattle.std.proofs.Common.{refl, sym, ◌∙◌, subst, inl, inr}
use Rattle.std.specs.Prelude.{◌==◌}
use Rattle.digests.specs.Digests.{octets_of}
use Rattle.evidence_types.specs.EvidenceValue.{EvidenceValue, EncodesEvidence}
use Rattle.evidence_trees.specs.HashTrees.{HashTree}
use Rattle.evidence_making.specs.declared.fault.RenewFault.{RenewFault}
use Rattle.evidence_making.specs.declared.leaves.LastStamp.{LastStamp}
use Rattle.evidence_making.specs.Done.{StandsOn}
use Rattle.evidence_making.specs.Leaves.{IsLastStamp}
use Rattle.evidence_making.specs.Made.{lists_of, stamp_of}
use Rattle.evidence_making.specs.Renewed.{renewed}
use Rattle.evidence_making.specs.RenewalLaws.{ShowsStill}
use Rattle.evidence_making.specs.Renewing.{ChainsStandIn, IsAnswer}
use Rattle.library_records.specs.TreeRenewals.{LeadUp}
use Rattle.library_records.proofs.TreeRenewals.{is_new_record, shown_after}
use Rattle.evidence_making.proofs.StandsOn.{stands_in_chain}
use Rattle.cli_failures.specs.declared.failure.Failure.{Failure}
use Rattle.library_records.specs.Renewals.{IsFound, IsNotDone, IsRenewalOf, IsStampedAfter, RenewsNot, StandsOnNothing}
use Rattle.library_records.specs.Renewals.{failure_of_renewal, token_in}
use Rattle.library_records.proofs.NewRecords.{IsNoNewRecord, no_new_record}

-- ---- tokens that are handed in

pub some_token : (token : List ℕ) → length token == 0 ≡ false → token_in token ≡ Some token
some_token [] some = absurd (let no : true ≡ false = some in cc)
some_token (o ∷ token) some = refl

-- where one is handed in, memory may be refused
pub some_octets : {T E : Type 0} (r : Result T E) (token : List ℕ) → length token == 0 ≡ false
    → IfErr r (λ _. token ≢ [])
some_octets r [] some = absurd (let no : true ≡ false = some in cc)
some_octets (Ok made) (o ∷ token) some = tt
some_octets (Err fault) (o ∷ token) some = λ none. absurd (let no : o ∷ token ≡ [] = none in cc)

-- ---- what a renewal stands on

-- a renewal that stands on nothing
pub renews_nothing : (tree : HashTree) (token octets : List ℕ) (f : Failure) → StandsOnNothing octets token f
    → RenewsNot tree token octets f
renews_nothing tree token octets f (inl memory) = inl memory.0
renews_nothing tree token octets f (inr none) = inr (inl none)

-- what is found is what the renewal stands on
pub stands_on : (token octets : List ℕ) (done : Bool) (last : LastStamp) → IsFound token octets done last
    → StandsOn (token_in token) octets last
stands_on token octets true last h = inl h
stands_on token octets false last h = inr (h.0, h.1)

pub found_last : (token octets : List ℕ) (done : Bool) (last : LastStamp) → done ≡ false
    → IsFound token octets done last → IsNotDone token octets × IsLastStamp octets last
found_last token octets done last is h = subst (λ (b : Bool). IsFound token octets b last) is h

-- ---- records

module _ (tree : HashTree) (token octets : List ℕ) (last : LastStamp)
    (stamped : IsStampedAfter tree last.leaf last.moment token) (not_done : IsNotDone token octets)
    (stood : IsLastStamp octets last) (values : List (List ℕ)) (up : LeadUp tree (octets_of last.leaf) values) where
  by : last.alg ≡ tree.algorithm
  by = sym stood.3.by ∙ stamped.by

  pub is_renewal : (v : EvidenceValue) (new : List ℕ) → EncodesEvidence octets v
      → EncodesEvidence new (renewed v last.alg values token) → ChainsStandIn v.chains new
      → ShowsStill octets (stamp_of last.alg values token) (renewed v last.alg values token).chains new
      → IsRenewalOf tree token octets new
  is_renewal v new encodes encoded stays still = record {
    last = last;
    not_done = not_done;
    stood = stood;
    stamped = stamped;
    is = is_new_record renewed tree (octets_of last.leaf) token octets last.alg by values up v encodes new ChainsStandIn
        encoded stays;
    shows = λ g data_objects k n. shown_after renewed tree (octets_of last.leaf) token octets last.alg by values up v
        encodes new (lists_of values) still last.moment stamped.moment stamped.stamped stamped.later g data_objects
        (λ m later stands. stands_in_chain octets stood.0 stood.1 last stood.3 g v tree values token data_objects m
        encodes (sym by) up.lists later stands) k n;
  }

  not_so : (f : Failure) → IsNoNewRecord renewed tree (octets_of last.leaf) token octets f
      → RenewsNot tree token octets f
  not_so f (inl (inl memory)) = inl memory
  not_so f (inl (inr malformed)) = inr (inl (inl malformed))
  not_so f (inr long) = inr (inr (inr (record {
    last = last;
    not_done = not_done;
    stood = stood;
    stamped = stamped;
    told = long.0;
    long = long.1;
  })))

  -- it isn't renewed, for this fault
  pub not_renewed : {O : Type 0} (items : O → List ℕ) (r : Result O RenewFault) (fault : RenewFault) → r ≡ Err fault
      → IsAnswer (λ v. renewed v last.alg values token) octets items r
      → RenewsNot tree token octets (failure_of_renewal fault)
  not_renewed items r fault is answer =
      not_so (failure_of_renewal fault)
      (no_new_record renewed tree (octets_of last.leaf) token octets last.alg by values up items r fault is answer)

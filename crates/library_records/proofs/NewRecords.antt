-- Why a record isn't renewed, in either way.
use Rattle.std.proofs.Common.{◌≡◌, ◌⊎◌, ◌↔◌, ℕ, List, Result, Err, refl, subst, inl, inr}
use Rattle.der_core.specs.declared.fault.Fault.{Fault}
use Rattle.der_core.specs.Faults.{Faults}
use Rattle.der_core.specs.Grammar.{file}
use Rattle.digests.specs.declared.algorithm.Alg.{Alg}
use Rattle.evidence_types.specs.EvidenceTable.{evidence_record}
use Rattle.evidence_trees.specs.HashTrees.{HashTree}
use Rattle.evidence_making.specs.declared.fault.LeafFault.{LeafFault}
use Rattle.evidence_making.specs.declared.fault.LeafFault.TheVariants as leaf_fault
use Rattle.evidence_making.specs.declared.fault.MakeFault.TheVariants as make
use Rattle.evidence_making.specs.declared.fault.RenewFault.{RenewFault}
use Rattle.evidence_making.specs.declared.fault.RenewFault.TheVariants as renew_fault
use Rattle.evidence_making.specs.Leaves.{HasNoStamp, IsOfLast}
use Rattle.evidence_making.specs.Renewing.{IsAnswer}
use Rattle.library_records.specs.TreeRenewals.{IsTooLongNew, LeadUp, Way}
use Rattle.library_records.proofs.TreeRenewals.{is_too_long}
use Rattle.cli_failures.specs.declared.failure.Failure.{Failure}
use Rattle.cli_failures.specs.declared.failure.Failure.TheVariants as failure
use Rattle.cli_failures.specs.Causes.{IsMalformed}
use Rattle.cli_failures.specs.Failures.{failure_of_leaf}
use Rattle.library_records.specs.Renewals.{HasNoLast, failure_of_renewal}

-- why what a renewal by a time-stamp stands on isn't found
pub unrenewable : {T : Type 0} (octets : List ℕ) (r : Result T LeafFault) (fault : LeafFault) → r ≡ Err fault
    → (r ≡ Err leaf_fault.NoStamp) ↔ HasNoStamp octets
    → ((its : Fault) → r ≡ Err (leaf_fault.Malformed its) → Faults (file evidence_record) octets its)
    → IsOfLast fault → HasNoLast octets (failure_of_leaf fault)
unrenewable octets r (leaf_fault.Malformed its) is none malformed other =
    inl (record { fault = its; malformed = refl; found = malformed its is })
unrenewable octets r leaf_fault.NoStamp is none malformed other = inr (refl, none.0 is)
unrenewable octets r leaf_fault.Unnamed is none malformed other = absurd other
unrenewable octets r leaf_fault.OutOfMemory is none malformed other = absurd other

-- the failures of a record that stands on something and isn't renewed
abbrev pub IsNoNewRecord : Way → HashTree → (leaf token octets : List ℕ) → Failure → Type 0
IsNoNewRecord renew tree leaf token octets f = ((f ≡ failure.Memory) ⊎ IsMalformed (file evidence_record) octets f)
    ⊎ ((f ≡ failure.Unmade make.TooLong) × IsTooLongNew renew tree leaf token octets)

module _ (renew : Way) (tree : HashTree) (leaf token octets : List ℕ) (alg : Alg) (of_tree : alg ≡ tree.algorithm)
    (values : List (List ℕ)) (up : LeadUp tree leaf values) where
  by_answer : {O : Type 0} (items : O → List ℕ) (fault : RenewFault)
      → IsAnswer (λ v. renew v alg values token) octets items (Err fault)
      → IsNoNewRecord renew tree leaf token octets (failure_of_renewal fault)
  by_answer items (renew_fault.Malformed its) answer =
      inl (inr (record { fault = its; malformed = refl; found = answer }))
  by_answer items renew_fault.TooLong answer = inr (
    refl,
    is_too_long renew tree leaf token octets alg of_tree values up answer.0 answer.1 answer.2,
  )
  by_answer items renew_fault.OutOfMemory answer = inl (inl refl)

  pub no_new_record : {O : Type 0} (items : O → List ℕ) (r : Result O RenewFault) (fault : RenewFault) → r ≡ Err fault
      → IsAnswer (λ v. renew v alg values token) octets items r
      → IsNoNewRecord renew tree leaf token octets (failure_of_renewal fault)
  no_new_record {O} items r fault is answer =
      by_answer items fault
      (subst (λ (x : Result O RenewFault). IsAnswer (λ v. renew v alg values token) octets items x) is answer)

-- What is found on the way to what a renewal by a hash tree stands on.
use Rattle.std.specs.Prelude.{◌≡◌, ◌⊎◌, ℕ, Bool, true, false, List, Option}
use Rattle.der_core.specs.Grammar.{file}
use Rattle.digests.specs.Digests.{alg_of, octets_of}
use Rattle.digests.specs.declared.algorithm.Alg.{Alg}
use Rattle.digests.specs.declared.value.Digest.{Digest}
use Rattle.evidence_trees.specs.Groups.{GroupValue}
use Rattle.evidence_types.specs.EvidenceTable.{evidence_record}
use Rattle.evidence_making.specs.declared.fault.LeafFault.TheVariants as leaf_fault
use Rattle.evidence_making.specs.Done.{IsDoneAnewBy}
use Rattle.evidence_making.specs.Groups.{IsRehashLeaf, LeavesOthers}
use Rattle.evidence_making.specs.Leaves.{HasNoMoment}
use Rattle.cli_failures.specs.declared.failure.Failure.{Failure}
use Rattle.cli_failures.specs.declared.failure.Failure.TheVariants as failure
use Rattle.cli_failures.specs.Causes.{IsMalformed}

-- the record isn't renewed already
abbrev pub IsNotDoneAnew : (token : Option (List ℕ)) → (octets : List ℕ) → Alg → (digests : List Digest) → Type 0
IsNotDoneAnew token octets alg digests = (group : GroupValue) (m : ℕ) → IsDoneAnewBy token octets alg digests group m
    → ⊥

-- the leaf is the node of a group
pub record IsNodeOf (group : GroupValue) (leaf : Digest) : Type 0 where
  pub by : alg_of leaf ≡ group.algorithm
  pub octets : octets_of leaf ≡ group.node

-- the record is renewed already, and this is what it stood on; or it isn't, and this is what its renewal stands on
abbrev pub IsFoundAnew : (token : Option (List ℕ)) → (octets : List ℕ) → (alone : Bool) → Alg → (digests : List Digest)
    → (done : Bool) → GroupValue → (m : ℕ) → Type 0
IsFoundAnew token octets alone alg digests true group m = IsDoneAnewBy token octets alg digests group m
IsFoundAnew token octets alone alg digests false group m = IsNotDoneAnew token octets alg digests
    × IsRehashLeaf octets alone alg digests group m

-- the octets encode no record; or, by U3, the record is encrypted, or its last time-stamp is no token; or, by U11, its
-- first list has other values than those of the digests
abbrev pub HasNoLeaf : (octets : List ℕ) → (alone : Bool) → (digests : List Digest) → Failure → Type 0
HasNoLeaf octets alone digests f = IsMalformed (file evidence_record) octets f
    ⊎ (((f ≡ failure.Unrenewable leaf_fault.NoStamp) × HasNoMoment octets)
    ⊎ ((f ≡ failure.Unrenewable leaf_fault.Unnamed) × LeavesOthers octets alone digests))

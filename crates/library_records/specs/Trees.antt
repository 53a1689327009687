-- Hash trees over digests that a caller states (RFC 4998, 4.2), and what a token is to stamp of them.
use Rattle.std.specs.Prelude.{◌≡◌, ◌<◌, ◌⊎◌, ℕ, List, length, Option, Some, None}
use Rattle.std.specs.List.{AllByRecursion, concat}
use Rattle.std.specs.Str.{IsUtf8}
use Rattle.digests.specs.declared.algorithm.Alg.{Alg}
use Rattle.digests.specs.declared.value.Digest.{Digest}
use Rattle.digests.specs.Algorithms.{name_of, length_of}
use Rattle.digests.specs.Digests.{alg_of, octets_of}
use Rattle.evidence_trees.specs.HashTrees.{HashTree, IsTreeOf}
use Rattle.evidence_making.specs.Stamping.{IsNoToken, StampsAnother}
use Rattle.library_records.specs.TreeRenewals.{IsRootOf}
use Rattle.evidence_making.specs.declared.fault.StampFault.TheVariants as stamp
use Rattle.cli_failures.specs.declared.failure.Failure.{Failure}
use Rattle.cli_failures.specs.declared.failure.Failure.TheVariants as failure
use Rattle.library_answers.specs.declared.answer.Answer.{Answer}
use Rattle.library_answers.specs.Numbers.{nothing, ruled}
use Rattle.library_answers.specs.Failures.{IsMade, IsUnmade}

-- ---- digests that a caller states

-- the octets are these digests by an algorithm, one or more, one after the other
pub record AreDigests (alg : Alg) (octets : List ℕ) (digests : List (List ℕ)) : Type 0 where
  pub some : 0 < length digests
  pub sized : AllByRecursion (λ d. length d ≡ length_of alg) digests
  pub joined : concat digests ≡ octets

-- the tree over such digests by the algorithm of this name
pub record IsTreeStated (name octets : List ℕ) (tree : HashTree) : Type 0 where
  pub alg : Alg
  pub named : name ≡ name_of alg
  pub digests : List (List ℕ)
  pub are : AreDigests alg octets digests
  pub over : IsTreeOf alg digests tree

-- no algorithm has the name, or the octets are no digests by the one that has it
abbrev pub StatesNoTree : (name octets : List ℕ) → Type 0
StatesNoTree name octets = ((IsUtf8 name → ⊥) ⊎ ((alg : Alg) → name ≡ name_of alg → ⊥))
    ⊎ ((alg : Alg) × (name ≡ name_of alg) × ((digests : List (List ℕ)) → AreDigests alg octets digests → ⊥))

-- the tree is there, with status 1; or none is: with 4 none is stated; with 7 memory was refused
abbrev pub ReadsTree : (name octets : List ℕ) → (read : Option HashTree) → (said : Answer) → (status : ℕ) → Type 0
ReadsTree name octets (Some tree) said status =
    IsTreeStated name octets tree × (said ≡ ruled 10 0 0) × (status ≡ 1)
ReadsTree name octets None said status =
    (said ≡ nothing) × (((status ≡ 4) × StatesNoTree name octets) ⊎ (status ≡ 7))

-- ---- leaves

-- the digest of these octets by the algorithm of a tree
pub record IsDigestBy (tree : HashTree) (octets : List ℕ) (digest : Digest) : Type 0 where
  pub by : alg_of digest ≡ tree.algorithm
  pub is : octets_of digest ≡ octets

-- ---- tokens over the root

-- U7: it is no token; U8: it stamps something else than the root
abbrev pub StampsNot : HashTree → (token : List ℕ) → Failure → Type 0
StampsNot tree token f = (root : Digest) × IsRootOf tree root
    × (((f ≡ failure.Unstamping stamp.TokenMalformed) × IsNoToken token)
    ⊎ ((f ≡ failure.Unstamping stamp.ImprintDiffers) × StampsAnother token root))

-- ---- what is told of octets that are made

-- such octets, or for such a reason none
abbrev pub IsToldOf : (Is : List ℕ → Type 0) → (Not : Failure → Type 0) → (said : Answer)
    (status : ℕ) (before : List ℕ) (size : ℕ) (after : List ℕ) → Type 0
IsToldOf Is Not said status before size after =
    ((octets : List ℕ) × Is octets × IsMade octets said status before size after)
    ⊎ ((f : Failure) × Not f × IsUnmade f said status before size after)

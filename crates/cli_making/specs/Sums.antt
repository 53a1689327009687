-- The root of the hash tree over the digests that a text of sums states (RFC 4998, 4.2), or why it states none.
use Rattle.std.specs.Prelude.{◌≡◌, ◌⊎◌, ℕ, List, map, not, Some, Ok, Err, IsOk, IsUtf8}
use Rattle.std.specs.List.{AllByRecursion}
use Rattle.std.specs.Str.{is_utf8}
use Rattle.digests.specs.declared.algorithm.Alg.{Alg}
use Rattle.digests.specs.declared.value.Digest.{Digest}
use Rattle.digests.specs.Digests.{alg_of, octets_of}
use Rattle.evidence_trees.specs.HashTrees.{HashTree, IsTreeOf}
use Rattle.evidence_sums.specs.Lines.{first_number}
use Rattle.evidence_sums.specs.SumLines.{SumValue}
use Rattle.evidence_sums.specs.Sums.{sums_of, well_formed}
use Rattle.evidence_sums.specs.declared.sums_fault.SumsFault.{SumsFault}
use Rattle.evidence_sums.specs.declared.sums_fault.SumsRule.TheVariants as rule
use Rattle.cli_failures.specs.declared.failure.Failure.{Failure}
use Rattle.cli_failures.specs.declared.failure.Failure.TheVariants as failure

-- the names are UTF-8, as a path is
abbrev pub AreNamed : (sums : List SumValue) → Type 0
AreNamed sums = AllByRecursion (λ s. IsUtf8 s.name) sums

-- the tree over the digests of these sums, by this algorithm
abbrev pub IsTreeOver : Alg → (sums : List SumValue) → HashTree → Type 0
IsTreeOver alg sums tree = IsTreeOf alg (map (λ s. octets_of s.digest) sums) tree

-- the root of a tree, as a digest by its algorithm
pub record IsRootOf (tree : HashTree) (root : Digest) : Type 0 where
  pub algorithm : alg_of root ≡ tree.algorithm
  pub octets : octets_of root ≡ tree.root

-- the text states these sums by this algorithm, with names that are UTF-8; this is the tree over their digests, and
-- this its root
pub record AreStated (alg : Alg) (text : List ℕ) (sums : List SumValue) (tree : HashTree) (root : Digest) : Type 0 where
  pub stated : sums_of alg text ≡ Ok sums
  pub named : AreNamed sums
  pub over : IsTreeOver alg sums tree
  pub is_root : IsRootOf tree root

-- ---- why it states none

-- memory ran out, and it was not that a line or a name is refused by itself: U1, U2 and U5 were tested before
abbrev pub LacksMemory : Alg → (text : List ℕ) → Failure → Type 0
LacksMemory alg text f = (f ≡ failure.Memory) × IsOk (well_formed alg text)

-- the text states none, by this rule, the first that it fails: U1, U2, U5 or U6
pub record StatesNone (alg : Alg) (text : List ℕ) (f : Failure) : Type 0 where
  pub fault : SumsFault
  pub first : sums_of alg text ≡ Err fault
  pub told : f ≡ failure.Sums fault

-- U5 too: this is the first line whose name isn't UTF-8
pub record IsMisnamed (sums : List SumValue) (f : Failure) : Type 0 where
  pub line : ℕ
  pub first : first_number (λ s. not (is_utf8 s.name)) 1 sums ≡ Some line
  pub told : f ≡ failure.Sums (record { rule = rule.Name; line = line })

abbrev pub RefusesSums : Alg → (text : List ℕ) → Failure → Type 0
RefusesSums alg text f = LacksMemory alg text f ⊎ (StatesNone alg text f
    ⊎ ((sums : List SumValue) × (sums_of alg text ≡ Ok sums) × IsMisnamed sums f))

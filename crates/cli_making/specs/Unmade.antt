-- Why `evidence make` makes no records, or not all: the first reason of these, in this order. `holds` is what an open
-- file holds, if that is known.
use Rattle.std.specs.Prelude.{◌≡◌, ◌≤◌, ◌^◌, ◌⊎◌, ℕ, List, [], ◌∷◌, ◌++◌, length, Option, None}
use Rattle.std.specs.Prelude.{option_copied}
use Rattle.std.specs.List.{AllByRecursion}
use Rattle.digests.specs.declared.algorithm.Alg.{Alg}
use Rattle.digests.specs.declared.value.Digest.{Digest}
use Rattle.digests.specs.Digests.{octets_of}
use Rattle.evidence_types.specs.EvidenceValue.{evidence_parts}
use Rattle.evidence_trees.specs.HashTrees.{HashTree, IsWayFrom, AreListsOf}
use Rattle.evidence_making.specs.Made.{made}
use Rattle.evidence_making.specs.Stamping.{StampsRoot}
use Rattle.evidence_making.specs.declared.fault.MakeFault.TheVariants as make
use Rattle.evidence_sums.specs.SumLines.{SumValue}
use Rattle.cli_tasks.specs.declared.task.MakeWords.{MakeWords}
use Rattle.cli_failures.specs.declared.failure.Failure.{Failure}
use Rattle.cli_failures.specs.declared.failure.Failure.TheVariants as failure
use Rattle.cli_making.specs.Sums.{AreStated, RefusesSums}
use Rattle.cli_making.specs.Adding.{Adds}
use Rattle.cli_making.specs.Placing.{Placed, Ways, system_ways}
use Rattle.cli_making.specs.Making.{AreFiles, AreTested, IsFileOf}
use Rattle.cli_making.specs.Given.{GivesNot}
use Rattle.cli_making.specs.Stamps.{StampsNot}

-- the record of a leaf of the tree would be longer than an element can be
pub record IsTooLong (tree : HashTree) (token : List ℕ) (digest : Digest) : Type 0 where
  pub values : List (List ℕ)
  pub way : IsWayFrom tree (octets_of digest) values
  pub lists : AreListsOf tree (octets_of digest) values
  pub size : 2 ^ 32 ≤ length (evidence_parts (made tree.algorithm values token))

-- why the record of a line can't be made: memory ran out; or, by U10, it would be too long
abbrev pub IsNotMade : HashTree → (token : List ℕ) → SumValue → Failure → Type 0
IsNotMade tree token s f = (f ≡ failure.Memory) ⊎ ((f ≡ failure.Unmade make.TooLong) × IsTooLong tree token s.digest)

-- why the file of a line can't be put: the record can't be made; or the file fails
abbrev pub FailsAt : Ways → (folder : List ℕ) → HashTree → (token : List ℕ) → SumValue → Failure → Type 0
FailsAt ways folder tree token s f = IsNotMade tree token s f
    ⊎ ((p : Placed) × IsFileOf folder tree token s p × ways.fails p f)

-- why the file of a line isn't put, of which a record was made before: memory ran out; or the file fails
abbrev pub IsNotPut : Ways → (folder : List ℕ) → HashTree → (token : List ℕ) → SumValue → Failure → Type 0
IsNotPut ways folder tree token s f = (f ≡ failure.Memory)
    ⊎ ((p : Placed) × IsFileOf folder tree token s p × ways.fails p f)

-- the files of the lines before one are these, and that of this one fails so
pub record StopsAt (Fails : SumValue → Failure → Type 0) (folder : List ℕ) (tree : HashTree) (token : List ℕ)
    (sums : List SumValue) (f : Failure) : Type 0 where
  pub before : List SumValue
  pub line : SumValue
  pub after : List SumValue
  pub all : sums ≡ before ++ line ∷ after
  pub files : List Placed
  pub are : AreFiles folder tree token before files
  pub why : Fails line f

-- a test found of the first of these lines that its file can't be put
abbrev pub IsUntested : Ways → (folder : List ℕ) → HashTree → (token : List ℕ) → List SumValue → Failure → Type 0
IsUntested ways folder tree token sums f =
    (stop : StopsAt (λ s g. FailsAt ways folder tree token s g) folder tree token sums f)
    × AllByRecursion ways.can stop.files

-- why no file is put: the text states no sums; the token doesn't stamp the root of the tree over their digests; or a
-- test found that the file of a line can't be put
abbrev pub IsRefused : Ways → (folder : List ℕ) → Alg → (text token : List ℕ) → Failure → Type 0
IsRefused ways folder alg text token f = RefusesSums alg text f
    ⊎ ((sums : List SumValue) × (tree : HashTree) × (root : Digest) × AreStated alg text sums tree root
    × (StampsNot token root f ⊎ ((m : ℕ) × StampsRoot token root m × IsUntested ways folder tree token sums f)))

-- Nothing was refused, and a test found that the file of each line can be put; then those of the lines before one were
-- put, and no others, and that of this one wasn't. No rule refuses then.
pub record IsStopped (ways : Ways) (before after : Option (List Placed)) (folder : List ℕ) (alg : Alg)
    (text token : List ℕ) (f : Failure) : Type 0 where
  pub ready : AreTested ways folder alg text token
  pub stop : StopsAt (λ s g. IsNotPut ways folder ready.tree token s g) folder ready.tree token ready.sums f
  pub put : Adds before after stop.files

-- no records are made, and nothing was put; or not all
abbrev pub IsUnmade : Ways → (before after : Option (List Placed)) → (folder : List ℕ) → Alg
    → (text token : List ℕ) → Failure → Type 0
IsUnmade ways before after folder alg text token f = (IsRefused ways folder alg text token f × Adds before after [])
    ⊎ IsStopped ways before after folder alg text token f

-- the first of these: no algorithm has the name; the file of the sums can't be read; the token's can't; or what they
-- hold is refused, or a record can't be put
abbrev pub MakesNoRecords : {F : Type 0} → (holds : F → Option (List ℕ)) → MakeWords → Failure → Type 0
MakesNoRecords holds words f = GivesNot holds (option_copied words.alg) words.sums words.token
    (λ alg text token g. IsUnmade (system_ways holds) None None words.into.now alg text token g) f

-- What `evidence make` writes: for each line of a text of sums the evidence record of its digest (RFC 4998, 4.2), below
-- a folder and by the line's name. `holds` is what an open file holds, and `contents` what it has taken, if that is
-- known. Begin here.
use Rattle.std.specs.Prelude.{◌≡◌, ⊤, ℕ, List, [], ◌∷◌, Option, None, option_copied}
use Rattle.std.specs.List.{AllByRecursion}
use Rattle.digests.specs.declared.algorithm.Alg.{Alg}
use Rattle.digests.specs.declared.value.Digest.{Digest}
use Rattle.digests.specs.Digests.{octets_of}
use Rattle.digests.specs.Messages.{digest_of}
use Rattle.evidence_types.specs.EvidenceValue.{EncodesEvidence}
use Rattle.check_evidence.specs.Grounds.{Grounds}
use Rattle.check_evidence.specs.Showing.{Shows}
use Rattle.evidence_trees.specs.HashTrees.{HashTree, IsWayFrom, AreListsOf}
use Rattle.evidence_making.specs.Made.{made}
use Rattle.evidence_making.specs.Laws.{TokenStands}
use Rattle.evidence_making.specs.Stamping.{StampsRoot}
use Rattle.evidence_sums.specs.SumLines.{SumValue}
use Rattle.cli_tasks.specs.declared.task.MakeWords.{MakeWords}
use Rattle.cli_making.specs.Given.{AreGiven}
use Rattle.cli_making.specs.Sums.{AreStated}
use Rattle.cli_making.specs.Adding.{Adds}
use Rattle.cli_making.specs.Placing.{Placed, Ways, system_ways, SystemPut}

-- ---- a record

-- The record shows the moment of the token for the data object that has this digest, if the token stands on the root of
-- the tree.
abbrev pub ShowsData : HashTree → (token : List ℕ) → Digest → (octets : List ℕ) → Type 0
ShowsData tree token digest octets = (g : Grounds) (data_object : List ℕ) (m : ℕ)
    → digest_of tree.algorithm data_object ≡ octets_of digest → TokenStands g tree.algorithm tree.root token m
    → Shows g octets (data_object ∷ []) m

-- these octets encode the record of a leaf of the tree: with the leaf and the neighbours on its way up, each in a list
-- of its own, and with the token
pub record IsRecordOf (tree : HashTree) (token : List ℕ) (digest : Digest) (octets : List ℕ) : Type 0 where
  pub values : List (List ℕ)
  pub way : IsWayFrom tree (octets_of digest) values
  pub lists : AreListsOf tree (octets_of digest) values
  pub encoded : EncodesEvidence octets (made tree.algorithm values token)
  pub shows : ShowsData tree token digest octets

-- this is the file of a line: the record of its digest, below this folder, by its name
pub record IsFileOf (folder : List ℕ) (tree : HashTree) (token : List ℕ) (s : SumValue) (p : Placed) : Type 0 where
  pub below : p.folder ≡ folder
  pub by : p.name ≡ s.name
  pub is : IsRecordOf tree token s.digest p.octets

-- ---- the records of lines

-- these are the files of the lines, one of each, in their order
abbrev pub AreFiles : (folder : List ℕ) → HashTree → (token : List ℕ) → List SumValue → List Placed → Type 0
AreFiles folder tree token [] [] = ⊤
AreFiles folder tree token (s ∷ sums) (p ∷ files) =
    IsFileOf folder tree token s p × AreFiles folder tree token sums files
AreFiles folder tree token [] (p ∷ files) = ⊥
AreFiles folder tree token (s ∷ sums) [] = ⊥

-- of each line there is a file of which this is so
pub record EachFile (Is : Placed → Type 0) (folder : List ℕ) (tree : HashTree) (token : List ℕ)
    (sums : List SumValue) : Type 0 where
  pub files : List Placed
  pub are : AreFiles folder tree token sums files
  pub each : AllByRecursion Is files

-- the files of all lines were put, in their order, and no others
pub record ArePut (Did : Placed → Type 0) (before after : Option (List Placed)) (folder : List ℕ) (tree : HashTree)
    (token : List ℕ) (sums : List SumValue) : Type 0 where
  pub of_each : EachFile Did folder tree token sums
  pub put : Adds before after of_each.files

-- The text states sums by this algorithm; the token stamps the root of the tree over their digests; and a test found
-- that the file of each line can be put.
pub record AreTested (ways : Ways) (folder : List ℕ) (alg : Alg) (text token : List ℕ) : Type 0 where
  pub sums : List SumValue
  pub tree : HashTree
  pub root : Digest
  pub stated : AreStated alg text sums tree root
  pub moment : ℕ
  pub stamped : StampsRoot token root moment
  pub tested : EachFile ways.can folder tree token sums

-- that; and then these files were put
pub record AreMade (ways : Ways) (Did : Placed → Type 0) (before after : Option (List Placed)) (folder : List ℕ)
    (alg : Alg) (text token : List ℕ) : Type 0 where
  pub ready : AreTested ways folder alg text token
  pub written : ArePut Did before after folder ready.tree token ready.sums

-- so it is of the text of a file, by the algorithm that the words or the token name, and of the token that a file holds
pub record AreRecordsWritten {F : Type 0} (holds contents : F → Option (List ℕ)) (words : MakeWords) : Type 0 where
  pub alg : Alg
  pub text : List ℕ
  pub token : List ℕ
  pub given : AreGiven holds (option_copied words.alg) alg text token
  pub made : AreMade (system_ways holds) (SystemPut holds contents) None None words.into.now alg text token

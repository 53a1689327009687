-- What the renewals of the records of a text of sums stand on, and the hash tree over that (Hash-Tree Renewal, RFC
-- 4998, 5.2). A record is the file `FOLDER/NAME.ers`.
--
-- Of each digest that its lines state there is the hash value of it and of the hash value of the old chains, by the
-- digest's algorithm: h(i)' = H(h(i) + ha(i)) (5.2, step 4). The leaf of a record is the node of these: of one itself,
-- and of several that of a data object group (5.2, step 5; 4.2).
--
-- A renewal that was cut off goes on: a record that has been renewed by the token already stands on what it stood on
-- before. So the tree over all records is the same at each run, and its root is what the token stamps.
use Rattle.std.specs.Prelude.{ℕ, List, Option}
use Rattle.std.specs.List.{AllZip}
use Rattle.evidence_trees.specs.Groups.{GroupValue}
use Rattle.evidence_sums.specs.Records.{RecordValue}
use Rattle.evidence_making.specs.Done.{StandsAnewOn}
use Rattle.cli_failures.specs.Files.{path_below}
use Rattle.cli_renewing.specs.declared.footing.Footing.{Footing}
use Rattle.cli_renewing.specs.Keeping.{Ways, kept}
use Rattle.cli_rehashing.specs.declared.folder.RecordFolder.{RecordFolder}
use Rattle.cli_rehashing.specs.Standing.{IsNodeOf}

-- a record was read from its file, and its renewal for the data objects of the digests, with this token if there is one
-- already, stands on a group, whose node is the leaf
pub record IsLineFooting (ways : Ways) (token : Option (List ℕ)) (folder : RecordFolder) (s : RecordValue)
    (f : Footing) : Type 0 where
  pub octets : List ℕ
  pub read : ways.read (kept (path_below folder.path.now s.name) octets)
  pub group : GroupValue
  pub stands : StandsAnewOn token octets folder.alone s.alg s.digests group f.after
  pub node : IsNodeOf group f.leaf

-- of each record one, in their order
abbrev pub AreLineFootings : Ways → (token : Option (List ℕ)) → RecordFolder → List RecordValue → List Footing
    → Type 0
AreLineFootings ways token folder sums footings = AllZip (λ s f. IsLineFooting ways token folder s f) sums footings

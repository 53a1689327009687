-- Why `evidence rehash` makes no request, or doesn't renew all records: the first reason of these, in this order.
-- `holds` is what an open file holds, and `contents` what it has taken, if that is known.
--
-- The text is judged whole before a file is opened that it names: U1, U2, U5, U6. Then come the records in the order of
-- the lines, `malformed`, U3 and U11; U7, U8; U9; and U10. U4 can't be: all chains that are new are by the algorithm of
-- the sums, whatever the old ones are by.
use Rattle.std.specs.Prelude.{◌≡◌, ◌⊎◌, ℕ, List, [], ◌∷◌, ◌++◌, Option, None, Some, codes}
use Rattle.digests.specs.declared.algorithm.Alg.{Alg}
use Rattle.digests.specs.Algorithms.{name_of}
use Rattle.evidence_sums.specs.Records.{RecordValue}
use Rattle.cli_tasks.specs.declared.task.RehashRequestWords.{RehashRequestWords}
use Rattle.cli_tasks.specs.declared.task.RehashWords.{RehashWords}
use Rattle.cli_failures.specs.declared.failure.Failure.{Failure}
use Rattle.cli_failures.specs.declared.failure.Failure.TheVariants as failure
use Rattle.cli_failures.specs.Causes.{Names}
use Rattle.cli_failures.specs.Files.{IsFailureToRead, IsHeld, path_below}
use Rattle.cli_values.specs.Refusals.{RefusesAlg}
use Rattle.cli_making.specs.Adding.{Adds}
use Rattle.cli_making.specs.Given.{GivesNot}
use Rattle.cli_renewing.specs.declared.footing.Footing.{Footing}
use Rattle.cli_renewing.specs.Keeping.{Kept, Ways, kept, system_ways}
use Rattle.cli_renewing.specs.Runs.{AreNotDone}
use Rattle.cli_rehashing.specs.declared.folder.RecordFolder.{RecordFolder}
use Rattle.cli_rehashing.specs.Footings.{AreLineFootings}
use Rattle.cli_rehashing.specs.Lines.{AreLines, RefusesLines}
use Rattle.cli_rehashing.specs.Rehashing.{IsRequested, asked_folder, given_folder, rehashing}
use Rattle.cli_rehashing.specs.Standing.{HasNoLeaf}

-- ---- a record has no leaf

-- the file can't be read, or holds no record; or U3 or U11
abbrev pub RefusesRecord : Ways → RecordFolder → RecordValue → Failure → Type 0
RefusesRecord ways folder s f = ways.unread (path_below folder.path.now s.name) f
    ⊎ ((octets : List ℕ) × ways.read (kept (path_below folder.path.now s.name) octets)
    × HasNoLeaf octets folder.alone s.digests f)

-- the first of these records that has no leaf
pub record StopsAt (ways : Ways) (token : Option (List ℕ)) (folder : RecordFolder) (sums : List RecordValue)
    (f : Failure) : Type 0 where
  pub front : List RecordValue
  pub line : RecordValue
  pub others : List RecordValue
  pub all : sums ≡ front ++ line ∷ others
  pub footings : List Footing
  pub are : AreLineFootings ways token folder front footings
  pub why : RefusesRecord ways folder line f

-- the text states no records; or memory ran out, or one of the records stops it
abbrev pub HaveNoTree : Ways → (token : Option (List ℕ)) → RecordFolder → Alg → (text : List ℕ) → Failure → Type 0
HaveNoTree ways token folder alg text f = RefusesLines alg text f
    ⊎ ((sums : List RecordValue) × AreLines alg text sums
    × ((f ≡ failure.Memory) ⊎ StopsAt ways token folder sums f))

-- ---- the request

-- no algorithm has the name, the file of the sums can't be read, or its records have no tree
abbrev pub AreNotRequested : {F : Type 0} → (holds contents : F → Option (List ℕ)) → RehashRequestWords → Failure
    → Type 0
AreNotRequested holds contents words f = RefusesAlg words.alg.now f
    ⊎ ((alg : Alg) × (words.alg.now ≡ name_of alg) × (IsFailureToRead words.sums f
    ⊎ ((text : List ℕ) × IsHeld holds text
    × HaveNoTree (system_ways holds contents) None (asked_folder words) alg text f)))

-- the file that should take it is the one of the sums or of a record; memory ran out; the request can't be made; or
-- that file can't be made or written, once the request is there
abbrev pub MakesNoRehashRequest : {F : Type 0} → (holds contents : F → Option (List ℕ)) → RehashRequestWords
    → Failure → Type 0
MakesNoRehashRequest holds contents words f = Names (codes "request") f ⊎ ((f ≡ failure.Memory)
    ⊎ (AreNotRequested holds contents words f ⊎ (IsRequested holds contents words × (f ≡ failure.Write words.out))))

-- ---- the records

-- no record is renewed, and nothing was put; or not all are
abbrev pub AreLinesNotAnew : Ways → (before after : Option (List Kept)) → RecordFolder → List RecordValue
    → (token : List ℕ) → Failure → Type 0
AreLinesNotAnew ways before after folder sums token f =
    AreNotDone ways before after (λ g. (g ≡ failure.Memory) ⊎ StopsAt ways (Some token) folder sums g)
    (λ footings. AreLineFootings ways (Some token) folder sums footings) (rehashing folder) sums token f

-- the text states no records, and nothing was put; or they are not all renewed
abbrev pub AreNotAnew : Ways → (before after : Option (List Kept)) → RecordFolder → Alg → (text token : List ℕ)
    → Failure → Type 0
AreNotAnew ways before after folder alg text token f = (RefusesLines alg text f × Adds before after [])
    ⊎ ((sums : List RecordValue) × AreLines alg text sums
    × AreLinesNotAnew ways before after folder sums token f)

-- no algorithm has the name, the file of the sums or then that of the token can't be read, or the records are not all
-- renewed
abbrev pub RehashesNot : {F : Type 0} → (holds contents : F → Option (List ℕ)) → RehashWords → Failure → Type 0
RehashesNot holds contents words f = GivesNot holds (Some words.alg.now) words.sums words.token
    (λ alg text token g. AreNotAnew (system_ways holds contents) None None (given_folder words) alg text token g) f

-- Why `evidence renew` makes no request, or doesn't renew all records: the first reason of these, in this order.
-- `holds` is what an open file holds, and `contents` what it has taken, if that is known.
use Rattle.std.specs.Prelude.{◌≡◌, ◌≢◌, ◌⊎◌, ℕ, List, [], ◌∷◌, ◌++◌, Option, None, Some, Any, codes}
use Rattle.std.specs.Borrow.{Bor}
use Rattle.digests.specs.declared.algorithm.Alg.{Alg}
use Rattle.digests.specs.Digests.{alg_of}
use Rattle.cli_tasks.specs.declared.task.RenewWords.{RenewWords}
use Rattle.cli_tasks.specs.declared.task.RenewalRequestWords.{RenewalRequestWords}
use Rattle.cli_failures.specs.declared.failure.Failure.{Failure}
use Rattle.cli_failures.specs.declared.failure.Failure.TheVariants as failure
use Rattle.cli_failures.specs.Causes.{Names}
use Rattle.cli_failures.specs.Files.{IsFailureToRead, IsHeld}
use Rattle.cli_renewing.specs.declared.footing.Footing.{Footing}
use Rattle.cli_renewing.specs.Footings.{AreBy, AreFootings, IsFootingRead}
use Rattle.cli_renewing.specs.Keeping.{Kept, Ways, kept, system_ways}
use Rattle.cli_renewing.specs.Renewing.{IsRenewalRequest, renewal}
use Rattle.cli_renewing.specs.Runs.{AreNotDone}
use Rattle.cli_renewing.specs.Standing.{HasNoFooting}

-- ---- a record has no footing

-- a file can't be read, or holds no record; or, by U3, the record is encrypted, its last time-stamp is no token, or its
-- last chain has no algorithm that is known
abbrev pub RefusesRecord : Ways → (path : List ℕ) → Failure → Type 0
RefusesRecord ways path f = ways.unread path f
    ⊎ ((octets : List ℕ) × ways.read (kept path octets) × HasNoFooting octets f)

-- U4: the record of a file stands on a leaf by another algorithm than these
pub record IsMixed (ways : Ways) (token : Option (List ℕ)) (footings : List Footing) (path : List ℕ) (f : Failure)
    : Type 0 where
  pub some : footings ≢ []
  pub alg : Alg
  pub by : AreBy alg footings
  pub other : Footing
  pub there : IsFootingRead ways token path other
  pub differs : alg_of other.leaf ≢ alg
  pub told : f ≡ failure.Mixed

-- the first of these records that has no footing, or that stands on another algorithm than those before it
pub record StopsAt (ways : Ways) (token : Option (List ℕ)) (paths : List (Bor (List ℕ))) (f : Failure) : Type 0 where
  pub front : List (Bor (List ℕ))
  pub path : Bor (List ℕ)
  pub others : List (Bor (List ℕ))
  pub all : paths ≡ front ++ path ∷ others
  pub footings : List Footing
  pub are : AreFootings ways token front footings
  pub why : RefusesRecord ways path.now f ⊎ IsMixed ways token footings path.now f

-- no record is named, memory ran out, or one of the records stops it
abbrev pub HaveNoTree : Ways → (token : Option (List ℕ)) → (paths : List (Bor (List ℕ))) → Failure → Type 0
HaveNoTree ways token paths f = ((paths ≡ []) × Names (codes "RECORD") f) ⊎ ((f ≡ failure.Memory)
    ⊎ StopsAt ways token paths f)

-- ---- the request

-- the file that should take it is the one of a record; memory ran out; the records have no tree; or that file can't be
-- made or written, once the request is there
abbrev pub MakesNoRenewalRequest : {F : Type 0} → (holds contents : F → Option (List ℕ)) → RenewalRequestWords
    → Failure → Type 0
MakesNoRenewalRequest holds contents words f = Names (codes "request") f
    ⊎ (HaveNoTree (system_ways holds contents) None words.records.items f
    ⊎ ((octets : List ℕ) × IsRenewalRequest (system_ways holds contents) words.records.items octets
    × (f ≡ failure.Write words.out)))

-- ---- the records

-- no record is renewed, and nothing was put; or not all are
abbrev pub AreUnrenewed : Ways → (before after : Option (List Kept)) → (paths : List (Bor (List ℕ)))
    → (token : List ℕ) → Failure → Type 0
AreUnrenewed ways before after paths token f = AreNotDone ways before after (HaveNoTree ways (Some token) paths)
    (λ footings. AreFootings ways (Some token) paths footings) renewal paths token f

-- a record is to be read from the standard input, in whose place none can be put
abbrev pub HaveInput : (paths : List (Bor (List ℕ))) → Failure → Type 0
HaveInput paths f = Any (λ path. path.now ≡ codes "-") paths × Names (codes "RECORD") f

-- that, the token can't be read, or the records are not renewed
abbrev pub RenewsNot : {F : Type 0} → (holds contents : F → Option (List ℕ)) → RenewWords → Failure → Type 0
RenewsNot holds contents words f = HaveInput words.records.items f ⊎ (IsFailureToRead words.token f
    ⊎ ((token : List ℕ) × IsHeld holds token
    × AreUnrenewed (system_ways holds contents) None None words.records.items token f))

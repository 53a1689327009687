-- How a run ends that renews records by one token: what the records stand on is known, and is `Are` here; `renewal` is
-- what is done with a tree, a token and a moment.
use Rattle.std.specs.Prelude.{◌≡◌, ◌⊎◌, ◌≤◌, ℕ, List, [], Option, None, false, Any}
use Rattle.digests.specs.declared.value.Digest.{Digest}
use Rattle.tsp_types.specs.Asked.{asked}
use Rattle.tsp_types.specs.RequestValue.{EncodesRequest}
use Rattle.evidence_trees.specs.HashTrees.{HashTree}
use Rattle.evidence_making.specs.declared.fault.StampFault.TheVariants as stamp
use Rattle.evidence_making.specs.Stamping.{StampsRoot}
use Rattle.cli_failures.specs.declared.failure.Failure.{Failure}
use Rattle.cli_failures.specs.declared.failure.Failure.TheVariants as failure
use Rattle.cli_making.specs.Adding.{Adds}
use Rattle.cli_making.specs.Stamps.{StampsNoTree, StampsNot, StampsTree}
use Rattle.cli_renewing.specs.declared.footing.Footing.{Footing}
use Rattle.cli_renewing.specs.Footings.{ComesAfter, IsTreeOn}
use Rattle.cli_renewing.specs.Keeping.{Kept, Ways}
use Rattle.cli_renewing.specs.Records.{ArePut, AreTested, IsUntested, Renewal, StopsAtPut}

-- these octets encode the request for a stamp of the root of the tree on the records, under no policy, without a nonce,
-- and without a certificate
pub record IsRequestOn (Are : List Footing → Type 0) (octets : List ℕ) : Type 0 where
  pub footings : List Footing
  pub are : Are footings
  pub tree : HashTree
  pub root : Digest
  pub over : IsTreeOn footings tree root
  pub encoded : EncodesRequest octets (asked root None None false)

-- ---- renewed

-- the token stamps the root of the tree on the records, later than their last time-stamps
pub record AreStamped (Are : List Footing → Type 0) (token : List ℕ) (tree : HashTree) (m : ℕ) : Type 0 where
  pub footings : List Footing
  pub are : Are footings
  pub root : Digest
  pub over : IsTreeOn footings tree root
  pub stamped : StampsRoot token root m
  pub later : ComesAfter m footings

-- That; a test found what each record becomes; and then each that isn't renewed already was replaced by the new one,
-- and no other file.
pub record AreDone {A : Type 0} (ways : Ways) (before after : Option (List Kept)) (Are : List Footing → Type 0)
    (renewal : HashTree → (token : List ℕ) → (m : ℕ) → Renewal A) (xs : List A) (token : List ℕ) : Type 0 where
  pub tree : HashTree
  pub moment : ℕ
  pub stamped : AreStamped Are token tree moment
  pub tested : AreTested ways (renewal tree token moment) xs
  pub news : List (Option (List ℕ))
  pub made : ArePut ways before after (renewal tree token moment) xs news

-- ---- not all are renewed

-- U9: the token isn't later than the last time-stamp of a record
abbrev pub IsTooEarly : (m : ℕ) → List Footing → Failure → Type 0
IsTooEarly m footings f = (f ≡ failure.Unstamping stamp.Order) × Any (λ footing. m ≤ footing.after) footings

-- the token doesn't stamp the root of the tree: U7, U8; or it does, and U9
abbrev pub IsNotLater : HashTree → List Footing → (token : List ℕ) → Failure → Type 0
IsNotLater tree footings token f = StampsNoTree tree token f
    ⊎ ((m : ℕ) × StampsTree tree token m × IsTooEarly m footings f)

-- Why nothing is put, in this order: the records have no tree; U7, U8; U9; or, if none of these is so, a test found of
-- one that it can't be renewed.
abbrev pub AreRefused : {A : Type 0} → Ways → (NoTree : Failure → Type 0) → (Are : List Footing → Type 0)
    → (renewal : HashTree → (token : List ℕ) → (m : ℕ) → Renewal A) → List A → (token : List ℕ) → Failure → Type 0
AreRefused ways NoTree Are renewal xs token f = NoTree f
    ⊎ ((footings : List Footing) × (tree : HashTree) × (root : Digest) × Are footings × IsTreeOn footings tree root
    × (StampsNot token root f ⊎ ((m : ℕ) × StampsRoot token root m
    × (IsTooEarly m footings f ⊎ (ComesAfter m footings × IsUntested ways (renewal tree token m) xs f)))))

-- Nothing was refused, and a test found that all can be renewed; then the records before one were renewed, and put, and
-- no others, and that one failed.
pub record AreStopped {A : Type 0} (ways : Ways) (before after : Option (List Kept)) (Are : List Footing → Type 0)
    (renewal : HashTree → (token : List ℕ) → (m : ℕ) → Renewal A) (xs : List A) (token : List ℕ) (f : Failure) : Type 0
  where
    pub tree : HashTree
    pub moment : ℕ
    pub stamped : AreStamped Are token tree moment
    pub tested : AreTested ways (renewal tree token moment) xs
    pub stop : StopsAtPut ways before after (renewal tree token moment) xs f

-- no record is renewed, and nothing was put; or not all are
abbrev pub AreNotDone : {A : Type 0} → Ways → (before after : Option (List Kept)) → (NoTree : Failure → Type 0)
    → (Are : List Footing → Type 0) → (renewal : HashTree → (token : List ℕ) → (m : ℕ) → Renewal A) → List A
    → (token : List ℕ) → Failure → Type 0
AreNotDone ways before after NoTree Are renewal xs token f =
    (AreRefused ways NoTree Are renewal xs token f × Adds before after [])
    ⊎ AreStopped ways before after Are renewal xs token f

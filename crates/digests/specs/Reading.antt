-- What is true of hashers after a source was read to its end into them.
use Rattle.std.specs.Prelude.{◌≡◌, ⊤, ℕ, ◌^◌, ◌≤◌, List, [], ◌++◌, length, Result, MatchResult}
use Rattle.devices.specs.Device.{raised}
use Rattle.digests.specs.declared.feeding.ContentFault.{ContentFault}
use Rattle.digests.specs.declared.feeding.ContentFault.TheVariants.{ReadFailed, ContentTooLong}

-- a failure of the source is counted exactly when reading failed
abbrev pub Fails : ContentFault → ℕ → ℕ → Type 0
Fails ReadFailed count count' = count' ≡ raised count
Fails ContentTooLong count count' = count' ≡ count

abbrev pub CountsReads : Result ℕ ContentFault → (count count' : ℕ) → Type 0
CountsReads result count count' = MatchResult result (λ n. count' ≡ count) (λ e. Fails e count count')

-- the hashers were fed these octets after what they were fed before; and if `tells` holds of the source, these octets
-- were the first of those still to come
pub record Feeds {H : Type 0} (fed : H → List ℕ → Type 0) (before after : H) (tells : Type 0)
    (rest given : List ℕ) : Type 0 where
  pub feeds : (m : List ℕ) → fed before m → fed after (m ++ given)
  pub front : tells → (left : List ℕ) × (rest ≡ given ++ left)

-- the source was read to its end: n octets, no more than 2^40, and, if `tells` holds, all that were still to come
pub record AtEnd (tells : Type 0) (rest rest' given : List ℕ) (n : ℕ) : Type 0 where
  pub count : n ≡ length given
  pub short : n ≤ 2 ^ 40
  pub whole : tells → rest ≡ given
  pub end : tells → rest' ≡ []

-- what is still to come from a source that was too long, if `tells` holds: all the octets after those that were fed.
-- After a failure it may be anything
abbrev pub Leaves : ContentFault → (tells : Type 0) → (rest rest' given : List ℕ) → Type 0
Leaves ReadFailed tells rest rest' given = ⊤
Leaves ContentTooLong tells rest rest' given = tells → rest ≡ given ++ rest'

-- the source was read to its end, or reading stopped before it
abbrev pub LeavesOff : Result ℕ ContentFault → (tells : Type 0) → (rest rest' given : List ℕ) → Type 0
LeavesOff result tells rest rest' given = MatchResult result (AtEnd tells rest rest' given)
    (λ e. Leaves e tells rest rest' given)

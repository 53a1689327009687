-- Which digest algorithms the front of a file names (RFC 5652 5.1), and what a pass over it finds.
use Rattle.std.specs.Prelude.{◌≡◌, ◌⊎◌, ⊤, ℕ, ◌<◌, false, List, [], ◌∷◌, ◌↔◌, IsTrue, length, Option, Some, None}
use Rattle.std.specs.Prelude.{Result, Ok, Err, if◌then◌else◌}
use Rattle.devices.specs.declared.source.Source.{Ghosts}
use Rattle.devices.specs.Device.{raised}
use Rattle.der_core.specs.declared.fault.Fault.{Fault}
use Rattle.der_core.specs.declared.tags.TheConstants.{INTEGER, OBJECT_IDENTIFIER, SEQUENCE, SET}
use Rattle.der_core.specs.Lists.{is_same}
use Rattle.der_core.specs.Reading.{Spot, oid_in, version_in}
use Rattle.der_core.specs.Results.{◌>>=◌}
use Rattle.der_core.specs.Values.{AlgorithmValue}
use Rattle.der_grammar.specs.Table.{id_signed_data}
use Rattle.digests.specs.declared.algorithm.Alg.{Alg}
use Rattle.digests.specs.declared.set.Algs.{Algs}
use Rattle.digests.specs.Algorithms.{Names}
use Rattle.digests.specs.Sets.{is_in}
use Rattle.cms_types.specs.SignedDataReading.{algorithms_in}
use Rattle.cms_types.specs.SignedDataValue.{SignedDataValue, EncodesSignedData, algorithms_parts}
use Rattle.cms_stream_laws.specs.OpenReading.{OpenSpot, OpenBody, enter_openly, within_openly, kept}
use Rattle.cms_stream.specs.declared.hint.TheConstants.{HINT_LIMIT}
use Rattle.cms_stream.specs.declared.tags.TheConstants.{CONTENT}
use Rattle.cms_stream.specs.declared.stream_fault.StreamFault.{StreamFault}
use Rattle.cms_stream.specs.declared.stream_fault.StreamFault.TheVariants.{Malformed, ReadFailed, TooLong}
use Rattle.cms_stream.specs.Passing.{body_to, outer_in}

-- one of these AlgorithmIdentifiers names it
abbrev pub IsNamedBy : List AlgorithmValue → Alg → Type 0
IsNamedBy [] alg = ⊥
IsNamedBy (a ∷ identifiers) alg = Names a.oid a.parameters alg ⊎ IsNamedBy identifiers alg

-- the algorithms that they name, and no others
abbrev pub AreNamedBy : List AlgorithmValue → Algs → Type 0
AreNamedBy identifiers algorithms = (alg : Alg) → IsTrue (is_in alg algorithms) ↔ IsNamedBy identifiers alg

abbrev pub AreNone : Algs → Type 0
AreNone algorithms = (alg : Alg) → is_in alg algorithms ≡ false

-- The algorithms that a SignedData names in its digestAlgorithms; or none, if the source failed, or if these have more
-- octets than this limit.
abbrev pub AreListed : (limit : ℕ) → SignedDataValue → (before after : ℕ) → Algs → Type 0
AreListed limit v before after algorithms = AreNamedBy v.digest_algorithms algorithms
    ⊎ (AreNone algorithms × ((after ≡ raised before) ⊎ (limit < length (algorithms_parts v.digest_algorithms))))

-- A pass over the front of a file found these: the source failed at most once; if it was known what is still to come,
-- it still is; and of a file that is known and encodes a SignedData they are those that it lists.
pub record FindsListed {S : Type 0} (source : Ghosts S) (before after : S) (algorithms : Algs) : Type 0 where
  pub count : (source.failures after ≡ source.failures before)
      ⊎ (source.failures after ≡ raised (source.failures before))
  pub telling : source.tells before → source.tells after
  pub listed : source.tells before → (v : SignedDataValue) → EncodesSignedData (source.rest before) v
      → AreListed HINT_LIMIT v (source.failures before) (source.failures after) algorithms

-- ---- how they are read

-- the contents of the SignedData of a file, or nothing if the file is of another type
unfoldable pub signed_at : List ℕ → Result (Option OpenSpot) Fault
signed_at bytes =
    outer_in bytes >>= λ w. within_openly OBJECT_IDENTIFIER (kept oid_in) w >>= λ x. if is_same id_signed_data x.0
    then (enter_openly CONTENT x.1 >>= λ y. enter_openly SEQUENCE y.0 >>= λ z. Ok (Some z.0)) else Ok None

-- its digestAlgorithms, after its version
unfoldable pub algorithms_at : OpenBody (List AlgorithmValue)
algorithms_at w =
    within_openly INTEGER (kept (version_in (1 ∷ 3 ∷ 4 ∷ 5 ∷ []))) w
    >>= λ x. within_openly SET (kept algorithms_in) x.1 >>= λ y. Ok y.0

abbrev pub algorithms_of : Option OpenSpot → Result (Option (List AlgorithmValue)) Fault
algorithms_of None = Ok None
algorithms_of (Some w) = algorithms_at w >>= λ identifiers. Ok (Some identifiers)

unfoldable pub listed_at : List ℕ → Result (Option (List AlgorithmValue)) Fault
listed_at bytes = signed_at bytes >>= algorithms_of

-- their contents have more octets than this limit
abbrev pub IsListTooLong : (limit : ℕ) → List ℕ → Type 0
IsListTooLong limit bytes =
    (w : OpenSpot) × (signed_at bytes ≡ Ok (Some w)) × (x : List ℕ × OpenSpot)
    × (within_openly INTEGER (kept (version_in (1 ∷ 3 ∷ 4 ∷ 5 ∷ []))) w ≡ Ok x)
    × (y : OpenSpot × OpenSpot) × (enter_openly SET x.1 ≡ Ok y) × (limit < y.0.left)

-- ---- what a pass finds

-- the answer, seen so, or the fault is that of this reading, or there was too little room, for this reason; if the
-- source failed, nothing is stated
abbrev pub Tells : {X Y : Type 0} → (X → Y) → (long : Type 0) → Result X StreamFault → Result Y Fault → Type 0
Tells view long (Ok x) read = read ≡ Ok (view x)
Tells view long (Err (Malformed f)) read = read ≡ Err f
Tells view long (Err TooLong) read = long
Tells view long (Err ReadFailed) read = ⊤

-- the body that ends there, from where the pass is
abbrev pub body_until : Spot → Option ℕ → Option OpenSpot
body_until s None = None
body_until s (Some end) = Some (body_to end s)

-- the algorithms that the AlgorithmIdentifiers name that were found; none if none were found
abbrev pub AreNamedIn : Result (Option (List AlgorithmValue)) StreamFault → Algs → Type 0
AreNamedIn (Ok (Some identifiers)) algorithms = AreNamedBy identifiers algorithms
AreNamedIn (Ok None) algorithms = AreNone algorithms
AreNamedIn (Err fault) algorithms = AreNone algorithms

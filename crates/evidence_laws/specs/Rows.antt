-- Worked rows: until when algorithms hold, and what stands beside an archive time-stamp in its chains.
use Rattle.std.specs.Prelude.{◌≡◌, ℕ, List, [], ◌∷◌, Some, None}
use Rattle.der_core.specs.Hex.{hex}
use Rattle.digests.specs.declared.algorithm.Alg.{Alg}
use Rattle.digests.specs.declared.algorithm.Alg.TheVariants.{Sha1, Sha256, Sha512}
use Rattle.evidence_types.specs.StampValue.{StampValue}
use Rattle.evidence_types.specs.EvidenceRows.{bare}
use Rattle.check_evidence.specs.Grounds.{AlgEnd}
use Rattle.check_evidence.specs.Ends.{AlgHolds}
use Rattle.check_evidence.specs.Places.{Place, IsIn, IsBefore, first_beside, preceding, following}

-- the algorithm holds until this moment
abbrev pub until : Alg → ℕ → AlgEnd
until alg last = record { alg = alg; last = last }

pub record EndRows : Type 0 where
  -- SHA-1 without an end holds never, whatever end another algorithm has
  pub sha1_never : (m : ℕ) → AlgHolds [] Sha1 m → ⊥
  pub sha1_of_another : (m : ℕ) → AlgHolds (until Sha256 9 ∷ []) Sha1 m → ⊥
  -- with an end it holds up to it, and not after it
  pub sha1_at_its_end : AlgHolds (until Sha1 5 ∷ []) Sha1 5
  pub sha1_after_it : AlgHolds (until Sha1 5 ∷ []) Sha1 6 → ⊥
  -- another algorithm without an end always holds, whatever ends others have
  pub without_an_end : (m : ℕ) → AlgHolds [] Sha256 m
  pub ends_of_others : (m : ℕ) → AlgHolds (until Sha1 5 ∷ until Sha512 0 ∷ []) Sha256 m
  -- of two ends of one algorithm the earlier counts, in either order
  pub at_the_earlier : AlgHolds (until Sha256 9 ∷ until Sha256 5 ∷ []) Sha256 5
  pub after_the_earlier : AlgHolds (until Sha256 9 ∷ until Sha256 5 ∷ []) Sha256 6 → ⊥
  pub in_either_order : AlgHolds (until Sha256 5 ∷ until Sha256 9 ∷ []) Sha256 6 → ⊥

-- three time-stamps, two in the first chain and one in the second (RFC 4998, 5.1)
abbrev pub first : StampValue
first = bare (hex "3000")

abbrev pub second : StampValue
second = bare (hex "30020500")

abbrev pub third : StampValue
third = bare (hex "3003020101")

abbrev pub chains : List (List StampValue)
chains = (first ∷ second ∷ []) ∷ (third ∷ []) ∷ []

abbrev pub at_first : Place
at_first = record { earlier = []; before = []; stamp = first; after = second ∷ []; later = (third ∷ []) ∷ [] }

abbrev pub at_second : Place
at_second = record { earlier = []; before = first ∷ []; stamp = second; after = []; later = (third ∷ []) ∷ [] }

abbrev pub at_third : Place
at_third = record { earlier = (first ∷ second ∷ []) ∷ []; before = []; stamp = third; after = []; later = [] }

pub record BesideRows : Type 0 where
  -- each is a place in the chains, and each but the last is before the next
  pub first_there : IsIn chains at_first
  pub second_there : IsIn chains at_second
  pub third_there : IsIn chains at_third
  pub first_before : IsBefore at_first at_second
  pub second_before : IsBefore at_second at_third
  -- nothing precedes the first; the last of a chain precedes the first of the next
  pub before_first : preceding at_first ≡ None
  pub before_second : preceding at_second ≡ Some first
  pub before_third : preceding at_third ≡ Some second
  -- the first of the next chain follows the last of a chain; nothing follows the last
  pub after_first : following at_first ≡ Some second
  pub after_second : following at_second ≡ Some third
  pub after_third : following at_third ≡ None
  -- a chain begins with its own first stamp
  pub beside_second : first_beside at_second ≡ Some first
  pub beside_third : first_beside at_third ≡ Some third

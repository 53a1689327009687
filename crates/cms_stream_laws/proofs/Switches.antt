-- What is given of a body whose rest depends on its first element, and of a part that may be absent.
use Rattle.std.proofs.Common.{cond, List, ℕ, Option, Some, None, Result, Ok, inl, inr, ◌⊎◌}
use Rattle.der_core.specs.declared.fault.Fault.{Fault}
use Rattle.der_core.specs.Lists.{is_same}
use Rattle.der_core.specs.Results.{◌>>=◌}
use Rattle.cms_stream_laws.specs.OpenReading.{OpenSpot}

module _ (A B : Type 0) where
  abbrev pub Switched : Type 0
  Switched = Result (A ⊎ (List ℕ × B)) Fault

  abbrev pub left_of : A → Switched
  left_of a = Ok (inl a)

  abbrev pub right_of : List ℕ → B → Switched
  right_of id b = Ok (inr (id, b))

  -- the rest, read in one of two ways
  abbrev pub rest_by : (these : List ℕ) {S : Type 0} → (S → Result A Fault) → (S → Result B Fault) → List ℕ × S
      → Switched
  rest_by these same other x = cond (is_same these x.0) (same x.1 >>= left_of) (other x.1 >>= right_of x.0)

-- an element left whole that may be absent
abbrev pub MaybeWhole : Type 0
MaybeWhole = Result (Option (List ℕ) × OpenSpot) Fault

abbrev pub some_whole : List ℕ × OpenSpot → MaybeWhole
some_whole x = Ok (Some x.0, x.1)

abbrev pub none_whole : OpenSpot → MaybeWhole
none_whole w = Ok (None, w)

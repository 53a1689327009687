-- The line of an archive time-stamp, by what its time-stamp states.
use Rattle.std.proofs.Common.{◌≡◌, ◌++◌, ◌∷◌, [], ℕ, List, Option, Some, None, Result, Ok, Err, true, refl}
use Rattle.std.proofs.Common.{append_assoc, arith}
use Rattle.std.specs.Prelude.{OnOk, IfSome}
use Rattle.std.specs.declared.alloc.AllocError.{AllocError}
use Rattle.der_core.specs.Times.{is_generalized}
use Rattle.tsp_types.specs.TstValue.{TstValue}
use Rattle.evidence_types.specs.StampValue.{StampValue}
use Rattle.lines_shown.specs.EvidenceLines.{IsStatement, place_text, stated_text, counts_text}
use Rattle.lines_shown.specs.EvidenceLines.{stamp_line, IsStampLine, Adds}

-- what is stated has the time of a GeneralizedTime
pub time_formed : (token : List ℕ) (stated : Option TstValue) → IsStatement token stated
    → IfSome stated (λ t. is_generalized t.time ≡ true)
time_formed token None none = tt
time_formed token (Some t) states = states.encodes_stamp.1.time.0

-- what is added in three steps
joined : (before placed told after p t k : List ℕ) → placed ≡ before ++ p → told ≡ placed ++ t
    → after ≡ told ++ k ++ (10 ∷ []) → after ≡ before ++ (p ++ t ++ k ++ (10 ∷ []))
joined before placed told after p t k e f g = grind (arith, append_assoc, e, f, g)

pub line_added : (chain number : ℕ) (s : StampValue) (stated : Option TstValue) (r : Result (Unit {0}) AllocError)
    (before placed told after : List ℕ) → IsStatement s.stamp stated
    → placed ≡ before ++ place_text chain number → told ≡ placed ++ stated_text s.algorithm stated
    → OnOk r (after ≡ told ++ counts_text s.lists ++ (10 ∷ []))
    → OnOk r (Adds (IsStampLine chain number s) before after)
line_added chain number s stated (Ok u) before placed told after is p t e = (
  stamp_line chain number s stated,
  (stated, is, refl),
  joined before placed told after (place_text chain number) (stated_text s.algorithm stated)
      (counts_text s.lists) p t e,
)
line_added chain number s stated (Err f) before placed told after is p t e = tt

-- What one keeps of a place of an archive time-stamp to go on from it.
use Rattle.std.specs.Prelude.{◌≡◌, ◌-◌, List, ◌∷◌, ◌++◌, length, take, Option}
use Rattle.evidence_types.specs.StampValue.{StampValue}
use Rattle.check_evidence.specs.Places.{Place, last_of}

-- the elements before those with which the list ends
abbrev pub before_end : {A : Type 0} → (whole end : List A) → List A
before_end whole end = take (length whole - length end) whole

-- the place
abbrev pub place_of : (chains onward later : List (List StampValue)) → (chain : List StampValue) → StampValue
    → (after : List StampValue) → Place
place_of chains onward later chain stamp after = record {
  earlier = before_end chains onward;
  before = before_end chain (stamp ∷ after);
  stamp = stamp;
  after = after;
  later = later;
}

-- what is kept belongs together: all chains, those from the stamp's own on, those after it, and of its own chain all
-- stamps, the one before it, the stamp and those after it
pub record ArePlaceParts (chains onward later : List (List StampValue)) (chain : List StampValue)
    (previous : Option StampValue) (stamp : StampValue) (after : List StampValue) : Type 0 where
  pub ends : chains ≡ before_end chains onward ++ onward
  pub begins : onward ≡ chain ∷ later
  pub its : chain ≡ before_end chain (stamp ∷ after) ++ stamp ∷ after
  pub last : previous ≡ last_of (before_end chain (stamp ∷ after))

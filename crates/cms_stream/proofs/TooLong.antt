-- A refusal for want of room is one that the header at an open place shows.
use Rattle.std.proofs.Common.{◌≡◌, ℕ, ◌<◌, true, List}
use Rattle.der_core.specs.Element.{IsBytes}
use Rattle.der_core.specs.Form.{Form, takes, Element}
use Rattle.der_core.specs.OpenFaults.{States, whole_length}
use Rattle.cms_stream_laws.specs.OpenReading.{OpenSpot}
use Rattle.cms_stream_laws.proofs.OpenSteps.{standing, states_here, enters_openly}
use Rattle.cms_stream.specs.Passing.{IsTooLong}

-- what a place states that is more than the room
abbrev pub StatesAbove : ℕ → OpenSpot → Form → List Element → Type 0
StatesAbove room w due ps = (n : ℕ) × States (standing w due ps) n × (room < n)

pub too_long_states : (room tag : ℕ) (w : OpenSpot) (due : Form) (ps : List Element) → IsBytes w.rest
    → takes due tag ≡ true → IsTooLong room tag w
    → StatesAbove room w due ps
too_long_states room tag w due ps fits took h =
    let (element, enters, many) = h in
    (whole_length element.0.left, states_here due tag w element ps took (enters_openly tag w element fits enters), many)

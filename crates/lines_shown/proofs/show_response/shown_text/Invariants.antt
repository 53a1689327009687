use Rattle.std.proofs.Common.{◌≡◌, take, flat_map}
use Rattle.std.specs.String.{string_bytes}
use Rattle.lines_shown.specs.ResponseLines.{shown_octet}
use Rattle.lines_shown.proofs.show_response.shown_text.Given as goal

-- the octets so far are shown
abbrev pub invariant-loop-octet : goal.invariant-loop-octet
invariant-loop-octet l = string_bytes l.text ≡ flat_map shown_octet (take l.octet-index l.octets)

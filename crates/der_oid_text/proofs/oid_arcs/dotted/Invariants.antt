use Rattle.std.proofs.Common.{◌≡◌, ◌∷◌, take, string_bytes}
use Rattle.der_oid_text.specs.OidText.{dotted}
use Rattle.der_oid_text.proofs.oid_arcs.dotted.Given as goal

abbrev pub invariant-loop-arc : goal.invariant-loop-arc
invariant-loop-arc l = string_bytes l.text ≡ dotted (l.first ∷ l.second ∷ take l.arc-index l.others)

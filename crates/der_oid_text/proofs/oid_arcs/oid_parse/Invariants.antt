use Rattle.std.proofs.Common.{◌≡◌, ◌∷◌, take, flat_map}
use Rattle.der_oid_text.specs.OidSteps.{base_128}
use Rattle.der_oid_text.proofs.oid_arcs.oid_parse.Given as goal

-- the subidentifiers so far have been written
abbrev pub invariant-loop-number : goal.invariant-loop-number
invariant-loop-number l = l.contents.items ≡ flat_map base_128 (l.leading ∷ take l.number-index l.others)

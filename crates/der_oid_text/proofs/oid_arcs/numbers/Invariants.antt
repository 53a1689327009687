use Rattle.std.proofs.Common.{◌≡◌, true, map, take}
use Rattle.std.specs.Fmt.{decimal}
use Rattle.der_oid_text.specs.OidText.{are_small}
use Rattle.der_oid_text.proofs.oid_arcs.numbers.Given as goal

-- the parts so far are the texts of the numbers
abbrev pub invariant-loop-part : goal.invariant-loop-part
invariant-loop-part l = record {
  texts : map (λ part. part.now) (take l.part-index l.part-items) ≡ map decimal l.found.items;
  small : are_small l.found.items ≡ true;
}

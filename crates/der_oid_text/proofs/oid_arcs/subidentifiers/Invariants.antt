use Rattle.der_oid_text.proofs.Subidentifiers.{IsReadTo}
use Rattle.der_oid_text.proofs.oid_arcs.subidentifiers.Given as goal

abbrev pub invariant-loop-octet : goal.invariant-loop-octet
invariant-loop-octet l = IsReadTo l.contents l.octet-index l.found.items l.number

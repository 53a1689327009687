use Rattle.der_oid_text.proofs.oid_arcs.+push_high_octets.Given as goal

abbrev pub decreases-push_high_octets : goal.decreases-push_high_octets
decreases-push_high_octets l = l.number

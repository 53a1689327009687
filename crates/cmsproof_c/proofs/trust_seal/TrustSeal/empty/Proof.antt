-- `empty` makes a seal that owns nothing.
use Rattle.library_calls.specs.contracts.held.HeldTrust.{the_row}
use Rattle.library_calls.proofs.held.HeldTrust.TheLaws.{the_row_laws}
use Rattle.cmsproof_c.proofs.Seals.{empty_met}
use Rattle.cmsproof_c.proofs.TrustAsSeal.{seal}
use Rattle.cmsproof_c.specs.contracts.trust_seal.TrustSeal.empty.Key.{name as #self}
use Rattle.cmsproof_c.proofs.trust_seal.TrustSeal.empty.Statement as stated
use Rattle.cmsproof_c.proofs.trust_seal.TrustSeal.empty.Code as code

pub empty_spec : {M : Type 1} → stated.statement M
empty_spec 𝓤 𝓛 𝓜 𝓡 wired =
    empty_met the_row the_row_laws seal 𝓛 𝓜 𝓡 #self (code.unfolded 𝓤 𝓛.H 𝓜 𝓡 wired)

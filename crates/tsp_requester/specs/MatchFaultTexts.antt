-- The text of each rule: its code and its name.
use Rattle.std.specs.Prelude.{ℕ, List, codes}
use Rattle.tsp_requester.specs.declared.rules.MatchFault.{MatchFault}
use Rattle.tsp_requester.specs.declared.rules.MatchFault.TheVariants as rule

abbrev pub match_fault_text : MatchFault → List ℕ
match_fault_text rule.Status = codes "P1 Status"
match_fault_text rule.NoToken = codes "P2 NoToken"
match_fault_text rule.TokenMalformed = codes "P3 TokenMalformed"
match_fault_text rule.Imprint = codes "P4 Imprint"
match_fault_text rule.Nonce = codes "P5 Nonce"
match_fault_text rule.Policy = codes "P6 Policy"
match_fault_text rule.CertMissing = codes "P7 CertMissing"

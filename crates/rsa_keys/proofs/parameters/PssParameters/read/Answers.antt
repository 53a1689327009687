use Rattle.std.proofs.Common.{◌∙◌}
use Rattle.rsa_keys.proofs.ParameterLaws.{pss_found, pss_says}
use Rattle.rsa_keys.proofs.parameters.PssParameters.read.Goals as goal

pub returns-clause-found : goal.returns-clause-found
returns-clause-found c =
    pss_found c.read_parameters.result c.args.octets.now (λ i. (c.type_inv.octets i).fits) c.read_parameters.ensures

pub returns-clause-only : goal.returns-clause-only
returns-clause-only c = λ p k.
    c.read_parameters.ensures ∙ (pss_says c.args.octets.now p (λ i. (c.type_inv.octets i).fits)).1 k

use Rattle.std.proofs.Common.{List, ap, ◌∙◌}
use Rattle.cms_types.specs.SignerValue.{SignerValue}
use Rattle.cms_types.specs.SignedDataValue.{signers_parts}
use Rattle.cms_types.proofs.SignerReaders.{signers_there}
use Rattle.cms_types.proofs.signers.Signers.bytes.Goals as goal

pub returns : goal.returns
returns c = c.rest.ensures.rest ∙ signers_there c.self.inside.list c.rest.ensures.octets c.self.invariant.0
    ∙ ap (λ (ss : List SignerValue). signers_parts ss) c.self.view_is

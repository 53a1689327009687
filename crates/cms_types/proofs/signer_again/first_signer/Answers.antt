use Rattle.std.proofs.Common.{◌∷◌, refl, sym, ap, ◌∙◌}
use Rattle.der_core.specs.Reading.{within}
use Rattle.der_core.proofs.ReadLengths.{ok_is}
use Rattle.der_lists.specs.Items.{all_in}
use Rattle.cms_types.specs.SignerValue.{SignerValue}
use Rattle.cms_types.specs.SignerReading.{signer_in}
use Rattle.cms_types.proofs.Entering.{none_at_front, first_at_front}
use Rattle.cms_types.proofs.signer_again.first_signer.Goals as goal

pub returns-in_err-parts-clause-values : goal.returns-in_err-parts-clause-values
returns-in_err-parts-clause-values c = rw c.from_residual.ensures
    (none_at_front signer_in c.args.list.now c.in_err-parts.ensures.octets c.in_err-parts.ensures.front c.requires)

pub read_again-requires : goal.read_again-requires
read_again-requires c =
    let first = first_at_front signer_in c.args.list.now (c.in_ok-parts.parts, c.in_ok-parts.ahead)
    c.in_ok-parts.ensures.octets c.in_ok-parts.ensures.front c.requires in
    rw first.read refl

pub returns-in_default-clause-values : goal.returns-in_default-clause-values
returns-in_default-clause-values c =
    let first = first_at_front signer_in c.args.list.now (c.in_ok-parts.parts, c.in_ok-parts.ahead)
    c.in_ok-parts.ensures.octets c.in_ok-parts.ensures.front c.requires in
    absurd (let z = sym first.read ∙ c.in_default.ensures in cc)

pub returns-clause-values : goal.returns-clause-values
returns-clause-values c =
    let first = first_at_front signer_in c.args.list.now (c.in_ok-parts.parts, c.in_ok-parts.ahead)
    c.in_ok-parts.ensures.octets c.in_ok-parts.ensures.front c.requires in
    first.items ∙ ap (λ (s : SignerValue). s ∷ all_in (within 0x30 signer_in) c.in_ok-parts.ahead)
    (ok_is first.value c.in-Ok.signer (sym first.read ∙ c.in-Ok.ensures))

pub returns-clause-list : goal.returns-clause-list
returns-clause-list c =
    (first_at_front signer_in c.args.list.now (c.in_ok-parts.parts, c.in_ok-parts.ahead)
    c.in_ok-parts.ensures.octets c.in_ok-parts.ensures.front c.requires).list

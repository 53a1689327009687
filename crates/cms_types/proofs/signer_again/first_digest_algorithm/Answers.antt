use Rattle.der_core.proofs.ReadLengths.{ok_is}
use Rattle.cms_types.specs.SignerReading.{signer_in}
use Rattle.cms_types.proofs.Entering.{none_at_front, first_at_front}
use Rattle.cms_types.proofs.signer_again.first_digest_algorithm.Goals as goal

pub returns-in_err-parts-clause-values : goal.returns-in_err-parts-clause-values
returns-in_err-parts-clause-values c = rw c.from_residual.ensures
    (none_at_front signer_in c.args.list.now c.in_err-parts.ensures.octets c.in_err-parts.ensures.front c.requires)

pub returns-in_default-clause-values : goal.returns-in_default-clause-values
returns-in_default-clause-values c =
    let first = first_at_front signer_in c.args.list.now (c.in_ok-parts.parts, c.in_ok-parts.ahead)
    c.in_ok-parts.ensures.octets c.in_ok-parts.ensures.front c.requires in
    absurd (let z = c.in_default.ensures first.value first.read in cc)

pub returns-clause-values : goal.returns-clause-values
returns-clause-values c =
    let first = first_at_front signer_in c.args.list.now (c.in_ok-parts.parts, c.in_ok-parts.ahead)
    c.in_ok-parts.ensures.octets c.in_ok-parts.ensures.front c.requires in (
      first.value,
      first.items,
      ok_is c.in-Ok.algorithm first.value.digest_algorithm (c.in-Ok.ensures first.value first.read),
    )

pub returns-clause-list : goal.returns-clause-list
returns-clause-list c =
    (first_at_front signer_in c.args.list.now (c.in_ok-parts.parts, c.in_ok-parts.ahead)
    c.in_ok-parts.ensures.octets c.in_ok-parts.ensures.front c.requires).list

use Rattle.std.proofs.Common.{inr, refl, sym, ap, ◌∙◌, arith}
use Rattle.der_lists.specs.Items.{explicit_opaque_in}
use Rattle.cli_failures.proofs.Stamps.{none, whole}
use Rattle.cli_failures.proofs.token.stamp_in.Goals as goal

pub returns-in-Ok-clause-held : goal.returns-in-Ok-clause-held
returns-in-Ok-clause-held c =
    let (opaque, same) = whole c.args.octets.now c.in-Ok.element (λ i. omega (arith, c.type_inv.octets i))
    (ap explicit_opaque_in (sym c.new.ensures) ∙ c.in-Ok.ensures) in
    inr (c.if-is_response.ensures, opaque, c.whole.ensures ∙ same)

pub returns-in-Err-clause-refused : goal.returns-in-Err-clause-refused
returns-in-Err-clause-refused c = inr (
  c.if-is_response.ensures,
  record {
    fault = c.in-Err.fault;
    malformed = refl;
    found = none c.args.octets.now c.in-Err.fault (λ i. omega (arith, c.type_inv.octets i))
        (ap explicit_opaque_in (sym c.new.ensures) ∙ c.in-Err.ensures);
  },
)

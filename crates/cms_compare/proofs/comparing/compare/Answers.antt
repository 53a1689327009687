use Rattle.std.proofs.Common.{rules, refl}
use Rattle.cms_compare.specs.declared.compared.Compared.{Compared}
use Rattle.cms_compare.specs.declared.compared.Compared.TheVariants as compared
use Rattle.cms_compare.specs.declared.fault.Which.TheVariants as which
use Rattle.cms_compare.specs.Comparing.{IsSignedBy, IsCompared, Compares}
use Rattle.cms_compare.proofs.Signed.{signed_is}
use Rattle.der_core.proofs.Encoded.{same}
use Rattle.cms_compare.proofs.Judged.{compares, no_answer, the_answer, collision, unlike, differ}
use Rattle.cms_compare.proofs.comparing.compare.Goals.{In-Ok, In-Ok-signed_by}
use Rattle.cms_compare.proofs.comparing.compare.Goals as goal

-- the content and the signer of each file
first : (c : In-Ok) → IsSignedBy c.args.a.now c.args.i c.in-Ok.signed.0.now c.in-Ok.signed.1
first c = signed_is c.args.a.now c.args.i c.signed_by.ensures.0 (c.in-Ok.signed.0.now, c.in-Ok.signed.1)
    c.signed_by.ensures.1 (search rules)

second : (c : In-Ok-signed_by)
    → IsSignedBy c.args.b.now c.args.j c.in-Ok-signed_by.signed.0.now c.in-Ok-signed_by.signed.1
second c = signed_is c.args.b.now c.args.j c.signed_by-2.ensures.0
    (c.in-Ok-signed_by.signed.0.now, c.in-Ok-signed_by.signed.1) c.signed_by-2.ensures.1 (search rules)

-- what is answered about these
answered : (c : In-Ok-signed_by) (x : Compared) → IsCompared c.in-Ok.signed.0.now c.in-Ok.signed.1
    c.in-Ok-signed_by.signed.0.now c.in-Ok-signed_by.signed.1 x
    → Compares c.args.a.now c.args.i c.args.b.now c.args.j x
answered c x is = compares c.args.a.now c.args.i c.args.b.now c.args.j c.in-Ok.signed.0.now
    c.in-Ok-signed_by.signed.0.now c.in-Ok.signed.1 c.in-Ok-signed_by.signed.1 x
    (first (goal.at.In-Ok-signed_by c).In-Ok) (second c) is

pub returns-in-Err-clause-compared : goal.returns-in-Err-clause-compared
returns-in-Err-clause-compared c =
    no_answer c.args.a.now c.args.i c.args.b.now c.args.j (record { which = which.First; rule = c.in-Err.rule })
    (c.signed_by.ensures.0, c.signed_by.ensures.1, search rules) _ refl

pub returns-in-Err-signed_by-clause-refused : goal.returns-in-Err-signed_by-clause-refused
returns-in-Err-signed_by-clause-refused c = (
  (c.in-Ok.signed.0.now, c.in-Ok.signed.1, first (goal.at.returns-in-Err-signed_by-clause-refused c).In-Ok),
  (c.signed_by-2.ensures.0, c.signed_by-2.ensures.1, search rules),
)

pub returns-in-Err-signed_by-clause-compared : goal.returns-in-Err-signed_by-clause-compared
returns-in-Err-signed_by-clause-compared c =
    no_answer c.args.a.now c.args.i c.args.b.now c.args.j
    (record { which = which.Second; rule = c.in-Err-signed_by.rule }) (returns-in-Err-signed_by-clause-refused c) _ refl

pub returns-then-not-sign_alike-clause-compared : goal.returns-then-not-sign_alike-clause-compared
returns-then-not-sign_alike-clause-compared c =
    the_answer c.args.a.now c.args.i c.args.b.now c.args.j compared.Different
    (answered (goal.at.returns-then-not-sign_alike-clause-compared c).In-Ok-signed_by compared.Different
    (unlike c.in-Ok.signed.1 c.in-Ok-signed_by.signed.1 c.sign_alike.result (search rules) c.sign_alike.ensures.1))
    _ refl

pub returns-then-is_same-clause-compared : goal.returns-then-is_same-clause-compared
returns-then-is_same-clause-compared c =
    the_answer c.args.a.now c.args.i c.args.b.now c.args.j compared.Same
    (answered (goal.at.returns-then-is_same-clause-compared c).In-Ok-signed_by compared.Same (
      c.sign_alike.ensures.0 (search rules),
      same c.in-Ok.signed.0.now c.in-Ok-signed_by.signed.0.now (search rules),
    )) _ refl

pub returns-else-is_same-clause-compared : goal.returns-else-is_same-clause-compared
returns-else-is_same-clause-compared c =
    let at = goal.at.returns-else-is_same-clause-compared c in
    the_answer c.args.a.now c.args.i c.args.b.now c.args.j compared.Collision
    (answered at.In-Ok-signed_by compared.Collision
    (collision c.args.a.now c.args.i c.args.b.now c.args.j c.in-Ok.signed.0.now c.in-Ok-signed_by.signed.0.now
    c.in-Ok.signed.1 c.in-Ok-signed_by.signed.1 (first at.In-Ok) (second at.In-Ok-signed_by)
    (c.sign_alike.ensures.0 (search rules))
    (differ c.in-Ok.signed.0.now c.in-Ok-signed_by.signed.0.now (search rules)))) _ refl

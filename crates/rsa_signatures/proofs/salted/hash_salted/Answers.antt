use Rattle.std.proofs.Common.{◌+◌, ◌-◌, ap, ◌∙◌, refl, length}
use Rattle.digests.specs.Messages.{digest_of}
use Rattle.rsa_signatures.proofs.SaltedSteps.{salted_is}
use Rattle.rsa_signatures.proofs.salted.hash_salted.Goals as goal

pub returns-clause-octets : goal.returns-clause-octets
returns-clause-octets c =
    c.digest.ensures.octets
    ∙ ap (λ m. digest_of c.args.alg m)
    (salted_is c.args.hash.now c.args.salt.now c.copy_from_slice.new.self c.copy_from_slice-2.new.self
    (8 + length c.args.hash.now) (8 + length c.args.hash.now + length c.args.salt.now)
    (8 + length c.args.hash.now - 8)
    (8 + length c.args.hash.now + length c.args.salt.now - (8 + length c.args.hash.now))
    c.copy_from_slice.ensures.after c.copy_from_slice-2.ensures.after refl refl)

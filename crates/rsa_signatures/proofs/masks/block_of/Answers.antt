use Rattle.std.proofs.Common.{◌++◌, ◌∷◌, [], ap, sym, refl, ◌∙◌, length}
use Rattle.digests.specs.Messages.{digest_of}
use Rattle.rsa_signatures.proofs.MaskSteps.{seed_and_counter, counter_octets}
use Rattle.rsa_signatures.proofs.masks.block_of.Goals as goal

pub returns-clause-octets : goal.returns-clause-octets
returns-clause-octets c =
    c.digest.ensures.octets
    ∙ ap (λ m. digest_of c.args.alg m) (seed_and_counter _ _ (length c.args.seed.now) c.args.counter
    (ap length c.copy_from_slice.ensures.after) c.requires refl)
    ∙ ap (λ s. digest_of c.args.alg (s ++ 0 ∷ 0 ∷ 0 ∷ c.args.counter ∷ [])) c.copy_from_slice.ensures.after
    ∙ ap (λ z. digest_of c.args.alg (c.args.seed.now ++ z)) (sym (counter_octets c.args.counter c.ranges.counter.fits))

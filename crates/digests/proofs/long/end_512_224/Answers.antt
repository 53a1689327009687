use Rattle.std.proofs.Common.{List, ℕ, ap, ◌∙◌, take}
use Rattle.sha2.specs.Sha512.{digest_bytes, sha512_224}
use Rattle.digests.proofs.long.end_512_224.Goals as goal

pub returns-in-Some-clause-digest : goal.returns-in-Some-clause-digest
unfolding sha512_224
returns-in-Some-clause-digest c = λ m held.
    c.first_28.ensures
    ∙ ap (take 28) (c.octets_of.ensures ∙ ap (λ (h : List ℕ). digest_bytes h 8) (rw c.in-Some.is at held))

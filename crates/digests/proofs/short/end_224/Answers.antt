use Rattle.std.proofs.Common.{List, ℕ, ap, ◌∙◌, take}
use Rattle.sha2.specs.Sha256.{digest_bytes, sha224}
use Rattle.digests.proofs.short.end_224.Goals as goal

pub returns-in-Some-clause-digest : goal.returns-in-Some-clause-digest
unfolding sha224
returns-in-Some-clause-digest c = λ m held.
    c.first_28.ensures
    ∙ ap (take 28) (c.octets_of.ensures ∙ ap (λ (h : List ℕ). digest_bytes h 8) (rw c.in-Some.is at held))

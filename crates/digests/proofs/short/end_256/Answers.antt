use Rattle.std.proofs.Common.{List, ℕ, ap, ◌∙◌}
use Rattle.sha2.specs.Sha256.{digest_bytes, sha256}
use Rattle.digests.proofs.short.end_256.Goals as goal

pub returns-in-Some-clause-digest : goal.returns-in-Some-clause-digest
unfolding sha256
returns-in-Some-clause-digest c =
    λ m held. c.octets_of.ensures ∙ ap (λ (h : List ℕ). digest_bytes h 8) (rw c.in-Some.is at held)

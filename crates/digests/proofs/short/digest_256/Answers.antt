use Rattle.std.proofs.Common.{List, ℕ, ap, ◌∙◌}
use Rattle.sha2.specs.Sha256.{digest_bytes, sha256}
use Rattle.digests.proofs.short.digest_256.Goals as goal

pub returns : goal.returns
unfolding sha256
returns c = c.octets_of.ensures ∙ ap (λ (h : List ℕ). digest_bytes h 8) c.hash_short.ensures

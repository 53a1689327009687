use Rattle.std.proofs.Common.{List, ℕ, ap, ◌∙◌}
use Rattle.sha2.specs.Sha512.{digest_bytes, sha512}
use Rattle.digests.proofs.long.digest_512.Goals as goal

pub returns : goal.returns
unfolding sha512
returns c = c.octets_of.ensures ∙ ap (λ (h : List ℕ). digest_bytes h 8) c.hash_long.ensures

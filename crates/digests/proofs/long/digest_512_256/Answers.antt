use Rattle.std.proofs.Common.{List, ℕ, ap, ◌∙◌, take}
use Rattle.sha2.specs.Sha512.{digest_bytes, sha512_256}
use Rattle.digests.proofs.long.digest_512_256.Goals as goal

pub returns : goal.returns
unfolding sha512_256
returns c =
    c.first_32.ensures ∙ ap (take 32) (c.octets_of.ensures ∙ ap (λ (h : List ℕ). digest_bytes h 8) c.hash_long.ensures)

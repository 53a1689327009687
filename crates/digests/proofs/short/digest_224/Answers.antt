use Rattle.std.proofs.Common.{List, ℕ, ap, ◌∙◌, take}
use Rattle.sha2.specs.Sha256.{digest_bytes, sha224}
use Rattle.digests.proofs.short.digest_224.Goals as goal

pub returns : goal.returns
unfolding sha224
returns c =
    c.first_28.ensures ∙ ap (take 28) (c.octets_of.ensures ∙ ap (λ (h : List ℕ). digest_bytes h 8) c.hash_short.ensures)

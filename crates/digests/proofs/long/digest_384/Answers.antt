use Rattle.std.proofs.Common.{List, ℕ, ap, ◌∙◌, take}
use Rattle.sha2.specs.Sha512.{digest_bytes, sha384}
use Rattle.digests.proofs.long.digest_384.Goals as goal

pub returns : goal.returns
unfolding sha384
returns c =
    c.first_48.ensures ∙ ap (take 48) (c.octets_of.ensures ∙ ap (λ (h : List ℕ). digest_bytes h 8) c.hash_long.ensures)

use Rattle.std.proofs.Common.{◌≡◌, ℕ, ◌-◌, ◌%◌, ◌∷◌, ◌++◌, length, replicate, ap, ◌∙◌, append_assoc}
use Rattle.sha2_blocks.proofs.short_hashers.put_last.Goals as goal

pub returns-clause-octets : goal.returns-clause-octets
returns-clause-octets c =
    let rest = c.args.rest.now in
    let zeros : (119 - length rest) % 64 ≡ (119 - c.args.total % 64) % 64 = ap (λ (n : ℕ). (119 - n) % 64) c.requires in
    c.put_ending.ensures.octets ∙ append_assoc rest (0x80 ∷ replicate ((119 - length rest) % 64) 0) c.to_be_bytes.result
    ∙ (λ i. rest ++ ((0x80 ∷ replicate (zeros i) 0) ++ c.to_be_bytes.ensures i))

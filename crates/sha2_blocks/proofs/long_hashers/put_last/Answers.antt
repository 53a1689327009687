use Rattle.std.proofs.Common.{◌≡◌, ℕ, ◌-◌, ◌%◌, ◌∷◌, ◌++◌, length, replicate, ap, ◌∙◌, append_assoc}
use Rattle.sha2_blocks.proofs.long_hashers.put_last.Goals as goal

pub returns-clause-octets : goal.returns-clause-octets
returns-clause-octets c =
    let rest = c.args.rest.now in
    let zeros : (239 - length rest) % 128 ≡ (239 - c.args.total % 128) % 128 =
    ap (λ (n : ℕ). (239 - n) % 128) c.requires in
    c.put_ending.ensures.octets
    ∙ append_assoc rest (0x80 ∷ replicate ((239 - length rest) % 128) 0) c.to_be_bytes.result
    ∙ (λ i. rest ++ ((0x80 ∷ replicate (zeros i) 0) ++ c.to_be_bytes.ensures i))

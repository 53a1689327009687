use Rattle.std.proofs.Common.{ℕ, ◌+◌, List, length, refl, ap, ◌∙◌}
use Rattle.sha2_blocks.proofs.Octets.{put_thrice}
use Rattle.sha2_blocks.proofs.endings.put_ending.Goals as goal

pub returns-clause-octets : goal.returns-clause-octets
returns-clause-octets c =
    put_thrice _ _ c.args.rest.now _ _ _ _ _ _ _ _ c.copy_from_slice.ensures.after
    (c.copy_from_slice-2.ensures.after ∙ c.padding-filling.ensures) c.copy_from_slice-3.ensures.after
    (ap (λ (x : List ℕ). length c.args.rest.now + length x) c.padding-filling.ensures) refl

use Rattle.std.proofs.Common.{ℕ, add-one, refl, arith}
use Rattle.std.proofs.lemmas.List.{take-replicate}
use Rattle.sha2_blocks.proofs.endings.padding.Goals as goal

pub returns : goal.returns
returns c = rw (add-one, take-replicate {X = ℕ} c.args.zeros 127 0 (omega arith)) refl

use Rattle.std.proofs.Common.{refl, arith}
use Rattle.std.proofs.lemmas.List.{take_rest}
use Rattle.sha2_blocks.proofs.Pieces.{hashed}
use Rattle.sha2_blocks.proofs.Words.{long}
use Rattle.sha2_blocks.proofs.long_hashers.hash_long.Goals as goal

pub returns : goal.returns
returns c =
    let count = c.put_last-count.ensures in
    hashed long c.args.initial _ _ c.args.message.now _ c.put_last-count.new.last _ c.put_last-count.result refl
    c.take_blocks_of_one.ensures c.take_blocks_of_one-2.ensures count.edge (omega (arith, count.within))
    (take_rest c.args.message.now _) count.octets

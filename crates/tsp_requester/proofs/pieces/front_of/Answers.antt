use Rattle.std.proofs.Common.{refl}
use Rattle.tsp_requester.specs.Pieces.{signer_front}
use Rattle.tsp_requester.proofs.Cutting.{unsigned_front}
use Rattle.tsp_requester.proofs.pieces.front_of.Goals as goal

pub returns-in-Some : goal.returns-in-Some
returns-in-Some c = λ good same.
    let there = unsigned_front c.args.signer.now c.in-Some.list.now c.bytes.result.now c.args.parts.now
    c.in-Some.ensures c.bytes.ensures.joined good same in
    c.before_last.ensures (signer_front c.args.signer.now) 161 c.bytes.result.now there.0 refl there.1

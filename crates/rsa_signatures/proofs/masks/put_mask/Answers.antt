use Rattle.std.proofs.Common.{◌≡◌, ◌≤◌, ◌++◌, length, ap, sym, ◌∙◌, add-one, arith}
use Rattle.digests.specs.Algorithms.{length_of}
use Rattle.rsa_signatures.specs.Pss.{mgf1_blocks}
use Rattle.rsa_signatures.proofs.MaskSteps.{mask_goes_on, least, most, room_for}
use Rattle.rsa_signatures.proofs.masks.put_mask.Goals as goal

pub counters-preserved : goal.counters-preserved
counters-preserved c =
    let is = c.copy_from_slice.ensures.after ∙ c.bytes.ensures.octets in
    let l : length c.copy_from_slice.new.self ≡ c.length-size.result =
    ap length is ∙ c.bytes.ensures.count ∙ ap length_of c.block_of-block.ensures.algorithm
    ∙ sym c.length-size.ensures in
    let least_size : 20 ≤ c.length-size.result = rw c.length-size.ensures (least c.args.alg) in
    let most_size : c.length-size.result ≤ 64 = rw c.length-size.ensures (most c.args.alg) in
    let room = room_for c.args.count c.length-size.result c.counters.counter least_size most_size c.requires.count
    c.counters-test.true in
    mask_goes_on c.args.alg c.args.seed.now c.counters.room c.copy_from_slice.new.self c.length-size.result
    c.counters.counter _
    l (omega (arith, room)) c.counters.invariant
    ∙ ap (λ z. mgf1_blocks c.args.alg c.args.seed.now c.counters.counter ++ z) (is ∙ c.block_of-block.ensures.octets)
    ∙ ap (λ k. mgf1_blocks c.args.alg c.args.seed.now k) (sym (add-one c.counters.counter))

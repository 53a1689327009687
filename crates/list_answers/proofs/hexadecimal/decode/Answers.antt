use Rattle.std.proofs.Common.{◌+◌, ◌*◌, arith}
use Rattle.list_answers.proofs.Decoding.{value_small, one_more, sixteen_more, stopped, finished}
use Rattle.list_answers.proofs.hexadecimal.decode.Goals as goal

pub loop-done-preserved : goal.loop-done-preserved
loop-done-preserved c =
    let sixteen = c.in-Some.ensures.all in
    let capacity = c.push_sixteen.ensures.capacity in
    let len = c.push_sixteen.ensures.len in
    record {
      within = omega arith;
      room = omega arith;
      so_far = omega arith;
      decoded = sixteen_more c.args.text.now c.loop-done.octets.items c.push_sixteen.new.octets.items c.in-Some.more
          c.loop-done.done (omega arith)
          c.in-Some.ensures c.push_sixteen.ensures.items c.loop-done.invariant.decoded;
    }

pub overflow_mul-octet : goal.overflow_mul-octet
overflow_mul-octet c = omega (arith, c.value_of.ensures, value_small)

pub overflow_add-octet : goal.overflow_add-octet
overflow_add-octet c = omega (arith, c.value_of.ensures, c.value_of-in-loop-i.ensures, value_small)

pub returns-then-octet-gt255 : goal.returns-then-octet-gt255
returns-then-octet-gt255 c =
    stopped c.args.text.now c.loop-i.octets.items c.loop-i.i c.value_of.result c.value_of-in-loop-i.result (omega arith)
    c.value_of.ensures c.value_of-in-loop-i.ensures (omega arith) (omega arith) c.loop-i.invariant.decoded

pub loop-i-preserved : goal.loop-i-preserved
loop-i-preserved c =
    let capacity = c.push_reserved.ensures.capacity in
    let len = c.push_reserved.ensures.len in
    record {
      room = omega arith;
      so_far = omega arith;
      decoded = one_more c.args.text.now c.loop-i.octets.items c.push_reserved.new.self.items c.loop-i.i
          (c.value_of.result * 16 + c.value_of-in-loop-i.result) (omega arith)
          (omega (arith, c.value_of.ensures, c.value_of-in-loop-i.ensures)) (omega arith)
          c.push_reserved.ensures.items c.loop-i.invariant.decoded;
    }

pub returns : goal.returns
returns c =
    finished c.args.text.now c.loop-i.octets.items c.loop-i.i (omega arith) (omega arith) c.loop-i.invariant.decoded

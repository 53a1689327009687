use Rattle.std.proofs.Common.{slice_index}
use Rattle.sha2.specs.Sha256.{temp1, temp2}
use Rattle.sha2_blocks.proofs.ShortPairs.{sum_is, temp1_is, temp2_is}
use Rattle.sha2_blocks.proofs.short_pairs.one_round.Goals as goal

pub returns : goal.returns
returns c = λ x y k w sum held.
    let t1 = temp1_is x y c.args.v.h c.upper_sigma1.result c.choose.result c.args.sum k w sum held.h.low
    (c.upper_sigma1.ensures _ held.e) (rw (held.e.low, held.f.low, held.g.low) at c.choose.ensures.short) in
    let t2 = temp2_is x y c.upper_sigma0.result c.majority.result (c.upper_sigma0.ensures _ held.a)
    (rw (held.a.low, held.b.low, held.c.low) at c.majority.ensures.short) in
    record {
      a = rw (sum_is _ _ (temp1 x k w) (temp1 y k w) (temp2 x) (temp2 y) t1 t2) at c.doubled.ensures;
      b = held.a;
      c = held.b;
      d = held.c;
      e = rw (sum_is c.args.v.d _ (slice_index x 3) (slice_index y 3) (temp1 x k w) (temp1 y k w) held.d.low t1) at
          c.doubled-2.ensures;
      f = held.e;
      g = held.f;
      h = held.g;
    }

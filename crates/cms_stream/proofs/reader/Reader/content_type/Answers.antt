use Rattle.std.proofs.Common.{rules, arith}
use Rattle.std.proofs.lemmas.Grind.{common_steps}
use Rattle.der_core.specs.Reading.{oid_in}
use Rattle.cms_stream.proofs.Moments.{kept_read}
use Rattle.cms_stream.proofs.reader.Reader.content_type.Goals as goal

pub returns-in-Ok : goal.returns-in-Ok
returns-in-Ok g c = record {
  finds = kept_read 0x06 oid_in c.args.end c.in_ok-inner.inner _ _ _ c.in_ok-inner.ensures c.in_ok-keep.ensures.reads
      c.keep.new.room (grind (arith, common_steps)) (grind (arith, common_steps), grind (arith, common_steps));
  room = first_of (search rules, grind (arith, common_steps));
  states = first_of (search rules, grind (arith, common_steps));
  size = first_of (search rules, grind (arith, common_steps));
}

use Rattle.std.proofs.Common.{rules, arith}
use Rattle.std.proofs.lemmas.Grind.{common_steps}
use Rattle.cms_types.specs.SignedDataReading.{signers_in}
use Rattle.cms_stream.proofs.Moments.{kept_read}
use Rattle.cms_stream.proofs.reader.Reader.signers.Goals as goal

pub returns-in-Ok : goal.returns-in-Ok
returns-in-Ok g c = record {
  finds = kept_read 0x31 signers_in c.args.end c.in_ok-inner.inner _ _ _ c.in_ok-inner.ensures
      c.in_ok-keep.ensures.reads c.in-Ok.signers (grind (arith, common_steps))
      (grind (arith, common_steps), grind (arith, common_steps));
  room = first_of (search rules, grind (arith, common_steps));
}

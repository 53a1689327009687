use Rattle.std.proofs.Common.{arith}
use Rattle.std.proofs.lemmas.Grind.{common_steps}
use Rattle.cms_stream_laws.specs.OpenReading.{body_of}
use Rattle.cms_stream_laws.specs.OpenContentInfo.{explicit_octets_openly}
use Rattle.cms_stream.specs.Passing.{body_to}
use Rattle.cms_stream.specs.Readers.{seen}
use Rattle.cms_stream.proofs.reader.Reader.explicit_octets.Goals as goal

pub returns : goal.returns
unfolding explicit_octets_openly
returns g c = record {
  exact = (
    body_of (body_to c.in_ok-inner.inner (seen c.enter.new.self (g.S.Source.rest c.enter.new.source))),
    grind (arith, common_steps),
    λ t. c.in_ok-pour.ensures.taken (c.in_ok-inner.ensures.telling t),
  );
  telling = grind (arith, common_steps);
  at = grind (arith, common_steps);
  moved = grind (arith, common_steps);
}

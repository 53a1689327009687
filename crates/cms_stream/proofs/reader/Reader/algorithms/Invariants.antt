use Rattle.std.proofs.Common.{◌-◌}
use Rattle.cms_stream_laws.specs.OpenReading.{within_openly}
use Rattle.cms_stream_laws.specs.OpenContentInfo.{algorithm_openly}
use Rattle.cms_stream.specs.Calls.{moment}
use Rattle.cms_stream.proofs.Moments.{Passed}
use Rattle.cms_stream.proofs.reader.Reader.algorithms.Given as goal

abbrev pub invariant-loop-self : goal.invariant-loop-self
invariant-loop-self g l = Passed (within_openly 0x30 algorithm_openly) l.fn.end
    (moment g.S.Source l.fn.self l.fn.source) (moment g.S.Source l.self l.source)

abbrev pub decreases-loop-self : goal.decreases-loop-self
decreases-loop-self g l = l.fn.end - l.self.at

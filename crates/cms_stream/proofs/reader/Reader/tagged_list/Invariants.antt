use Rattle.std.proofs.Common.{◌-◌}
use Rattle.cms_stream_laws.specs.OpenReading.{tagged_openly}
use Rattle.cms_stream.specs.Calls.{moment}
use Rattle.cms_stream.proofs.Moments.{Passed}
use Rattle.cms_stream.proofs.reader.Reader.tagged_list.Given as goal

abbrev pub invariant-loop-self : goal.invariant-loop-self
invariant-loop-self g l = Passed (tagged_openly l.fn.tags) l.fn.end
    (moment g.S.Source l.fn.self l.fn.source) (moment g.S.Source l.self l.source)

abbrev pub decreases-loop-self : goal.decreases-loop-self
decreases-loop-self g l = l.fn.end - l.self.at

use Rattle.std.proofs.Common.{[]}
use Rattle.cli_evidence.proofs.Digested.{none_digested, one_more}
use Rattle.cli_evidence.proofs.check.digests_of_all.Goals as goal

pub loop-path-init : goal.loop-path-init
loop-path-init g c =
    rw c.new-all.ensures.items
    (none_digested g.R.File.Read.remaining c.args.wanted c.args.words.now.data.items)

pub loop-path-preserved : goal.loop-path-preserved
loop-path-preserved g c =
    rw c.in_ok-push.ensures.items
    (one_more g.R.File.Read.remaining c.args.wanted c.args.words.now.data.items c.deref-path-items.result.now
    c.loop-path.all.items c.in_ok-digests_of.field-0 c.loop-path.path-index (record { ref_ptr = (0, 0); now = [] })
    c.deref-path-items.ensures.value c.loop-path-test.true c.loop-path.invariant c.in_ok-digests_of.ensures.found)

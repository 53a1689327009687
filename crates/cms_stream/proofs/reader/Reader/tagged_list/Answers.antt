use Rattle.std.proofs.Common.{◌≡◌, Err, arith}
use Rattle.std.proofs.lemmas.Grind.{common_steps}
use Rattle.cms_stream_laws.specs.OpenReading.{tagged_openly}
use Rattle.cms_stream.proofs.Moments.{one_passed, passed_not, all_passed}
use Rattle.cms_stream.proofs.Opaques.{tagged_misses}
use Rattle.cms_stream.proofs.reader.Reader.tagged_list.Goals as goal

pub loop-self-preserved : goal.loop-self-preserved
loop-self-preserved g c =
    one_passed (tagged_openly c.args.tags.now) (tagged_misses c.args.tags.now) c.args.end _ _
    c.loop-self.invariant (omega (arith, c.loop-self-test.true)) c.in_ok-tagged.ensures

pub returns-in_err-tagged : goal.returns-in_err-tagged
returns-in_err-tagged g c =
    let e = c.in_err-tagged.ensures in
    let is : c.from_residual.result ≡ Err c.in_err-tagged.field-0.0 = grind (arith, common_steps) in
    rw is (passed_not (tagged_openly c.args.tags.now) (tagged_misses c.args.tags.now) c.args.end _ _
    c.loop-self.invariant _ (omega (arith, c.loop-self-test.true)) e.telling e.exact)

pub returns : goal.returns
returns g c =
    all_passed (tagged_openly c.args.tags.now) (tagged_misses c.args.tags.now) c.args.end _ _
    c.loop-self.invariant (omega (arith, c.loop-self-test.false))

use Rattle.std.proofs.Common.{◌≡◌, Err, arith}
use Rattle.std.proofs.lemmas.Grind.{common_steps}
use Rattle.cms_stream_laws.specs.OpenReading.{within_openly}
use Rattle.cms_stream_laws.specs.OpenContentInfo.{algorithm_openly}
use Rattle.cms_stream.proofs.Listing.{within_misses}
use Rattle.cms_stream.proofs.Moments.{one_passed, passed_not, all_passed}
use Rattle.cms_stream.proofs.reader.Reader.algorithms.Goals as goal

pub loop-self-preserved : goal.loop-self-preserved
loop-self-preserved g c =
    one_passed (within_openly 0x30 algorithm_openly) (within_misses 0x30 algorithm_openly) c.args.end _ _
    c.loop-self.invariant (omega (arith, c.loop-self-test.true)) c.in_ok-next_algorithm.ensures

pub returns-in_err-next_algorithm : goal.returns-in_err-next_algorithm
returns-in_err-next_algorithm g c =
    let e = c.in_err-next_algorithm.ensures in
    let is : c.from_residual.result ≡ Err c.in_err-next_algorithm.field-0.0 = grind (arith, common_steps) in
    rw is (passed_not (within_openly 0x30 algorithm_openly) (within_misses 0x30 algorithm_openly) c.args.end _ _
    c.loop-self.invariant _ (omega (arith, c.loop-self-test.true)) e.telling e.exact)

pub returns : goal.returns
returns g c =
    all_passed (within_openly 0x30 algorithm_openly) (within_misses 0x30 algorithm_openly) c.args.end _ _
    c.loop-self.invariant (omega (arith, c.loop-self-test.false))

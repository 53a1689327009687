use Rattle.std.proofs.Common.{◌≡◌, ◌∙◌, ◌+◌, ◌++◌, take, length, arith, length-take}
use Rattle.digests.proofs.Turns.{SoFar, SoFar-more, SoFar-reads}
use Rattle.digests.proofs.feeding.feed_from.Given.{Over}
use Rattle.digests.proofs.feeding.feed_from.Goals.{After-feed}
use Rattle.digests.proofs.feeding.feed_from.Goals as goal

-- what was fed with this turn
more : (g : Over) (c : After-feed g) → SoFar g.F.Feed.fed c.args.hashers.now c.feed.new.self
    (g.S.Source.tells c.args.source.now) (g.S.Source.rest c.args.source.now) (g.S.Source.rest c.fill.new.self)
    (c.loop-count.total + c.in-Ok.count) (c.loop-count.invariant.given.0 ++ take c.in-Ok.count c.fill.new.buf)
more g c =
    let h = c.loop-count.invariant in
    let n : c.in-Ok.count ≡ length (take c.in-Ok.count c.fill.new.buf) =
    omega (arith, length-take c.in-Ok.count c.fill.new.buf, c.in-Ok.ensures.bound) in
    SoFar-more g.F.Feed.fed _ (g.S.Source.tells c.args.source.now) _ _ c.feed.new.self _ _ _ c.in-Ok.count _ h.given.0
    (take c.in-Ok.count c.fill.new.buf) h.given.1
    (record { hands = λ t. c.in-Ok.ensures.handed (h.telling t); size = n; feeds = c.feed.ensures.fed })

pub returns-then-total-gt-MOST-clause-given : goal.returns-then-total-gt-MOST-clause-given
returns-then-total-gt-MOST-clause-given g c =
    let so_far = more g (goal.at.returns-then-total-gt-MOST-clause-given g c).After-feed in
    (_, SoFar-reads g.F.Feed.fed _ _ _ _ _ _ _ so_far, so_far.parts)

pub loop-count-preserved : goal.loop-count-preserved
loop-count-preserved g c =
    let h = c.loop-count.invariant in
    let so_far = more g (goal.at.loop-count-preserved g c).After-feed in
    record {
      room = omega arith;
      short = omega arith;
      failures = c.in-Ok.ensures.count ∙ h.failures;
      telling = λ t. c.in-Ok.ensures.telling (h.telling t);
      kept = c.feed.ensures.kept ∙ h.kept;
      given = (_, so_far);
    }

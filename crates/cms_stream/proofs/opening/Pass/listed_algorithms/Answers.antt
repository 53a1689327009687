use Rattle.cms_stream.specs.declared.hint.TheConstants.{HINT_LIMIT}
use Rattle.cms_stream.proofs.Listed.{counted_once, listed_from_front}
use Rattle.cms_stream.proofs.opening.Pass.listed_algorithms.Goals as goal

pub returns : goal.returns
returns g c = record {
  count = counted_once (g.S.Source.failures c.args.source.now) (g.S.Source.failures c.digest_algorithms.new.source)
      c.digest_algorithms.result c.digest_algorithms.ensures.passes.count;
  telling = c.digest_algorithms.ensures.passes.telling;
  listed = λ t v good.
      listed_from_front HINT_LIMIT v (g.S.Source.failures c.args.source.now)
      (g.S.Source.failures c.digest_algorithms.new.source) c.named_in.result
      _ (g.S.Source.rest c.args.source.now) c.digest_algorithms.result c.restart.ensures.window
      (g.met.S.Source.octets c.args.source.now t) good
      c.digest_algorithms.ensures.passes.count (c.digest_algorithms.ensures.tells t) c.named_in.ensures;
}

use Rattle.std.proofs.Common.{length}
use Rattle.cms_stream.specs.Passing.{Gains}
use Rattle.cms_stream.proofs.Opens.{opens_from, encoding_from}
use Rattle.cms_stream.proofs.opening.Pass.open_stream.Goals as goal

pub returns-clause-opens : goal.returns-clause-opens
returns-clause-opens g c t =
    opens_from (Gains (g.K.Taker.held c.args.taker.now) (g.K.Taker.held c.file.new.taker)) (length c.args.buffer.now)
    (g.S.Source.tells c.args.source.now) (g.S.Source.failures c.args.source.now)
    (g.S.Source.failures c.file.new.source) _
    (g.S.Source.rest c.args.source.now) c.file.result c.restart.ensures.window
    (g.met.S.Source.octets c.args.source.now t) t c.file.ensures.exact

pub returns-clause-only : goal.returns-clause-only
returns-clause-only g c t v good =
    encoding_from (Gains (g.K.Taker.held c.args.taker.now) (g.K.Taker.held c.file.new.taker)) (length c.args.buffer.now)
    (g.S.Source.tells c.args.source.now) (g.S.Source.failures c.args.source.now)
    (g.S.Source.failures c.file.new.source) _
    (g.S.Source.rest c.args.source.now) c.file.result c.restart.ensures.window
    (g.met.S.Source.octets c.args.source.now t) t v good
    c.file.ensures.exact

use Rattle.cms_stream.proofs.Windowing.{passing}
use Rattle.std.proofs.Common.{arith}
use Rattle.cms_stream.proofs.window.Window.pass.Goals as goal

pub returns : goal.returns
returns c =
    passing c.self.inside.from c.self.inside.to c.args.count c.self.inside.octets c.args.self.now c.self.view_is
    c.self.invariant.0
    (omega (arith, c.self.invariant.1, c.self.invariant.2)) c.requires

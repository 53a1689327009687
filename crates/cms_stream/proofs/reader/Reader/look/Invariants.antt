use Rattle.std.proofs.Common.{◌≡◌, ◌-◌, length}
use Rattle.cms_stream.specs.Readers.{seen}
use Rattle.cms_stream.proofs.reader.Reader.look.Given as goal

abbrev pub invariant-loop-self : goal.invariant-loop-self
invariant-loop-self g l = record {
  at : l.self.at ≡ l.fn.self.at;
  failures : g.S.Source.failures l.source ≡ g.S.Source.failures l.fn.source;
  telling : g.S.Source.tells l.fn.source → g.S.Source.tells l.source;
  same : g.S.Source.tells l.fn.source
      → seen l.self (g.S.Source.rest l.source) ≡ seen l.fn.self (g.S.Source.rest l.fn.source);
}

abbrev pub decreases-loop-self : goal.decreases-loop-self
decreases-loop-self g l = l.count - length l.self.window

use Rattle.std.proofs.Common.{◌≡◌, ◌≤◌, ◌+◌, ◌-◌, ◌++◌, ℕ, List, length}
use Rattle.cms_stream.specs.Readers.{seen}
use Rattle.cms_stream.proofs.reader.Reader.pour.Given as goal

abbrev pub invariant-loop-self : goal.invariant-loop-self
invariant-loop-self g l = record {
  inside : l.self.at ≤ l.fn.end;
  failures : g.S.Source.failures l.source ≡ g.S.Source.failures l.fn.source;
  telling : g.S.Source.tells l.fn.source → g.S.Source.tells l.source;
  passed : (passed : List ℕ)
      × (l.fn.self.at + length passed ≡ l.self.at)
      × (g.S.Source.tells l.fn.source → (seen l.fn.self (g.S.Source.rest l.fn.source)).rest
      ≡ passed ++ (seen l.self (g.S.Source.rest l.source)).rest)
      × ((m : List ℕ) → g.K.Taker.held l.fn.taker m → g.K.Taker.held l.taker (m ++ passed));
}

abbrev pub decreases-loop-self : goal.decreases-loop-self
decreases-loop-self g l = l.fn.end - l.self.at

use Rattle.std.proofs.Common.{◌≡◌, ◌≤◌, ◌+◌, ◌-◌, ◌++◌, length, take}
use Rattle.cms_stream.specs.Readers.{seen}
use Rattle.cms_stream.proofs.reader.Reader.keep.Given as goal

abbrev pub invariant-loop-done : goal.invariant-loop-done
invariant-loop-done g l = record {
  at : l.fn.self.at + l.done ≡ l.self.at;
  size : length l.room ≡ length l.fn.room;
  inside : l.done ≤ length l.room;
  failures : g.S.Source.failures l.source ≡ g.S.Source.failures l.fn.source;
  telling : g.S.Source.tells l.fn.source → g.S.Source.tells l.source;
  passed : g.S.Source.tells l.fn.source
      → (seen l.fn.self (g.S.Source.rest l.fn.source)).rest
      ≡ take l.done l.room ++ (seen l.self (g.S.Source.rest l.source)).rest;
}

abbrev pub decreases-loop-done : goal.decreases-loop-done
decreases-loop-done g l = length l.room - l.done

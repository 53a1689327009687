use Rattle.std.proofs.Common.{rules, ◌∙◌, ℕ, take, ap, arith}
use Rattle.der_core.specs.Reading.{Spot}
use Rattle.cms_stream.proofs.Pouring.{kept_further}
use Rattle.cms_stream.proofs.reader.Reader.keep.Goals as goal

pub loop-done-preserved : goal.loop-done-preserved
loop-done-preserved g c =
    let h = c.loop-done.invariant in
    let e = c.in_ok-count.ensures in
    let n : ℕ = c.in_ok-count.count in
    record {
      at = omega (arith, h.at, e.meets.at);
      size = search rules;
      inside = search rules;
      failures = e.meets.exact ∙ h.failures;
      telling = λ t. e.meets.telling (h.telling t);
      passed =
          λ t. kept_further n c.loop-done.done _ _ c.loop-done.room _ c.piece.new.self.window c.copy_from_slice.new.self
          c.pass.new.self _ (h.passed t)
          (ap (λ (s : Spot). s.rest) (e.meets.moved (h.telling t))) c.pass.ensures
          (c.copy_from_slice.ensures.after ∙ ap (take n) c.bytes.ensures.octets) e.some.1 h.inside;
    }

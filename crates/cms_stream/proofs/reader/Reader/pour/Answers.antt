use Rattle.std.proofs.Common.{◌∙◌, ◌++◌, ℕ, List, take, ap, sym, subst, append_assoc, arith}
use Rattle.der_core.specs.Reading.{Spot}
use Rattle.cms_stream.proofs.Pouring.{further, counted}
use Rattle.cms_stream.proofs.reader.Reader.pour.Goals as goal

pub loop-self-preserved : goal.loop-self-preserved
loop-self-preserved g c =
    let h = c.loop-self.invariant in
    let e = c.in_ok-count.ensures in
    let n : ℕ = c.in_ok-count.count in
    let piece : List ℕ = take n c.piece.new.self.window in
    record {
      inside = omega (arith, e.some.2, c.hand.ensures.at);
      failures = e.meets.exact ∙ h.failures;
      telling = λ t. e.meets.telling (h.telling t);
      passed = (
        h.passed.0 ++ piece,
        counted c.args.self.now.at n c.piece.new.self.at h.passed.0 c.piece.new.self.window c.hand.new.self.at
            (h.passed.1 ∙ sym e.meets.at) c.hand.ensures.at
            e.some.1,
        λ t. further n _ h.passed.0 _ c.piece.new.self.window c.hand.new.self.window _ (h.passed.2 t)
            (ap (λ (s : Spot). s.rest) (e.meets.moved (h.telling t)))
            c.hand.ensures.window,
        λ m held. subst (g.K.Taker.held c.hand.new.taker) (append_assoc m h.passed.0 piece)
            (c.hand.ensures.taken (m ++ h.passed.0) (h.passed.3 m held)),
      );
    }

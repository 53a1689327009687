use Rattle.std.proofs.Common.{◌≡◌, ◌<◌, ◌+◌, ◌-◌, ◌/◌, ℕ, List, true, false, get_or, [], length, sym, ap}
use Rattle.std.proofs.Common.{◌∙◌, arith}
use Rattle.der_core.specs.Lists.{is_less, is_same}
use Rattle.der_core.proofs.Encoded.{same}
use Rattle.check_evidence.proofs.Searching.{before_more, after_more, never_there, found_if}
use Rattle.check_evidence.proofs.search.find.Goals as goal

pub loop-low-preserved-then-is_less : goal.loop-low-preserved-then-is_less
loop-low-preserved-then-is_less c =
    let h = c.loop-low.invariant in
    let values = c.args.values.now in
    let middle = c.loop-low.low + (c.loop-low.high - c.loop-low.low) / 2 in
    let within : middle < length values = omega arith in
    let less : is_less (get_or values middle []) c.args.wanted.now ≡ true =
    ap (λ (v : List ℕ). is_less v c.args.wanted.now) (sym c.value_at.ensures) ∙ sym c.if-is_less.ensures in
    record {
      ends = omega arith;
      within = h.within;
      before = before_more values c.args.wanted.now c.requires.ascending middle within less;
      after = h.after;
    }

pub loop-low-preserved : goal.loop-low-preserved
loop-low-preserved c =
    let h = c.loop-low.invariant in
    let values = c.args.values.now in
    let middle = c.loop-low.low + (c.loop-low.high - c.loop-low.low) / 2 in
    let less : is_less (get_or values middle []) c.args.wanted.now ≡ false =
    ap (λ (v : List ℕ). is_less v c.args.wanted.now) (sym c.value_at.ensures) ∙ sym c.if-is_less.ensures in
    record {
      ends = omega arith;
      within = omega arith;
      before = h.before;
      after = after_more values c.args.wanted.now c.requires.ascending middle less;
    }

pub returns-then-low-count-clause-found : goal.returns-then-low-count-clause-found
returns-then-low-count-clause-found c =
    let h = c.loop-low.invariant in
    sym (never_there c.args.values.now c.args.wanted.now c.requires.ascending c.loop-low.low h.before
    (λ k from lt. h.after k (omega (arith, from)) lt)
    (λ lt is. absurd (omega (arith, lt, c.if-low-count.true, c.len-count.ensures))))

pub returns-then-is_same : goal.returns-then-is_same
returns-then-is_same c =
    let h = c.loop-low.invariant in
    let values = c.args.values.now in
    let below : c.loop-low.low < length values = omega arith in
    let is : true ≡ is_same (get_or values c.loop-low.low []) c.args.wanted.now =
    c.if-is_same.ensures ∙ ap (λ (v : List ℕ). is_same v c.args.wanted.now) c.value_at-2.ensures in
    record {
      place = (below, same (get_or values c.loop-low.low []) c.args.wanted.now (sym is));
      found = found_if values c.args.wanted.now c.requires.ascending c.loop-low.low below h.before
          (λ k from lt. h.after k (omega (arith, from)) lt) true is;
    }

pub returns-else-is_same-clause-found : goal.returns-else-is_same-clause-found
returns-else-is_same-clause-found c =
    let h = c.loop-low.invariant in
    let values = c.args.values.now in
    let below : c.loop-low.low < length values = omega arith in
    found_if values c.args.wanted.now c.requires.ascending c.loop-low.low below h.before
    (λ k from lt. h.after k (omega (arith, from)) lt) false
    (c.if-is_same.ensures ∙ ap (λ (v : List ℕ). is_same v c.args.wanted.now) c.value_at-2.ensures)

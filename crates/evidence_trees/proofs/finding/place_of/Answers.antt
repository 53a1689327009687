use Rattle.std.proofs.Common.{◌≡◌, ◌<◌, ◌+◌, ◌-◌, ◌/◌, ℕ, List, true, false, get_or, [], true≢false, sym, ap, ◌∙◌}
use Rattle.std.proofs.Common.{arith}
use Rattle.std.proofs.lemmas.List.{get_or-take}
use Rattle.der_core.specs.Lists.{is_less}
use Rattle.der_core.proofs.Encoded.{same}
use Rattle.der_core.proofs.SameOctets.{is_then_same}
use Rattle.evidence_trees.proofs.Rising.{before_more, after_more, not_there}
use Rattle.evidence_trees.proofs.finding.place_of.Goals as goal

pub loop-low-preserved-then-is_less : goal.loop-low-preserved-then-is_less
loop-low-preserved-then-is_less c =
    let h = c.loop-low.invariant in
    let values = c.args.values.now.values in
    let middle = c.loop-low.low + (c.loop-low.high - c.loop-low.low) / 2 in
    let within : middle < c.args.count = omega arith in
    let less : is_less (get_or values middle []) c.args.wanted.now ≡ true =
    ap (λ (v : List ℕ). is_less v c.args.wanted.now) (sym c.get.ensures.value) ∙ sym c.if-is_less.ensures in
    record {
      ends = omega arith;
      within = h.within;
      before = before_more values c.args.count middle c.args.wanted.now c.requires.rising c.requires.within within less;
      after = h.after;
    }

pub loop-low-preserved : goal.loop-low-preserved
loop-low-preserved c =
    let h = c.loop-low.invariant in
    let values = c.args.values.now.values in
    let middle = c.loop-low.low + (c.loop-low.high - c.loop-low.low) / 2 in
    let less : is_less (get_or values middle []) c.args.wanted.now ≡ false =
    ap (λ (v : List ℕ). is_less v c.args.wanted.now) (sym c.get.ensures.value) ∙ sym c.if-is_less.ensures in
    record {
      ends = omega arith;
      within = omega arith;
      before = h.before;
      after = after_more values c.args.count middle c.args.wanted.now c.requires.rising c.requires.within less;
    }

pub returns-then-low-count-clause-none : goal.returns-then-low-count-clause-none
returns-then-low-count-clause-none c =
    let h = c.loop-low.invariant in
    not_there c.args.values.now.values c.args.count c.loop-low.low c.args.wanted.now c.requires.rising c.requires.within
    h.before (λ lt. absurd (omega (arith, lt, c.if-low-count.true)))

pub returns-then-is_same-clause-found : goal.returns-then-is_same-clause-found
returns-then-is_same-clause-found c =
    let below : c.loop-low.low < c.args.count = omega arith in
    get_or-take c.args.count c.args.values.now.values c.loop-low.low [] below
    ∙ sym c.get-else-low-count.ensures.value
    ∙ same c.get-else-low-count.result.now c.args.wanted.now (sym c.if-is_same.ensures)

pub returns-else-is_same-clause-none : goal.returns-else-is_same-clause-none
returns-else-is_same-clause-none c =
    let h = c.loop-low.invariant in
    not_there c.args.values.now.values c.args.count c.loop-low.low c.args.wanted.now c.requires.rising c.requires.within
    h.before (λ lt. (
      h.after c.loop-low.low (omega arith) lt,
      λ e. true≢false (sym (is_then_same c.get-else-low-count.result.now c.args.wanted.now
          (c.get-else-low-count.ensures.value ∙ e)) ∙ sym c.if-is_same.ensures),
    ))

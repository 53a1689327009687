use Rattle.std.proofs.Common.{◌≤◌, ◌-◌, ◌/◌, ◌++◌, ℕ, List, Option, length, sym, ap, ◌∙◌, arith}
use Rattle.std.specs.Option.{option_to_list}
use Rattle.evidence_trees.specs.Climbing.{neighbours_from}
use Rattle.evidence_trees.proofs.Climbs.{neighbours_step, levels_step}
use Rattle.evidence_trees.proofs.leaf_lists.next_beside.Goals as goal

pub returns-in-Some-clause-next : goal.returns-in-Some-clause-next
returns-in-Some-clause-next c =
    let at = c.loop-at.at in
    let nodes = c.args.nodes.now.values in
    let h = c.loop-at.invariant in
    sym h.same ∙ neighbours_step at.above at.place at.count at.left nodes c.loop-at-test.true h.left h.levels
    ∙ ap (λ (o : Option (List ℕ)). option_to_list o
    ++ neighbours_from (at.above - 1) (at.place / 2) (at.count - at.count / 2) (at.left - at.count) nodes)
    (sym c.in-Some.ensures)

pub returns-in-Some-clause-levels : goal.returns-in-Some-clause-levels
returns-in-Some-clause-levels c =
    let at = c.loop-at.at in
    levels_step at.above at.place at.count at.left c.loop-at-test.true c.loop-at.invariant.levels

pub loop-at-preserved : goal.loop-at-preserved
loop-at-preserved c =
    let at = c.loop-at.at in
    let nodes = c.args.nodes.now.values in
    let h = c.loop-at.invariant in
    let left : at.left ≤ length nodes = h.left in
    record {
      left = omega arith;
      levels = levels_step at.above at.place at.count at.left c.loop-at-test.true h.levels;
      same = ap (λ (o : Option (List ℕ)). option_to_list o
          ++ neighbours_from (at.above - 1) (at.place / 2) (at.count - at.count / 2) (at.left - at.count) nodes)
          c.in_default.ensures
          ∙ sym (neighbours_step at.above at.place at.count at.left nodes c.loop-at-test.true h.left h.levels)
          ∙ h.same;
    }

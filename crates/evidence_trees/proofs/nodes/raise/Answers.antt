use Rattle.std.proofs.Common.{◌≡◌, ◌≤◌, ◌<◌, ◌+◌, ◌-◌, ◌/◌, ◌++◌, ℕ, suc, List, length, drop, sym, ap, ◌∙◌, arith}
use Rattle.std.proofs.Common.{add-one}
use Rattle.std.proofs.Common.{length-append, length-drop}
use Rattle.std.proofs.lemmas.List.{drop_at}
use Rattle.evidence_trees.specs.HashTrees.{level_above, level_at}
use Rattle.evidence_trees.specs.Climbing.{levels}
use Rattle.evidence_trees.proofs.Levels.{length-above, level_more, levels_more}
use Rattle.evidence_trees.proofs.nodes.raise.Goals as goal
use Rattle.evidence_trees.proofs.nodes.raise.Goals.{In_ok-push_level}

pub loop-start-smaller : goal.loop-start-smaller
loop-start-smaller c =
    let old = c.loop-start.nodes.values in
    let last = drop c.loop-start.start old in
    let above = level_above c.args.alg last in
    let long : length above ≡ length last - length last / 2 = length-above c.args.alg last in
    let all : length c.push_level.new.nodes.values ≡ length old + length above =
    ap length c.in_ok-push_level.ensures.level ∙ length-append old above in
    let left : length last ≡ length old - c.loop-start.start = length-drop c.loop-start.start old in
    let next : c.len-next.result ≡ length old = c.len-next.ensures in
    let more : 1 < c.len.result - c.loop-start.start = c.loop-start-test.true in
    let is : c.len.result ≡ length old = c.len.ensures in
    omega arith

pub loop-start-preserved : goal.loop-start-preserved
loop-start-preserved c =
    let alg = c.args.alg in
    let leaves = c.args.nodes.now.values in
    let old = c.loop-start.nodes.values in
    let height = c.loop-start.height in
    let last = drop c.loop-start.start old in
    let above = level_above alg last in
    let h = c.loop-start.invariant in
    let long : length above ≡ length last - length last / 2 = length-above alg last in
    let added : c.push_level.new.nodes.values ≡ old ++ above = c.in_ok-push_level.ensures.level in
    let all : length c.push_level.new.nodes.values ≡ length old + length above =
    ap length added ∙ length-append old above in
    let left : length last ≡ length old - c.loop-start.start = length-drop c.loop-start.start old in
    let next : c.len-next.result ≡ length old = c.len-next.ensures in
    let some : c.loop-start.start < length old = h.some in
    let few : height ≤ c.loop-start.start = h.few in
    let top : above ≡ level_at alg (height + 1) leaves = ap (level_above alg) h.last
    ∙ (sym (level_more alg height leaves) ∙ ap (λ (n : ℕ). level_at alg n leaves) (sym (add-one height))) in
    record {
      size = c.in_ok-push_level.ensures.size ∙ h.size;
      levels =
          added ∙ ap (λ (vs : List (List ℕ)). old ++ vs) (top ∙ ap (λ (n : ℕ). level_at alg n leaves) (add-one height))
          ∙ ap (λ (vs : List (List ℕ)). vs ++ level_at alg (suc height) leaves) h.levels
          ∙ sym (levels_more alg height leaves)
          ∙ ap (λ (n : ℕ). levels alg n leaves) (sym (add-one height));
      last = ap (λ (vs : List (List ℕ)). drop c.len-next.result vs) added
          ∙ drop_at old above c.len-next.result (sym next) ∙ top;
      some = omega arith;
      few = omega arith;
    }

use Rattle.std.proofs.Common.{◌≡◌, ℕ, ◌+◌, ◌*◌, refl, ap, ◌∙◌, arith}
use Rattle.sha2.specs.Sha512.{add_state, compress, rounds, schedule}
use Rattle.sha2_blocks.proofs.Sums.{fewer_long}
use Rattle.sha2_blocks.proofs.long_rounds.take_sums.Goals as goal

pub turns-init : goal.turns-init
unfolding rounds
turns-init c = λ ws sums. refl

pub turns-preserved : goal.turns-preserved
turns-preserved c = λ ws sums.
    let h = c.args.hash.now in
    let t : ℕ = 8 * c.turns.turn in
    let v0 = c.four_rounds-v.ensures h ws (fewer_long _ ws _ (t + 4) (omega arith) sums) (c.turns.invariant ws sums) in
    let v1 = c.four_rounds-v-in-turns.ensures h ws (fewer_long _ ws _ (t + 4 + 4) (omega arith) sums) v0 in
    v1 ∙ ap (rounds h ws) (omega arith)

pub returns : goal.returns
unfolding compress
returns c = λ b sums.
    let h = c.args.hash.now in
    let ws = schedule b 64 in
    let done : 8 * c.turns.turn ≡ 80 = omega (arith, c.turns.auto.turn-end) in
    c.add_variables.ensures ∙ ap (add_state h) (c.turns.invariant ws sums ∙ ap (rounds h ws) done)

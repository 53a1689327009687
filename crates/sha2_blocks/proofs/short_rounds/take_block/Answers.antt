use Rattle.std.proofs.Common.{◌≡◌, ℕ, ◌+◌, ◌*◌, refl, ap, ◌∙◌, arith}
use Rattle.sha2.specs.Sha256.{add_state, compress, rounds, schedule}
use Rattle.sha2_blocks.proofs.ShortSchedules.{sixteen_at, sixteen_more}
use Rattle.sha2_blocks.proofs.Sums.{fewer_short}
use Rattle.sha2_blocks.proofs.short_rounds.take_block.Goals as goal

pub turns-init : goal.turns-init
unfolding rounds
turns-init c = record {
  words = c.sixteen_first-w.ensures;
  sums = c.put_sixteen.ensures _ c.sixteen_first-w.ensures;
  rounds = refl;
}

pub turns-preserved : goal.turns-preserved
turns-preserved c =
    let b = c.args.block.now in
    let h = c.args.hash.now in
    let ws = schedule b 48 in
    let t : ℕ = 16 * c.turns.turn in
    let next : ℕ = 16 * (c.turns.turn + 1) in
    let i = c.turns.invariant in
    let more = sixteen_more _ _ _ _ _ b t c.four_more-w.ensures c.four_more-w-in-turns.ensures
    c.four_more-w-in-turns-2.ensures c.four_more-w-in-turns-3.ensures i.words i.sums in
    let v1 = c.four_rounds-v.ensures h ws (fewer_short _ ws _ (t + 4) (omega arith) more.first) i.rounds in
    let v2 = c.four_rounds-v-in-turns.ensures h ws (fewer_short _ ws _ (t + 4 + 4) (omega arith) more.second) v1 in
    let v3 = c.four_rounds-v-in-turns-2.ensures h ws (fewer_short _ ws _ (t + 8 + 4) (omega arith) more.third)
    (v2 ∙ ap (rounds h ws) (omega arith)) in
    let v4 = c.four_rounds-v-in-turns-3.ensures h ws (fewer_short _ ws _ (t + 12 + 4) (omega arith) more.fourth)
    (v3 ∙ ap (rounds h ws) (omega arith)) in
    record {
      words = sixteen_at _ ws _ next (omega arith) more.words;
      sums = fewer_short _ ws _ (next + 16) (omega arith) more.fourth;
      rounds = v4 ∙ ap (rounds h ws) (omega arith);
    }

pub returns : goal.returns
unfolding compress
returns c =
    let h = c.args.hash.now in
    let ws = schedule c.args.block.now 48 in
    let i = c.turns.invariant in
    let done : 16 * c.turns.turn ≡ 48 = omega (arith, c.turns.auto.turn-end) in
    let v0 = i.rounds ∙ ap (rounds h ws) done in
    let v1 = c.four_rounds-v-2.ensures h ws (fewer_short _ ws _ 52 (omega arith) i.sums) v0 in
    let v2 = c.four_rounds-v-3.ensures h ws (fewer_short _ ws _ 56 (omega arith) i.sums) v1 in
    let v3 = c.four_rounds-v-4.ensures h ws (fewer_short _ ws _ 60 (omega arith) i.sums) v2 in
    let v4 = c.four_rounds-v-5.ensures h ws (fewer_short _ ws _ 64 (omega arith) i.sums) v3 in
    c.add_variables.ensures ∙ ap (add_state h) v4

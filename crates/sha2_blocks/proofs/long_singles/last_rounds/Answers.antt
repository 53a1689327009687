use Rattle.sha2.specs.Sha512.{schedule}
use Rattle.sha2_blocks.proofs.long_singles.last_rounds.Goals as goal

pub returns : goal.returns
returns c = λ h b came.
    let ws = schedule b 64 in
    let w = came.words in
    let v1 = c.two_rounds-v.ensures h ws w.first came.variables in
    let v2 = c.two_rounds-v-2.ensures h ws w.second v1 in
    let v3 = c.two_rounds-v-3.ensures h ws w.third v2 in
    let v4 = c.two_rounds-v-4.ensures h ws w.fourth v3 in
    let v5 = c.two_rounds-v-5.ensures h ws w.fifth v4 in
    let v6 = c.two_rounds-v-6.ensures h ws w.sixth v5 in
    let v7 = c.two_rounds-v-7.ensures h ws w.seventh v6 in
    c.two_rounds.ensures h ws w.eighth v7

use Rattle.std.proofs.Common.{◌≡◌, ◌∙◌, ℕ, List, sym, ap}
use Rattle.trust_lists.specs.Marks.{next_mark, first_word, mark_of}
use Rattle.trust_lists.proofs.Marking.{one_word, no_word}
use Rattle.trust_lists.proofs.marks.mark_of.Goals as goal

pub loop-left-preserved : goal.loop-left-preserved
loop-left-preserved c =
    let marked : c.next_mark-mark.result ≡ next_mark c.loop-left.mark (first_word c.loop-left.left.now) =
    c.next_mark-mark.ensures
    ∙ ap (λ (w : ℕ). next_mark c.loop-left.mark w) c.first_word.ensures in
    ap (λ (m : ℕ). mark_of m c.after_word-left.result.now) marked
    ∙ ap (λ (xs : List ℕ). mark_of (next_mark c.loop-left.mark (first_word c.loop-left.left.now)) xs)
    c.after_word-left.ensures
    ∙ sym (one_word c.loop-left.mark c.loop-left.left.now c.loop-left-test.true) ∙ c.loop-left.invariant

pub returns : goal.returns
returns c = c.mark_of_each.ensures ∙ sym (no_word c.loop-left.mark c.loop-left.left.now c.loop-left-test.false)
    ∙ c.loop-left.invariant

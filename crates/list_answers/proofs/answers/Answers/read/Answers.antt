use Rattle.std.proofs.Common.{◌≡◌, rules}
use Rattle.std.specs.Ordering.{is_lt}
use Rattle.std.proofs.lemmas.List.Sorted.{answers_always, ranks_by}
use Rattle.list_answers.specs.Asking.{Asked}
use Rattle.list_answers.specs.AnswerSteps.{asked_cmp}
use Rattle.list_answers.proofs.Ranks.{asked_total, among_permuted}
use Rattle.list_answers.proofs.answers.Answers.read.Goals as goal

pub invariant_of-result : goal.invariant_of-result
invariant_of-result c =
    c.in_ok-sort_by.ensures.sorted (λ a b. is_lt (asked_cmp a b)) (ranks_by asked_total (λ (q : Asked). q))
    (answers_always _ (λ a r. is_lt r ≡ is_lt (asked_cmp a.0.now a.1.0.now)) _ (λ f a r f' k. search rules))

pub returns-clause-found : goal.returns-clause-found
returns-clause-found c = (
  c.in_ok-asked.asked.items,
  c.in_ok-asked.ensures.found,
  λ q. among_permuted c.in_ok-asked.asked.items c.sort_by.new.self.items q c.sort_by.ensures.permutation,
)

use Rattle.std.proofs.Common.{◌≡◌, List, length, subst, ◌∙◌, rules}
use Rattle.std.specs.List.Sorted.{IsSearchInRange, IsBinarySearchResult}
use Rattle.std.proofs.lemmas.Fn.{always_returns_same}
use Rattle.list_answers.specs.Asking.{Asked, is_among}
use Rattle.list_answers.specs.AnswerSteps.{asked_cmp}
use Rattle.list_answers.proofs.Ranks.{searched}
use Rattle.list_answers.proofs.answers.AnswersVerifier.ask.Goals as goal

pub returns-clause-answer : goal.returns-clause-answer
returns-clause-answer c =
    let q = c.args.question.now in
    let found = c.binary_search_by-found in
    let at : IsBinarySearchResult (λ (y : Asked). asked_cmp y q) c.as_slice.result.now found.result =
    found.ensures.position (λ y. asked_cmp y q)
    (always_returns_same _ (λ a r. r ≡ asked_cmp a.0.now q) _ (λ a r f' k. (search rules, search rules))) in
    let within : IsSearchInRange found.result (length c.as_slice.result.now) = found.ensures.bound in
    let items : c.as_slice.result.now ≡ c.self.inside.asked.items = c.as_slice.ensures.value in
    c.is_ok.ensures.value
    ∙ searched c.self.inside.asked.items q found.result c.self.invariant
    (subst (λ (l : List Asked). IsSearchInRange found.result (length l)) items within)
    (subst (λ (l : List Asked). IsBinarySearchResult (λ (y : Asked). asked_cmp y q) l found.result) items at)
    ∙ (let same : is_among c.self.inside.asked.items q ≡ is_among c.args.self.now q = subst
    (λ (l : List Asked). is_among c.self.inside.asked.items q ≡ is_among l q) c.self.view_is
    (λ i. is_among c.self.inside.asked.items q) in same)

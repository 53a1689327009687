use Rattle.std.proofs.Common.{◌≡◌, ℕ, List, rules, subst}
use Rattle.std.specs.Ordering.{is_lt, nat_cmp}
use Rattle.std.specs.Cmp.Lexicographic.{slice_cmp}
use Rattle.std.specs.List.Sorted.{IsPermutation}
use Rattle.std.proofs.lemmas.Cmp.{nat_list_cmp_total}
use Rattle.std.proofs.lemmas.List.Sorted.{answers_always, ranks_by}
use Rattle.check_evidence.proofs.Sorted.{ascending_sorted}
use Rattle.check_evidence.proofs.sorting.sort.Goals as goal

pub returns : goal.returns
returns c = record {
  are = subst (λ (vs : List (List ℕ)). IsPermutation vs c.sort_unstable_by.new.self.items) c.in_ok-fill.ensures
      c.sort_unstable_by.ensures.permutation;
  ascending = ascending_sorted _ (c.sort_unstable_by.ensures.sorted (λ a b. is_lt (slice_cmp nat_cmp a b))
      (ranks_by nat_list_cmp_total (λ (v : List ℕ). v))
      (answers_always _ (λ a r. is_lt r ≡ is_lt (slice_cmp nat_cmp a.0.now a.1.0.now)) _ (λ f a r f' k. search rules)));
}

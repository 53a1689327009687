use Rattle.std.proofs.Common.{◌≡◌, List, map, subst, rules, IsPermutation}
use Rattle.std.specs.Ordering.{is_lt}
use Rattle.std.proofs.lemmas.Cmp.{nat_list_cmp_total}
use Rattle.std.proofs.lemmas.List.Sorted.{answers_always, ranks_by, IsPermutation-map}
use Rattle.digests.specs.Digests.{octets_of}
use Rattle.digests.specs.declared.value.Digest.{Digest}
use Rattle.evidence_trees.proofs.Orders.{octets_cmp}
use Rattle.evidence_trees.proofs.Once.{ascending_from_sort}
use Rattle.evidence_trees.proofs.leaves.in_order.Goals as goal

pub returns-clause-permutation : goal.returns-clause-permutation
returns-clause-permutation c =
    subst (λ (ds : List Digest). IsPermutation ds (map (λ d. d.now) c.sort_unstable_by.new.self.items))
    c.in_ok-sorted.ensures
    (IsPermutation-map (λ d. d.now) c.in_ok-sorted.sorted.items c.sort_unstable_by.new.self.items
    c.sort_unstable_by.ensures.permutation)

pub returns-clause-ascending : goal.returns-clause-ascending
returns-clause-ascending c = ascending_from_sort (λ d. octets_of d.now) c.sort_unstable_by.new.self.items
    (c.sort_unstable_by.ensures.sorted (λ a b. is_lt (octets_cmp (octets_of a.now) (octets_of b.now)))
    (ranks_by nat_list_cmp_total (λ d. octets_of d.now))
    (answers_always _ (λ a r. is_lt r ≡ is_lt (octets_cmp (octets_of a.0.now.now) (octets_of a.1.0.now.now))) _
    (λ f a r f' k. search rules)))

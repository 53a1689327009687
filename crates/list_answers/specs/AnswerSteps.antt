-- How the questions of an answers list are kept in order.
use Rattle.std.specs.Prelude.{List}
use Rattle.std.specs.declared.cmp.Ordering.{Ordering}
use Rattle.std.specs.Ordering.{nat_cmp, ordering_then, is_lt}
use Rattle.std.specs.Cmp.Lexicographic.{slice_cmp}
use Rattle.std.specs.List.Sorted.{IsSortedBy}
use Rattle.list_answers.specs.Asking.{Asked}

-- in byte order by the first part in which they differ: the tail, the key, the two algorithms
abbrev pub under_signature_cmp : Asked → Asked → Ordering
under_signature_cmp a b = ordering_then (slice_cmp nat_cmp a.tail b.tail)
    (ordering_then (slice_cmp nat_cmp a.key b.key) (ordering_then (slice_cmp nat_cmp a.digest_alg b.digest_alg)
    (slice_cmp nat_cmp a.signature_alg b.signature_alg)))

-- in byte order by the signature, and then by the other parts
abbrev pub asked_cmp : Asked → Asked → Ordering
asked_cmp a b = ordering_then (slice_cmp nat_cmp a.signature b.signature) (under_signature_cmp a b)

-- none is less than the one before it
abbrev pub AreInOrder : List Asked → Type 0
AreInOrder asked = IsSortedBy (λ a b. is_lt (asked_cmp a b)) asked

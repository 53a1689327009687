-- What is sorted stands in ascending order.
use Rattle.std.proofs.Common.{◌≡◌, ℕ, ◌+◌, ◌<◌, List, [], ◌∷◌, ◌++◌, length, get_or, take, refl, sym, ap, ◌∙◌, arith}
use Rattle.std.proofs.Common.{append-nil, append_assoc}
use Rattle.std.proofs.lemmas.List.{take_more}
use Rattle.std.proofs.lemmas.List.Folds.{concat-append}
use native.Mathlib.Numerals.{unary_clauses}
use Rattle.std.proofs.lemmas.Bool.Decides.{nat_tests}
use Rattle.std.proofs.lemmas.Cmp.{same_from_slice_cmp}
use Rattle.std.specs.Ordering.{nat_cmp, is_lt}
use Rattle.std.specs.Cmp.Lexicographic.{slice_cmp}
use Rattle.std.specs.List.{concat}
use Rattle.std.specs.List.Sorted.{IsSortedBy}
use Rattle.std.proofs.lemmas.List.Sorted.{IsPermutation-cons, IsPermutation-trans}
use Rattle.der_core.specs.Lists.{is_less}
use Rattle.digests.specs.Messages.{digest_of}
use Rattle.digests.specs.declared.algorithm.Alg.{Alg}
use Rattle.check_evidence.specs.Roots.{IsAscending, InOrder, IsGroupOf}
use Rattle.check_evidence.specs.Joining.{put_in}
use Rattle.check_evidence.proofs.Joining.{put_in_order}

-- byte order is the order of slices
pub less_is : (xs ys : List ℕ) → is_lt (slice_cmp nat_cmp xs ys) ≡ is_less xs ys
less_is xs ys = same_from_slice_cmp nat_cmp is_lt is_less refl (λ _ _. refl) (λ _ _. refl)
    (λ x y xs ys o h. grind (arith, nat_tests)) xs ys (slice_cmp nat_cmp xs ys) refl

pub ascending_sorted : (values : List (List ℕ)) → IsSortedBy (λ a b. is_lt (slice_cmp nat_cmp a b)) values
    → IsAscending values
ascending_sorted [] h = tt
ascending_sorted (v ∷ []) h = tt
ascending_sorted (v ∷ w ∷ values) h = (
  sym (less_is w v) ∙ h 0 v (omega arith) (omega arith),
  ascending_sorted (w ∷ values)
      (λ k d lo hi. simp unary_clauses (simp unary_clauses at (h (k + 1) d (omega arith) (omega arith)))),
)

-- the hash value of values that were sorted is that of their group
pub group_sorted : (alg : Alg) (values ordered : List (List ℕ)) (octets : List ℕ) → InOrder values ordered
    → octets ≡ digest_of alg (concat ordered) → IsGroupOf alg values octets
group_sorted alg values ordered octets h is = record { ordered = ordered; in_order = h; hashed = is }

-- and with a node put in that of the group with the node
pub group_sorted_with : (alg : Alg) (node : List ℕ) (values ordered : List (List ℕ)) (octets : List ℕ)
    → InOrder values ordered → octets ≡ digest_of alg (concat (put_in node ordered))
    → IsGroupOf alg (node ∷ values) octets
group_sorted_with alg node values ordered octets h is = record {
  ordered = put_in node ordered;
  in_order = record {
    are = IsPermutation-trans (node ∷ values) (node ∷ ordered) (put_in node ordered)
        (IsPermutation-cons node values ordered h.are) (put_in_order node ordered h.ascending).are;
    ascending = (put_in_order node ordered h.ascending).ascending;
  };
  hashed = is;
}

-- ---- octets

-- one more value
pub concat_more : (values : List (List ℕ)) (i : ℕ) (v octets : List ℕ) → i < length values → v ≡ get_or values i v
    → octets ≡ v → concat (take i values) ++ octets ≡ concat (take (i + 1) values)
concat_more values i v octets lt is e =
    ap (λ (x : List ℕ). concat (take i values) ++ x) (e ∙ is ∙ sym (append-nil (get_or values i v)))
    ∙ sym (concat-append (take i values) (get_or values i v ∷ []))
    ∙ sym (ap concat (take_more values i v lt))

-- values, the node and further values are all of them
pub concat_put_in : (node : List ℕ) (before after all : List (List ℕ)) → all ≡ before ++ node ∷ after
    → concat all ≡ (concat before ++ node) ++ concat after
concat_put_in node before after all e =
    ap concat e ∙ concat-append before (node ∷ after) ∙ sym (append_assoc (concat before) node (concat after))

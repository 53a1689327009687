-- Questions in byte order, and the search among them.
use Rattle.std.proofs.Common.{◌≡◌, ℕ, ◌<◌, Bool, true, false, List, [], ◌∷◌, length, get_or, Result, Ok, Err, is_ok}
use Rattle.std.proofs.Common.{refl, sym, subst, ◌∙◌, arith, inl, inr}
use Rattle.std.proofs.Common.{◌&&◌, rules}
use Rattle.std.specs.Prelude.{◌==◌}
use Rattle.std.specs.declared.cmp.Ordering.{Ordering}
use Rattle.std.specs.declared.cmp.Ordering.TheVariants.{Less, Equal, Greater}
use Rattle.std.specs.Ordering.{nat_cmp, ordering_then}
use Rattle.std.specs.Cmp.{IsTotalOrder}
use Rattle.std.specs.Cmp.Lexicographic.{slice_cmp}
use Rattle.std.specs.FinMap.{slice_cmp-IsAntisymmetric, nat_cmp-IsAntisymmetric}
use Rattle.std.specs.List.Sorted.{IsPermutation, IsSearchInRange, IsBinarySearchResult}
use Rattle.std.proofs.lemmas.Bool.{cases_lt, and_parts, and_from}
use Rattle.std.proofs.lemmas.Cmp.{on_total, then_total, nat_list_cmp_total, tied_itself}
use Rattle.std.proofs.lemmas.List.Sorted.{list_any-IsPermutation, searchable_from_sorted}
use Rattle.std.proofs.lemmas.List.Folds.{list_any_at, list_any_none}
use Rattle.der_core.specs.Lists.{is_same}
use Rattle.der_core.proofs.Encoded.{same}
use Rattle.list_answers.specs.Asking.{Asked, is_same_question, is_among}
use Rattle.list_answers.specs.AnswerSteps.{asked_cmp, AreInOrder}

pub asked_total : IsTotalOrder asked_cmp
asked_total = then_total (on_total (λ (q : Asked). q.signature) nat_list_cmp_total)
    (then_total (on_total (λ (q : Asked). q.tail) nat_list_cmp_total)
    (then_total (on_total (λ (q : Asked). q.key) nat_list_cmp_total)
    (then_total (on_total (λ (q : Asked). q.digest_alg) nat_list_cmp_total)
    (on_total (λ (q : Asked). q.signature_alg) nat_list_cmp_total))))

both_equal : (r s : Ordering) → ordering_then r s ≡ Equal → (r ≡ Equal) × (s ≡ Equal)
both_equal Less s e = absurd cc
both_equal Equal s e = (refl, e)
both_equal Greater s e = absurd cc

equal_lists : (xs ys : List ℕ) → slice_cmp nat_cmp xs ys ≡ Equal → xs ≡ ys
equal_lists xs ys e = slice_cmp-IsAntisymmetric nat_cmp-IsAntisymmetric xs ys e

of_parts : (a b : Asked) → a.key ≡ b.key → a.digest_alg ≡ b.digest_alg → a.signature_alg ≡ b.signature_alg
    → a.tail ≡ b.tail → a.signature ≡ b.signature → a ≡ b
of_parts a b key digest_alg signature_alg tail signature = λ i. record {
  key = key i;
  digest_alg = digest_alg i;
  signature_alg = signature_alg i;
  tail = tail i;
  signature = signature i;
}

-- only the same questions are equal in the order
equal_questions : (a b : Asked) → asked_cmp a b ≡ Equal → a ≡ b
equal_questions a b e =
    let k = both_equal _ _ e in
    let t = both_equal _ _ k.1 in
    let y = both_equal _ _ t.1 in
    let d = both_equal _ _ y.1 in
    of_parts a b (equal_lists a.key b.key y.0) (equal_lists a.digest_alg b.digest_alg d.0)
    (equal_lists a.signature_alg b.signature_alg d.1) (equal_lists a.tail b.tail t.0)
    (equal_lists a.signature b.signature k.0)

itself : (xs : List ℕ) → is_same xs xs ≡ true
itself [] = refl
itself (x ∷ xs) = let h : (x == x) ≡ true = search rules in and_from (x == x) (is_same xs xs) h (itself xs)

question_itself : (q : Asked) → is_same_question q q ≡ true
question_itself q =
    rw (itself q.key, itself q.digest_alg, itself q.signature_alg, itself q.tail, itself q.signature) refl

same_questions : (a b : Asked) → is_same_question a b ≡ true → a ≡ b
same_questions a b e =
    let s = and_parts (is_same a.key b.key && is_same a.digest_alg b.digest_alg
    && is_same a.signature_alg b.signature_alg && is_same a.tail b.tail)
    (is_same a.signature b.signature) e in
    let t = and_parts (is_same a.key b.key && is_same a.digest_alg b.digest_alg
    && is_same a.signature_alg b.signature_alg) (is_same a.tail b.tail) s.0 in
    let g = and_parts (is_same a.key b.key && is_same a.digest_alg b.digest_alg)
    (is_same a.signature_alg b.signature_alg) t.0 in
    let d = and_parts (is_same a.key b.key) (is_same a.digest_alg b.digest_alg) g.0 in
    of_parts a b (same a.key b.key d.0) (same a.digest_alg b.digest_alg d.1)
    (same a.signature_alg b.signature_alg g.1) (same a.tail b.tail t.1) (same a.signature b.signature s.1)

differs : (b : Bool) → (b ≡ true → ⊥) → b ≡ false
differs true h = absurd (h refl)
differs false h = refl

-- questions in another order are the same ones
pub among_permuted : (xs ys : List Asked) (q : Asked) → IsPermutation xs ys → is_among ys q ≡ is_among xs q
among_permuted xs ys q p = sym (list_any-IsPermutation (is_same_question q) xs ys p)

-- what a search in the order finds is there, and else it is nowhere
pub searched : (xs : List Asked) (q : Asked) (r : Result ℕ ℕ) → AreInOrder xs → IsSearchInRange r (length xs)
    → IsBinarySearchResult (λ y. asked_cmp y q) xs r → is_ok r ≡ is_among xs q
searched xs q (Ok i) sorted within h =
    let e : get_or xs i q ≡ q = equal_questions (get_or xs i q) q (h q) in
    sym (list_any_at (is_same_question q) xs i q within
    (subst (λ (a : Asked). is_same_question q a ≡ true) (sym e) (question_itself q)))
searched xs q (Err i) sorted within h =
    let p = h (searchable_from_sorted asked_total (λ (x : Asked). x) xs q sorted) in
    let apart : (k : ℕ) (d : Asked) → k < length xs → is_same_question q (get_or xs k d) ≡ false =
    λ k d l. differs (is_same_question q (get_or xs k d)) (λ s.
    let e : asked_cmp (get_or xs k d) q ≡ Equal =
    subst (λ (a : Asked). asked_cmp a q ≡ Equal) (same_questions q (get_or xs k d) s)
    (tied_itself asked_total q) in
    elim (cases_lt k i) [
      | inl below ↦ let f : asked_cmp (get_or xs k d) q ≡ Less = p.0 k d (omega arith) below in
          let z : Less ≡ Equal = sym f ∙ e in cc
      | inr above ↦ let f : asked_cmp (get_or xs k d) q ≡ Greater = p.1 k d above l in
          let z : Greater ≡ Equal = sym f ∙ e in cc
    ]) in
    sym (list_any_none (is_same_question q) xs apart)

-- Values have one ascending order.
use Rattle.std.proofs.Common.{◌≡◌, ℕ, ◌+◌, ◌<◌, Bool, true, false, cond, List, [], ◌∷◌, refl, sym, ap, ◌∙◌}
use Rattle.std.proofs.Common.{subst, arith, sum_by}
use Rattle.std.proofs.lemmas.List.Sums.{sum_by-cons}
use Rattle.std.proofs.lemmas.List.Sorted.{sum_by-IsPermutation}
use Rattle.der_core.specs.Lists.{is_same, is_less}
use Rattle.der_core.proofs.Encoded.{same}
use Rattle.der_core.proofs.SameOctets.{same_again}
use Rattle.check_evidence.specs.Roots.{IsAscending, InOrder}
use Rattle.check_evidence.proofs.Orders.{same_unless_less, never_less, not_less}

abbrev Values : Type 0
Values = List (List ℕ)

abbrev one_if_same : List ℕ → List ℕ → ℕ
one_if_same v w = cond (is_same v w) 1 0

-- how often a value stands in a list
abbrev times : List ℕ → Values → ℕ
times v values = sum_by (one_if_same v) values

times_of : (v w : List ℕ) (values : Values) → times v (w ∷ values) ≡ one_if_same v w + times v values
times_of v w values = sum_by-cons (one_if_same v) w values

times_own : (v : List ℕ) (values : Values) → times v (v ∷ values) ≡ 1 + times v values
times_own v values =
    times_of v v values ∙ ap (λ (b : Bool). cond b 1 0 + times v values) (same_again v)

pub tail_ascends : (v : List ℕ) (values : Values) → IsAscending (v ∷ values) → IsAscending values
tail_ascends v [] h = tt
tail_ascends v (w ∷ values) h = h.1

-- a value that stands in an ascending list isn't before the first
first_is_least : (values : Values) (w v : List ℕ) → IsAscending (w ∷ values) → 0 < times v (w ∷ values)
    → is_less v w ≡ false
first_is_least [] w v up some = go (is_same v w) refl (times_of v w [])
  where
    go : (b : Bool) → is_same v w ≡ b → times v (w ∷ []) ≡ one_if_same v w + times v [] → is_less v w ≡ false
    go true e are =
        let is : v ≡ w = same v w e in
        subst (λ (x : List ℕ). is_less x w ≡ false) (sym is) (never_less w)
    go false e are =
        let none : one_if_same v w ≡ 0 = ap (λ (b : Bool). cond b 1 0) e in
        let all : times v (w ∷ []) ≡ one_if_same v w + 0 = are in
        absurd (omega (arith, none, all, some))
first_is_least (x ∷ values) w v up some =
    go (first_is_least values x v up.1) (is_same v w) refl (times_of v w (x ∷ values))
  where
    go : (0 < times v (x ∷ values) → is_less v x ≡ false) → (b : Bool) → is_same v w ≡ b
        → times v (w ∷ x ∷ values) ≡ one_if_same v w + times v (x ∷ values) → is_less v w ≡ false
    go next true e are =
        let is : v ≡ w = same v w e in
        subst (λ (x : List ℕ). is_less x w ≡ false) (sym is) (never_less w)
    go next false e are =
        let none : one_if_same v w ≡ 0 = ap (λ (b : Bool). cond b 1 0) e in
        let more : 0 < times v (x ∷ values) = omega (arith, none, are, some) in
        not_less w x v up.0 (next more)

-- ascending lists in which each value stands as often as in the other are the same
ascends_once : (xs ys : Values) → IsAscending xs → IsAscending ys → ((v : List ℕ) → times v xs ≡ times v ys)
    → xs ≡ ys
ascends_once [] [] up up' often = refl
ascends_once [] (y ∷ ys) up up' often =
    let some = times_own y ys in
    let none : 0 ≡ times y (y ∷ ys) = often y in
    absurd (omega (arith, some, none))
ascends_once (x ∷ xs) [] up up' often =
    let some = times_own x xs in
    let none : times x (x ∷ xs) ≡ 0 = often x in
    absurd (omega (arith, some, none))
ascends_once (x ∷ xs) (y ∷ ys) up up' often =
    let own = times_own x xs in
    let own' = times_own y ys in
    let at-x : times x (x ∷ xs) ≡ times x (y ∷ ys) = often x in
    let at-y : times y (x ∷ xs) ≡ times y (y ∷ ys) = often y in
    let there : 0 < times x (y ∷ ys) = omega (arith, own, at-x) in
    let there' : 0 < times y (x ∷ xs) = omega (arith, own', at-y) in
    let is : x ≡ y = same_unless_less x y (first_is_least ys y x up' there) (first_is_least xs x y up there') in
    let rest : xs ≡ ys = ascends_once xs ys (tail_ascends x xs up) (tail_ascends y ys up')
    (λ v. less v (one_if_same v x) (one_if_same v y) (times v (x ∷ xs)) (times v (y ∷ ys)) (times v xs) (times v ys)
    (times_of v x xs) (times_of v y ys) (often v) (ap (one_if_same v) is)) in
    λ i. is i ∷ rest i
  where
    less : (v : List ℕ) (a b c d m n : ℕ) → c ≡ a + m → d ≡ b + n → c ≡ d → a ≡ b → m ≡ n
    less v a b c d m n p q r s = omega (arith, p, q, r, s)

-- so values in ascending order are one list
pub one_order : (values a b : Values) → InOrder values a → InOrder values b → a ≡ b
one_order values a b h k = ascends_once a b h.ascending k.ascending
    (λ v. sum_by-IsPermutation (one_if_same v) values a h.are
    ∙ sym (sum_by-IsPermutation (one_if_same v) values b k.are))

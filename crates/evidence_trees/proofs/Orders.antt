-- Byte order is a total order.
use Rattle.std.proofs.Common.{◌≡◌, ℕ, Bool, true, false, List, refl, sym, ap, ◌∙◌, arith}
use Rattle.std.specs.declared.cmp.Ordering.{Ordering}
use Rattle.std.specs.declared.cmp.Ordering.TheVariants.{Less, Equal, Greater}
use Rattle.std.specs.Ordering.{nat_cmp, is_lt, ordering_reverse}
use Rattle.std.specs.Cmp.Lexicographic.{slice_cmp}
use Rattle.std.specs.FinMap.{slice_cmp-IsAntisymmetric, nat_cmp-IsAntisymmetric}
use Rattle.std.proofs.lemmas.Bool.Decides.{nat_tests}
use Rattle.std.proofs.lemmas.Cmp.{nat_list_cmp_total, same_from_slice_cmp, tied_itself}
use Rattle.der_core.specs.Lists.{is_less}

abbrev pub octets_cmp : List ℕ → List ℕ → Ordering
octets_cmp = slice_cmp nat_cmp

pub less_is : (v w : List ℕ) → is_lt (octets_cmp v w) ≡ is_less v w
less_is v w = same_from_slice_cmp nat_cmp is_lt is_less refl (λ _ _. refl) (λ _ _. refl)
    (λ x y xs ys o h. grind (arith, nat_tests)) v w (octets_cmp v w) refl

is_less_then : (v w : List ℕ) → is_less v w ≡ true → octets_cmp v w ≡ Less
is_less_then v w h = go (octets_cmp v w) (less_is v w ∙ h)
  where
    go : (o : Ordering) → is_lt o ≡ true → o ≡ Less
    go Less h = refl
    go Equal h = absurd cc
    go Greater h = absurd cc

pub less_trans : (u v w : List ℕ) → is_less u v ≡ true → is_less v w ≡ true → is_less u w ≡ true
less_trans u v w h k = sym (less_is u w)
    ∙ ap is_lt (nat_list_cmp_total.trans u v w (is_less_then u v h) (is_less_then v w k))

pub never_less : (v : List ℕ) → is_less v v ≡ false
never_less v = sym (less_is v v) ∙ ap is_lt (tied_itself nat_list_cmp_total v)

-- of two that differ, one that isn't after the other is before it
pub less_unless_same : (v w : List ℕ) → is_less w v ≡ false → (v ≡ w → ⊥) → is_less v w ≡ true
less_unless_same v w h other = go (octets_cmp v w) refl
  where
    go : (o : Ordering) → octets_cmp v w ≡ o → is_less v w ≡ true
    go Less is = sym (less_is v w) ∙ ap is_lt is
    go Equal is = absurd (other (slice_cmp-IsAntisymmetric nat_cmp-IsAntisymmetric v w is))
    go Greater is =
        let turned : is_less w v ≡ true = sym (less_is w v)
        ∙ ap is_lt (nat_list_cmp_total.antisymm w v ∙ ap ordering_reverse is) in
        absurd cc

-- of two that differ one alone is before the other
pub less_is_not : (v w : List ℕ) → is_less v w ≡ true → is_less w v ≡ false
less_is_not v w h = go (is_less w v) refl
  where
    go : (b : Bool) → is_less w v ≡ b → b ≡ false
    go true is = let self = less_trans v w v h is in let never = never_less v in absurd cc
    go false is = refl

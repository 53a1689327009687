-- The test of a contentType as it passes.
use Rattle.std.proofs.Common.{◌≡◌, ℕ, suc, Bool, true, false, ◌&&◌, List, [], ◌∷◌, length, refl, sym, ap, ◌∙◌, arith}
use Rattle.std.proofs.lemmas.Bool.{ne_eqb}
use Rattle.std.specs.Prelude.{◌==◌}
use Rattle.std.proofs.lemmas.List.{append-nil}
use Rattle.der_core.specs.Lists.{is_same}
use Rattle.der_grammar.specs.Table.{id_signed_data}
use Rattle.cms_stream.specs.declared.type_test.SignedDataTest.{SignedDataTest}
use Rattle.cms_stream.specs.Types.{Compared}

empty_same : (xs : List ℕ) → is_same xs [] ≡ (length xs == 0)
empty_same [] = refl
empty_same (x ∷ xs) = sym (ne_eqb (suc (length xs)) 0 (λ z. omega (arith, z)))

whole_is : (t : SignedDataTest) (m : List ℕ) → Compared t m
    → is_same id_signed_data m ≡ (t.same && is_same t.left.now [])
whole_is t m h = ap (is_same id_signed_data) (sym (append-nil m)) ∙ h []

pub same_whole : (t : SignedDataTest) (m : List ℕ) (b : Bool) → t.same ≡ true → b ≡ (length t.left.now == 0)
    → Compared t m → is_same id_signed_data m ≡ b
same_whole t m b p e h =
    whole_is t m h ∙ ap (λ (z : Bool). z && is_same t.left.now []) p ∙ empty_same t.left.now ∙ sym e

pub same_other : (t : SignedDataTest) (m : List ℕ) → t.same ≡ false → Compared t m → is_same id_signed_data m ≡ t.same
same_other t m p h = whole_is t m h ∙ ap (λ (z : Bool). z && is_same t.left.now []) p ∙ sym p

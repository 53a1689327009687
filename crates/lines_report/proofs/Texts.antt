-- Texts that were put one behind the other.
use Rattle.std.proofs.Common.{◌≡◌, ℕ, List, ◌++◌, Result, sym, ap, subst, ◌∙◌, append_assoc}
use Rattle.devices.specs.Device.{Wrote}
use Rattle.devices.specs.declared.sink.SinkFault.{SinkFault}
use Rattle.devices.proofs.Putting.{TwoPuts, FirstPut, SecondPut, BothPut, wrote_both}

-- a text that has two names
pub wrote_same : (r : Result (Unit {0}) SinkFault) (tells : Type 0) (t0 t1 : List ℕ) (c0 c1 : ℕ) (a b : List ℕ) → a ≡ b
    → Wrote r tells t0 t1 c0 c1 a
    → Wrote r tells t0 t1 c0 c1 b
wrote_same r tells t0 t1 c0 c1 a b e w = subst (λ (x : List ℕ). Wrote r tells t0 t1 c0 c1 x) e w

-- a text was put, and another behind it
pub two_texts : (p : TwoPuts) (a a' b b' : List ℕ) → a ≡ a' → b ≡ b' → FirstPut p a → SecondPut p b
    → BothPut p (a' ++ b')
two_texts p a a' b b' at_a at_b first second = wrote_both p (a' ++ b') a b (λ i. sym at_a i ++ sym at_b i) first second

-- a text in four parts, of which the last three were put together
pub in_parts : (a b c d : List ℕ) → a ++ (b ++ c ++ d) ≡ a ++ b ++ c ++ d
in_parts a b c d = sym (append_assoc a (b ++ c) d) ∙ ap (λ (x : List ℕ). x ++ d) (sym (append_assoc a b c))

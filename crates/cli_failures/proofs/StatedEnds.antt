-- The parts of a word that states an end.
use Rattle.std.proofs.Common.{◌≡◌, ◌<◌, ℕ, Bool, true, List, ◌∷◌, ◌++◌, length, eqb, refl, codes, sym, ap}
use Rattle.std.proofs.Common.{◌∙◌}
use Rattle.std.specs.List.{position_or_len, before_first, after_first}
use Rattle.std.proofs.lemmas.List.Sums.{split_at_first, passes_at_first}
use Rattle.std.proofs.lemmas.Bool.{eqb-true}
use Rattle.digests.specs.Algorithms.{name_of}
use Rattle.digests.specs.declared.algorithm.Alg.{Alg}
use Rattle.digests.specs.declared.algorithm.Alg.TheVariants as alg
use Rattle.der_core.specs.Times.{is_generalized}
use Rattle.cli_failures.specs.Ends.{IsEndIn, IsTimeIn, StatesNoEnd, StatesNoTime}

-- the octet is `=`
abbrev pub is_equals : ℕ → Bool
is_equals b = eqb b 61

-- a name, `=` and a time
abbrev pub joined : Alg → (time : List ℕ) → List ℕ
joined a time = name_of a ++ (codes "=" ++ time)

-- no name of an algorithm has `=`
pub time_after : (a : Alg) (time : List ℕ) → after_first is_equals (joined a time) ≡ time
time_after alg.Sha1 time = refl
time_after alg.Sha224 time = refl
time_after alg.Sha256 time = refl
time_after alg.Sha384 time = refl
time_after alg.Sha512 time = refl
time_after alg.Sha512_224 time = refl
time_after alg.Sha512_256 time = refl

module _ (word : List ℕ) (there : position_or_len is_equals word < length word) where
  abbrev Name : List ℕ
  Name = before_first is_equals word

  abbrev Time : List ℕ
  Time = after_first is_equals word

  pub another_time : (time : List ℕ) → time ≡ Time → StatesNoTime time → StatesNoEnd word
  another_time time is none = λ e stated.
      let same : time ≡ stated.time = is ∙ (ap (after_first is_equals) stated.parts ∙ time_after e.alg stated.time) in
      let its : is_generalized time ≡ true = ap is_generalized same ∙ stated.last.is_time in
      cc

  pub stated : (name time : List ℕ) (a : Alg) (m : ℕ) → name ≡ Name → time ≡ Time → name ≡ name_of a
      → IsTimeIn time m → IsEndIn word (record { alg = a; last = m })
  stated name time a m is_name is_time named last = record {
    time = time;
    parts = rw (sym named, is_name, is_time)
        (split_at_first is_equals word 0 there
        ∙ ap (λ (o : ℕ). Name ++ (o ∷ Time)) (eqb-true _ _ (passes_at_first is_equals word 0 there)));
    last = last;
  }

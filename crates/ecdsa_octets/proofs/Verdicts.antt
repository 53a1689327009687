-- What the parts of a verification in octets say of the whole.
use Rattle.std.proofs.Common.{◌≡◌, ℕ, ◌*◌, ◌/◌, ◌≤◌, Bool, true, false, ◌&&◌, nat_lt, List, Ok, Err}
use Rattle.std.proofs.Common.{refl, sym, ap, ◌∙◌, arith, Option, Some, None, IfSome}
use Rattle.std.proofs.lemmas.Bool.Decides.{nat_tests}
use Rattle.der_core.specs.declared.fault.Fault.{Fault}
use Rattle.curve_points.specs.Points.{is_on_curve}
use Rattle.ecdsa_signatures.specs.Signatures.{Parameters, is_scalar, is_signed}
use Rattle.ecdsa_signatures.proofs.Verdicts.{bad_key, bad_x, bad_y}
use Rattle.ecdsa_octets.specs.SignatureValue.{SignatureValue}
use Rattle.ecdsa_octets.specs.SignatureReading.{signature_at}
use Rattle.ecdsa_octets.specs.Octets.{number_of, is_natural, leftmost, is_signed_value, is_signed_result}
use Rattle.ecdsa_octets.specs.Octets.{is_signed_in_octets}

no_first : (a b : Bool) → a ≡ false → false ≡ (a && b)
no_first true b h = cc
no_first false b h = refl

no_second : (a b c : Bool) → b ≡ false → false ≡ (a && (b && c))
no_second false b c h = refl
no_second true true c h = cc
no_second true false c h = refl

no_third : (a b c d : Bool) → c ≡ false → false ≡ (a && (b && (c && d)))
no_third false b c d h = refl
no_third true false c d h = refl
no_third true true true d h = cc
no_third true true false d h = refl

third_is : (a b c : Bool) → a ≡ true → b ≡ true → c ≡ (a && (b && c))
third_is true true c h k = refl
third_is true false c h k = cc
third_is false b c h k = cc

module _ (c : Parameters) (x y digest signature : List ℕ) where
  -- no value
  pub no_value : (f : Fault) → signature_at signature ≡ Err f → false ≡ is_signed_in_octets c x y digest signature
  unfolding is_signed_in_octets
  no_value f e = sym (ap (is_signed_result c x y digest) e)

  module _ (v : SignatureValue) (read : signature_at signature ≡ Ok v) where
    of_value : (b : Bool) → b ≡ is_signed_value c x y digest v → b ≡ is_signed_in_octets c x y digest signature
    unfolding is_signed_in_octets
    of_value b h = h ∙ sym (ap (is_signed_result c x y digest) read)

    last : Bool
    last = is_signed c (number_of x) (number_of y) (number_of (leftmost c digest)) (number_of v.r) (number_of v.s)

    negative_first : is_natural v.r ≡ false → false ≡ is_signed_value c x y digest v
    unfolding is_signed_value
    negative_first h = no_first (is_natural v.r) _ h

    negative_second : is_natural v.s ≡ false → false ≡ is_signed_value c x y digest v
    unfolding is_signed_value
    negative_second h = no_second (is_natural v.r) (is_natural v.s) _ h

    naturals : (b : Bool) → is_natural v.r ≡ true → is_natural v.s ≡ true → b ≡ last
        → b ≡ is_signed_value c x y digest v
    unfolding is_signed_value last
    naturals b h k l = l ∙ third_is (is_natural v.r) (is_natural v.s) _ h k

    pub negative_r : is_natural v.r ≡ false → false ≡ is_signed_in_octets c x y digest signature
    negative_r h = of_value false (negative_first h)

    pub negative_s : is_natural v.s ≡ false → false ≡ is_signed_in_octets c x y digest signature
    negative_s h = of_value false (negative_second h)

    module _ (is_r : is_natural v.r ≡ true) (is_s : is_natural v.s ≡ true) where
      pub last_is : (b : Bool) (X Y E R S : ℕ) → X ≡ number_of x → Y ≡ number_of y → E ≡ number_of (leftmost c digest)
          → R ≡ number_of v.r → S ≡ number_of v.s → b ≡ is_signed c X Y E R S
          → b ≡ is_signed_in_octets c x y digest signature
      unfolding last
      last_is b X Y E R S f g h k l m =
          of_value b (naturals b is_r is_s
          (m
          ∙ ap (λ n. is_signed c n Y E R S) f
          ∙ ap (λ n. is_signed c (number_of x) n E R S) g
          ∙ ap (λ n. is_signed c (number_of x) (number_of y) n R S) h
          ∙ ap (λ n. is_signed c (number_of x) (number_of y) (number_of (leftmost c digest)) n S) k
          ∙ ap (λ n. is_signed c (number_of x) (number_of y) (number_of (leftmost c digest)) (number_of v.r) n) l))

      high : (n k m : ℕ) → n ≤ m → m ≤ k → is_scalar n k ≡ false
      high n k m h l = not_second (nat_lt 0 k) (nat_lt k n) (not_below k n m h l) where
        not_below : (k n m : ℕ) → n ≤ m → m ≤ k → nat_lt k n ≡ false
        not_below k n m h l = grind (arith, nat_tests)

        not_second : (a b : Bool) → b ≡ false → (a && b) ≡ false
        not_second true b e = e
        not_second false b e = refl

      high_first : (X Y E R S m : ℕ) → c.n ≤ m → m ≤ R → false ≡ is_signed c X Y E R S
      unfolding is_signed
      high_first X Y E R S m h l = no_second (is_on_curve c.p c.b X Y) (is_scalar c.n R) _ (high c.n R m h l)

      high_second : (X Y E R S m : ℕ) → c.n ≤ m → m ≤ S → false ≡ is_signed c X Y E R S
      unfolding is_signed
      high_second X Y E R S m h l =
          no_third (is_on_curve c.p c.b X Y) (is_scalar c.n R) (is_scalar c.n S) _ (high c.n S m h l)

      above : (n m k : ℕ) → n ≤ m → m ≤ k → n ≤ k
      above n m k h l = omega arith

      pub high_r : (m : ℕ) → c.n ≤ m → m ≤ number_of v.r → false ≡ is_signed_in_octets c x y digest signature
      high_r m h l = last_is false _ _ _ _ _ refl refl refl refl refl (high_first _ _ _ _ _ m h l)

      pub high_s : (m : ℕ) → c.n ≤ m → m ≤ number_of v.s → false ≡ is_signed_in_octets c x y digest signature
      high_s m h l = last_is false _ _ _ _ _ refl refl refl refl refl (high_second _ _ _ _ _ m h l)

      pub high_x : (m : ℕ) → c.p ≤ m → m ≤ number_of x → false ≡ is_signed_in_octets c x y digest signature
      high_x m h l = last_is false _ _ _ _ _ refl refl refl refl refl
          (bad_key c _ _ _ _ _ (bad_x c.p c.b _ _ (above c.p m (number_of x) h l)))

      pub high_y : (m : ℕ) → c.p ≤ m → m ≤ number_of y → false ≡ is_signed_in_octets c x y digest signature
      high_y m h l = last_is false _ _ _ _ _ refl refl refl refl refl
          (bad_key c _ _ _ _ _ (bad_y c.p c.b _ _ (above c.p m (number_of y) h l)))

-- how many octets the bits fill
pub octets_of : (c : Parameters) (k : ℕ) → 64 * k ≡ c.bits → 8 * k ≡ c.bits / 8
octets_of c k e = omega (arith, e)

pub some_map : (o : Option Bool) (P Q : Bool → Type 0) → ((b : Bool) → P b → Q b) → IfSome o P → IfSome o Q
some_map None P Q f h = tt
some_map (Some b) P Q f h = f b h

-- Length octets: what they look like, and that octets begin with at most one element.
use Rattle.std.proofs.Common.{◌≡◌, ℕ, ◌+◌, ◌-◌, ◌*◌, ◌/◌, ◌%◌, ◌<◌, ◌≤◌, ltb, eqb, cond, List, [], ◌∷◌, ◌++◌, length}
use Rattle.std.proofs.Common.{get_or, take, drop, true, refl, sym, ap}
use Rattle.std.proofs.Common.{subst, ◌∙◌, append_assoc, arith, inl, inr}
use Rattle.std.specs.Prelude.{◌⊎◌}
use Rattle.std.proofs.lemmas.Bool.{lt-ltb, le-ltb, cases_lt}
use Rattle.std.proofs.lemmas.List.{take_at, drop_at, length-append}
use Rattle.der_core.specs.Element.{len, el, IsElement}
use Rattle.der_core.specs.Faults.{LengthEnds, IsNoLength}

pub len_0 : (n : ℕ) → n < 128 → len n ≡ n ∷ []
unfolding len
len_0 n h = rw (lt-ltb n 128 h) refl

pub len_1 : (n : ℕ) → 128 ≤ n → n < 256 → len n ≡ 129 ∷ n ∷ []
unfolding len
len_1 n lo hi = let e : n % 256 ≡ n = omega arith in rw (le-ltb n 128 lo, lt-ltb n 256 hi, e) refl

pub len_2 : (n : ℕ) → 256 ≤ n → n < 65536 → len n ≡ 130 ∷ n / 256 ∷ n % 256 ∷ []
unfolding len
len_2 n lo hi = let e : n / 256 % 256 ≡ n / 256 = omega arith in
    rw (le-ltb n 128 (omega arith), le-ltb n 256 lo, lt-ltb n 65536 hi, e) refl

pub len_3 : (n : ℕ) → 65536 ≤ n → n < 16777216 → len n ≡ 131 ∷ n / 65536 ∷ n / 256 % 256 ∷ n % 256 ∷ []
unfolding len
len_3 n lo hi = let e : n / 256 / 256 % 256 ≡ n / 65536 = omega arith in
    rw (le-ltb n 128 (omega arith), le-ltb n 256 (omega arith), le-ltb n 65536 lo, lt-ltb n 16777216 hi, e) refl

pub len_4 : (n : ℕ) → 16777216 ≤ n → n < 4294967296
    → len n ≡ 132 ∷ n / 16777216 ∷ n / 65536 % 256 ∷ n / 256 % 256 ∷ n % 256 ∷ []
unfolding len
len_4 n lo hi =
    let e : n / 256 / 256 / 256 % 256 ≡ n / 16777216 = omega arith in
    let f : n / 256 / 256 % 256 ≡ n / 65536 % 256 = omega arith in
    rw (
      le-ltb n 128 (omega arith),
      le-ltb n 256 (omega arith),
      le-ltb n 65536 (omega arith),
      le-ltb n 16777216 lo,
      e,
      f,
    ) refl

-- what length octets say, and how many there are
abbrev value_at : List ℕ → ℕ
value_at s =
    cond (ltb (get_or s 0 0) 128) (get_or s 0 0)
    (cond (eqb (get_or s 0 0) 129) (get_or s 1 0)
    (cond (eqb (get_or s 0 0) 130) (get_or s 1 0 * 256 + get_or s 2 0)
    (cond (eqb (get_or s 0 0) 131) (get_or s 1 0 * 65536 + get_or s 2 0 * 256 + get_or s 3 0)
    (get_or s 1 0 * 16777216 + get_or s 2 0 * 65536 + get_or s 3 0 * 256 + get_or s 4 0))))

abbrev size_at : List ℕ → ℕ
size_at s = cond (ltb (get_or s 0 0) 128) 1 (get_or s 0 0 - 127)

record Says (n : ℕ) (x s : List ℕ) : Type 0 where
  value : value_at s ≡ n
  behind : drop (size_at s) s ≡ x

says : (n : ℕ) (x : List ℕ) → n < 4294967296 → Says n x (len n ++ x)
says n x h = elim (cases_lt n 128) [
  | inl a ↦ subst (λ (l : List ℕ). Says n x (l ++ x)) (sym (len_0 n a))
      (let e : ltb n 128 ≡ true = lt-ltb n 128 a in record { value = rw e refl; behind = rw e refl })
  | inr a ↦ elim (cases_lt n 256) [
    | inl b ↦ subst (λ (l : List ℕ). Says n x (l ++ x)) (sym (len_1 n a b)) (record { value = refl; behind = refl })
    | inr b ↦ elim (cases_lt n 65536) [
      | inl d ↦
          subst (λ (l : List ℕ). Says n x (l ++ x)) (sym (len_2 n b d)) (record { value = omega arith; behind = refl })
      | inr d ↦ elim (cases_lt n 16777216) [
        | inl f ↦ subst (λ (l : List ℕ). Says n x (l ++ x)) (sym (len_3 n d f))
            (record { value = omega arith; behind = refl })
        | inr f ↦ subst (λ (l : List ℕ). Says n x (l ++ x)) (sym (len_4 n f h))
            (record { value = omega arith; behind = refl })
      ]
    ]
  ]
]

pub len_same : (n m : ℕ) (x y : List ℕ) → n < 4294967296 → m < 4294967296 → len n ++ x ≡ len m ++ y → (n ≡ m) × (x ≡ y)
len_same n m x y hn hm e =
    let a = says n x hn in
    let b = says m y hm in
    (sym a.value ∙ ap value_at e ∙ b.value, sym a.behind ∙ ap (λ (s : List ℕ). drop (size_at s) s) e ∙ b.behind)

pub record Same (t : ℕ) (c r : List ℕ) (t' : ℕ) (c' r' : List ℕ) : Type 0 where
  pub tag : t ≡ t'
  pub body : c ≡ c'
  pub rest : r ≡ r'

pub heads : (a b : ℕ) (x y : List ℕ) → a ∷ x ≡ b ∷ y → (a ≡ b) × (x ≡ y)
heads a b x y e = (cc, cc)

-- octets begin with at most one element
pub el_same : (t : ℕ) (c r : List ℕ) (t' : ℕ) (c' r' : List ℕ) → IsElement t c → IsElement t' c'
    → el t c ++ r ≡ el t' c' ++ r' → Same t c r t' c' r'
el_same t c r t' c' r' is is' e =
    let h : length c < 4294967296 = omega (arith, is.size) in
    let h' : length c' < 4294967296 = omega (arith, is'.size) in
    let p = heads t t' ((len (length c) ++ c) ++ r) ((len (length c') ++ c') ++ r') e in
    let q = len_same (length c) (length c') (c ++ r) (c' ++ r') h h'
    (sym (append_assoc (len (length c)) c r) ∙ p.1 ∙ append_assoc (len (length c')) c' r') in
    record {
      tag = p.0;
      body = sym (take_at c r (length c) refl) ∙ ap (take (length c)) q.1 ∙ take_at c' r' (length c) (sym q.0);
      rest = sym (drop_at c r (length c) refl) ∙ ap (drop (length c)) q.1 ∙ drop_at c' r' (length c) (sym q.0);
    }

-- what length octets look like
abbrev pub Forms : ℕ → List ℕ → Type 0
Forms first more = ((first < 128) × (length more ≡ 0))
    ⊎ ((128 < first) × (first ≤ 132) × (length more ≡ first - 128) × (first ≡ 129 → 128 ≤ get_or more 0 0)
    × (129 < first → 0 < get_or more 0 0))

pub record Shape (n : ℕ) : Type 0 where
  pub first : ℕ
  pub more : List ℕ
  pub is : len n ≡ first ∷ more
  pub forms : Forms first more

pub shape : (n : ℕ) → n < 4294967296 → Shape n
shape n h = elim (cases_lt n 128) [
  | inl a ↦ record { first = n; more = []; is = len_0 n a; forms = inl (a, refl) }
  | inr a ↦ elim (cases_lt n 256) [
    | inl b ↦ record {
      first = 129;
      more = n ∷ [];
      is = len_1 n a b;
      forms = inr (omega arith, omega arith, refl, λ _. a, λ _. omega arith);
    }
    | inr b ↦ elim (cases_lt n 65536) [
      | inl d ↦ record {
        first = 130;
        more = n / 256 ∷ n % 256 ∷ [];
        is = len_2 n b d;
        forms = inr (omega arith, omega arith, refl, λ e. absurd (omega arith), λ _. omega arith);
      }
      | inr d ↦ elim (cases_lt n 16777216) [
        | inl f ↦ record {
          first = 131;
          more = n / 65536 ∷ n / 256 % 256 ∷ n % 256 ∷ [];
          is = len_3 n d f;
          forms = inr (omega arith, omega arith, refl, λ e. absurd (omega arith), λ _. omega arith);
        }
        | inr f ↦ record {
          first = 132;
          more = n / 16777216 ∷ n / 65536 % 256 ∷ n / 256 % 256 ∷ n % 256 ∷ [];
          is = len_4 n f h;
          forms = inr (omega arith, omega arith, refl, λ e. absurd (omega arith), λ _. omega arith);
        }
      ]
    ]
  ]
]

front_of : (x y : List ℕ) → 0 < length x → get_or (x ++ y) 0 0 ≡ get_or x 0 0
front_of [] y h = absurd (omega arith)
front_of (b ∷ x) y h = refl

long_ends : (first k : ℕ) (more c : List ℕ) → Forms first more → LengthEnds (first ∷ (more ++ c)) k → ⊥
long_ends first k more c (inl a) f = omega (arith, f.0, a.0)
long_ends first k more c (inr a) f = omega (arith, f.2, a.2, length-append more c)

-- the octets don't end inside complete length octets
pub ends_not : (n k : ℕ) (c : List ℕ) → n < 4294967296 → LengthEnds (len n ++ c) k → ⊥
ends_not n k c h f =
    let s = shape n h in long_ends s.first k s.more c s.forms (subst (λ (l : List ℕ). LengthEnds (l ++ c) k) s.is f)

long_no : (first : ℕ) (more c rest : List ℕ) → Forms first more → rest ≡ more ++ c → IsNoLength (first ∷ rest) → ⊥
long_no first more c [] (inl a) e f = omega (arith, f, a.0)
long_no first more c [] (inr a) e f = omega (arith, f, a.1)
long_no first more c (o ∷ rest) (inl a) e (inl f) = omega (arith, f, a.0)
long_no first more c (o ∷ rest) (inl a) e (inr (inl f)) = omega (arith, f.0, a.0)
long_no first more c (o ∷ rest) (inl a) e (inr (inr f)) = omega (arith, f.0, a.0)
long_no first more c (o ∷ rest) (inr a) e (inl f) = omega (arith, f, a.1)
long_no first more c (o ∷ rest) (inr a) e (inr (inl f)) =
    let k : 0 < length more = omega (arith, a.0, a.2) in
    let o-is : o ≡ get_or more 0 0 = ap (λ (s : List ℕ). get_or s 0 0) e ∙ front_of more c k in
    elim (cases_lt 129 first) [
      | inl q ↦ omega (arith, a.4 q, f.1, o-is)
      | inr q ↦ let is : first ≡ 129 = omega (arith, a.0) in omega (arith, a.3 is, f.1, o-is)
    ]
long_no first more c (o ∷ rest) (inr a) e (inr (inr f)) =
    let k : 0 < length more = omega (arith, a.0, a.2) in
    let o-is : o ≡ get_or more 0 0 = ap (λ (s : List ℕ). get_or s 0 0) e ∙ front_of more c k in
    omega (arith, a.3 f.0, f.1, o-is)

-- complete length octets are a length
pub is_length : (n : ℕ) (c : List ℕ) → n < 4294967296 → IsNoLength (len n ++ c) → ⊥
is_length n c h f = let s = shape n h in
    long_no s.first s.more c (s.more ++ c) s.forms refl (subst (λ (l : List ℕ). IsNoLength (l ++ c)) s.is f)

-- none begins with 80
pub definite : (n : ℕ) (c r : List ℕ) → n < 4294967296 → len n ++ c ≡ 128 ∷ r → ⊥
definite n c r h e =
    let s = shape n h in
    let q = heads s.first 128 (s.more ++ c) r (ap (λ (l : List ℕ). l ++ c) (sym s.is) ∙ e) in
    elim s.forms [ inl a ↦ omega (arith, a.0, q.0) | inr a ↦ omega (arith, a.0, q.0) ]

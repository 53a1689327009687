-- Members of lists, filters one after the other, and lists of octets that are the same.
use Rattle.std.proofs.Common.{◌≡◌, ℕ, zero, suc, ◌+◌, ◌-◌, ◌<◌, ◌≤◌, List, [], take, drop, get_or, length, All, Some}
use Rattle.std.proofs.Common.{ap, subst, ◌∙◌, arith, inl, inr}
use Rattle.std.specs.Prelude.{Any, Contains, slice_get}
use Rattle.std.proofs.lemmas.Bool.{cases_lt}
use Rattle.std.proofs.lemmas.List.{take-append-drop, get_or-take, length-take}
use Rattle.std.proofs.lemmas.List.Elements.{Contains-append_left, Contains-get_or}
use Rattle.std.proofs.lemmas.Option.{slice_get_within, get_or_from_slice_get}
use Rattle.check_verdict.specs.Filters.{StopsAt}

pub along : {A : Type 0} (P Q : A → Type 0) (xs : List A) → ((x : A) → Contains xs x → P x → Q x) → Any P xs → Any Q xs
along P Q xs f (i, x, within, is, p) = (i, x, within, is, f x (i, within, is) p)

pub all-along : {A : Type 0} (P Q : A → Type 0) (xs : List A) → ((x : A) → Contains xs x → P x → Q x) → All P xs
    → All Q xs
all-along P Q xs f all k d lt = f (get_or xs k d) (Contains-get_or xs k d lt) (all k d lt)

pub from_get : {A : Type 0} (xs : List A) (i : ℕ) (x : A) → slice_get xs i ≡ Some x → Contains xs x
from_get xs i x h = (i, slice_get_within xs i x h, get_or_from_slice_get xs i x x h)

pub from_take : {A : Type 0} (xs : List A) (n : ℕ) (x : A) → Contains (take n xs) x → Contains xs x
from_take {A} xs n x c =
    subst (λ (l : List A). Contains l x) (take-append-drop n xs) (Contains-append_left (take n xs) (drop n xs) x c)

pub at : {A : Type 0} (P : A → Type 0) (xs : List A) (x : A) → All P xs → Contains xs x → P x
at P xs x all (i, within, is) = subst P is (all i x within)

pub any_never : {A : Type 0} (P : A → Type 0) (xs : List A) → Any P xs → All (λ x. P x → ⊥) xs → ⊥
any_never {A} P xs (i, x, within, is, p) none = at (λ (y : A). P y → ⊥) xs x none (i, within, is) p

pub any_of_none : {A : Type 0} (P : A → Type 0) (xs : List A) → xs ≡ [] → Any P xs → ⊥
any_of_none {A} P xs e (i, x, within, is, p) =
    let z : length xs ≡ 0 = ap (λ (l : List A). length l) e in absurd (omega (arith, within, z))

pub among_first : {A : Type 0} (xs : List A) (i n : ℕ) (x : A) (P : A → Type 0) → slice_get xs i ≡ Some x → i < n
    → All P (take n xs) → P x
among_first {A} xs i n x P is lt all =
    let e = get_or-take n xs i x lt ∙ get_or_from_slice_get xs i x x is in
    subst P e (all i x (omega (arith, slice_get_within xs i x is, lt, length-take n xs)))

-- ---- filters

lower : {E : Type 0} (Left : ℕ → E → Type 0) → ((k : ℕ) (e : E) → Left (suc k) e → Left k e) → (d a : ℕ) (e : E)
    → Left (d + a) e → Left a e
lower Left falls zero a e p = let z : 0 + a ≡ a = omega arith in subst (λ (k : ℕ). Left k e) z p
lower Left falls (suc d) a e p = let z : suc d + a ≡ suc (d + a) = omega arith in
    lower Left falls d a e (falls (d + a) e (subst (λ (k : ℕ). Left k e) z p))

pub lowered : {E : Type 0} (Left : ℕ → E → Type 0) → ((k : ℕ) (e : E) → Left (suc k) e → Left k e) → (a b : ℕ) (e : E)
    → a ≤ b → Left b e → Left a e
lowered Left falls a b e le p =
    let z : b ≡ (b - a) + a = omega (arith, le) in lower Left falls (b - a) a e (subst (λ (k : ℕ). Left k e) z p)

-- where an entry is left after the last filter, none of them stops
pub never_stops : {E : Type 0} (Left : ℕ → E → Type 0) (total : ℕ) (es : List E) (n : ℕ)
    → ((k : ℕ) (e : E) → Left (suc k) e → Left k e)
    → Any (Left total) es → StopsAt Left total es n → ⊥
never_stops Left total es n falls any h = any_never (Left (n + 1)) es
    (along (Left total) (Left (n + 1)) es (λ e c p. lowered Left falls (n + 1) total e (omega (arith, h.within)) p) any)
    h.none

-- so they stop at one place
earlier : {E : Type 0} (Left : ℕ → E → Type 0) (total : ℕ) (es : List E) (n k : ℕ)
    → ((k : ℕ) (e : E) → Left (suc k) e → Left k e) → n < k
    → StopsAt Left total es n → StopsAt Left total es k → ⊥
earlier Left total es n k falls lt h g = any_never (Left (n + 1)) es
    (along (Left k) (Left (n + 1)) es (λ e c p. lowered Left falls (n + 1) k e (omega (arith, lt)) p)
    (g.left (omega (arith, lt)))) h.none

pub stops_once : {E : Type 0} (Left : ℕ → E → Type 0) (total : ℕ) (es : List E) (n k : ℕ)
    → ((k : ℕ) (e : E) → Left (suc k) e → Left k e)
    → StopsAt Left total es n → StopsAt Left total es k → n ≡ k
stops_once Left total es n k falls h g = elim (cases_lt n k) [
  | inl lt ↦ absurd (earlier Left total es n k falls lt h g)
  | inr ge ↦ elim (cases_lt k n) [
    | inl lt ↦ absurd (earlier Left total es k n falls lt g h)
    | inr le ↦ omega (arith, ge, le)
  ]
]

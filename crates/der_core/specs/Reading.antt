-- Reading from the left, on lists, up to the first fault that is found. These readings are a bridge: the code is proved
-- to give what they give, and the laws of `proofs/Readers.antt` say of each that it reads exactly the encodings of its
-- form, and that its faults are those of `Faults`. Nobody has to believe them.
use Rattle.std.proofs.Common.{inl, inr}
use Rattle.std.specs.Prelude.{◌≡◌, ◌⊎◌, false, ℕ, zero, suc, ◌+◌, ◌*◌, ◌-◌, Bool, not, ◌&&◌, List, [], ◌∷◌, length}
use Rattle.std.specs.Prelude.{take, drop, Option, Some, None, Result, Ok, Err, nat_lt, ◌==◌, if◌then◌else◌}
use Rattle.der_core.specs.declared.fault.Fault.{Fault}
use Rattle.der_core.specs.declared.fault.Kind.{Kind}
use Rattle.der_core.specs.declared.fault.Kind.TheVariants.{End, HighTag, Indefinite, LengthForm, Overrun, Tag, Trailing}
use Rattle.der_core.specs.declared.fault.Kind.TheVariants.{Value, Integer, Oid, Boolean, Bits, Empty}
use Rattle.der_core.specs.Element.{is_tag, has_tag}
use Rattle.der_core.specs.Contents.{is_boolean, is_integer, is_bits, is_oid}
use Rattle.der_core.specs.Lists.{is_same}
use Rattle.der_core.specs.Results.{◌>>=◌}
use Rattle.der_core.specs.Grammar.{any, is_of}

abbrev pub fault : Kind → ℕ → Fault
fault k n = record { kind = k; at = n }

-- where a cursor is: a position, and the octets from there to the end of its body
pub record Spot : Type 0 where
  pub pos : ℕ
  pub rest : List ℕ

abbrev pub spot : ℕ → List ℕ → Spot
spot n xs = record { pos = n; rest = xs }

-- what a call returned, as its value by `view`, is what reading gives
abbrev pub Gives : {X Y : Type 0} → (X → Y) → Result X Fault → Result Y Fault → Type 0
Gives view (Ok x) read = read ≡ Ok (view x)
Gives view (Err e) read = read ≡ Err e

-- the number that octets encode, the most significant first, after digits that gave n
abbrev pub number_from : ℕ → List ℕ → ℕ
number_from n [] = n
number_from n (b ∷ bs) = number_from (256 * n + b) bs

-- whether the first of k further length octets shows that a shorter form would do
abbrev pub begins_short : ℕ → List ℕ → Bool
begins_short k [] = false
begins_short k (b ∷ bs) = if k == 1 then nat_lt b 128 else b == 0

-- a length in k further octets, and the octets after them; n is the position of the first length octet
unfoldable pub further_at : ℕ → ℕ → List ℕ → Result (ℕ × List ℕ) Fault
further_at k n s = if begins_short k s then Err (fault LengthForm n)
    else if nat_lt (length s) k then Err (fault End (n + 1 + length s))
    else Ok (number_from 0 (take k s), drop k s)

-- a length, and the octets after it; n is the position of its first octet
unfoldable pub length_at : ℕ → List ℕ → Result (ℕ × List ℕ) Fault
length_at n [] = Err (fault End n)
length_at n (l ∷ xs) = if nat_lt l 128 then Ok (l, xs)
    else if l == 128 then Err (fault Indefinite n)
    else if nat_lt 132 l then Err (fault LengthForm n)
    else further_at (l - 128) n xs

-- what was taken: an identifier, contents, and the whole element
pub record Taken : Type 0 where
  pub tag : ℕ
  pub body : List ℕ
  pub whole : List ℕ

-- the octets of xs before its rest
abbrev pub before : List ℕ → List ℕ → List ℕ
before xs rest = take (length xs - length rest) xs

abbrev pub behind : Spot → List ℕ → Spot
behind s rest = spot (s.pos + (length s.rest - length rest)) rest

abbrev pub taken : Spot → ℕ → List ℕ → List ℕ → Taken × Spot
taken s t body rest = (record { tag = t; body = body; whole = before s.rest rest }, behind s rest)

abbrev pub body_at : Spot → ℕ → ℕ × List ℕ → Result (Taken × Spot) Fault
body_at s t l = if nat_lt (length l.1) l.0 then Err (fault Overrun s.pos)
    else Ok (taken s t (take l.0 l.1) (drop l.0 l.1))

-- the element at the front
abbrev pub element_in : Spot → List ℕ → Result (Taken × Spot) Fault
element_in s [] = Err (fault End s.pos)
element_in s (t ∷ xs) = if is_tag t then (length_at (s.pos + 1) xs >>= body_at s t) else Err (fault HighTag s.pos)

unfoldable pub next_at : Spot → Result (Taken × Spot) Fault
next_at s = element_in s s.rest

-- a call that returned a value moved the cursor to the new spot, and one that returned a fault left it where it was
abbrev pub Moves : {X Y : Type 0} → (X → Y) → Result X Fault → Spot → Spot → Result (Y × Spot) Fault → Type 0
Moves view (Ok x) old new read = read ≡ Ok (view x, new)
Moves view (Err e) old new read = (read ≡ Err e) × (new ≡ old)

-- whether another identifier is at the front
abbrev pub is_other : ℕ → List ℕ → Bool
is_other tag [] = false
is_other tag (t ∷ xs) = is_tag t && not (t == tag)

-- the element at the front, which must have this identifier
unfoldable pub expect_at : ℕ → Spot → Result (Taken × Spot) Fault
expect_at tag s = if is_other tag s.rest then Err (fault Tag s.pos) else next_at s

-- the contents of the element at the front, as a body of their own
unfoldable pub enter_at : ℕ → Spot → Result (Spot × Spot) Fault
enter_at tag s = expect_at tag s >>= λ x. Ok (spot (x.1.pos - length x.0.body) x.0.body, x.1)

-- the body ends here
unfoldable pub end_at : Spot → Result (Unit {0}) Fault
end_at s = if length s.rest == 0 then Ok tt else Err (fault Trailing s.pos)

-- A reading takes a value from the front of a body, or reads a whole body.

-- the element at the front, which must have this identifier, whole
unfoldable pub element_at : ℕ → Spot → Result (List ℕ × Spot) Fault
element_at tag s = expect_at tag s >>= λ x. Ok (x.0.whole, x.1)

-- an element whose contents are read by inside
abbrev pub within : {A : Type 0} → ℕ → (Spot → Result A Fault) → Spot → Result (A × Spot) Fault
within tag inside s = enter_at tag s >>= λ x. inside x.0 >>= λ a. Ok (a, x.1)

-- the element at the front if it has this identifier, else none
unfoldable pub optional_at : ℕ → Spot → Result (Option Taken × Spot) Fault
optional_at tag s = if has_tag tag s.rest then (next_at s >>= λ x. Ok (Some x.0, x.1)) else Ok (None, s)

-- an element whose contents are read by inside, if one with this identifier is at the front, else none
abbrev pub maybe : {A : Type 0} → ℕ → (Spot → Result A Fault) → Spot → Result (Option A × Spot) Fault
maybe tag inside s = if has_tag tag s.rest then (within tag inside s >>= λ x. Ok (Some x.0, x.1)) else Ok (None, s)

-- an element with the one identifier or the other
abbrev pub either : {A B : Type 0} → ℕ → (Spot → Result A Fault) → ℕ → (Spot → Result B Fault) → Spot
    → Result ((A ⊎ B) × Spot) Fault
either tag inside tag' inside' s = if has_tag tag s.rest then (within tag inside s >>= λ x. Ok (inl x.0, x.1))
    else (within tag' inside' s >>= λ x. Ok (inr x.0, x.1))

-- The end of the body, after parts that may be absent and are absent. An octet there is a fault in two ways: its
-- identifier is one that none of those parts allows, and it comes after the end, if they are dropped. The fault of the
-- identifier is the one that is reported.
abbrev pub none_in : Spot → List ℕ → Result (Unit {0}) Fault
none_in s [] = Ok tt
none_in s (t ∷ xs) = if is_tag t then Err (fault Tag s.pos) else Err (fault HighTag s.pos)

unfoldable pub none_at : Spot → Result (Unit {0}) Fault
none_at s = none_in s s.rest

-- the last part of a body, if such an element is present; if it isn't, the body must end
abbrev pub last : {A : Type 0} → ℕ → (Spot → Result A Fault) → Spot → Result (Option A × Spot) Fault
last tag inside s = if has_tag tag s.rest then (within tag inside s >>= λ x. Ok (Some x.0, x.1))
    else (none_at s >>= λ u. Ok (None, s))

-- contents with at least one octet; the element that has them is at n
abbrev pub filled_in : {A : Type 0} → ℕ → (Spot → Result A Fault) → Spot → Result A Fault
filled_in n inside s = if length s.rest == 0 then Err (fault Empty n) else inside s

abbrev pub maybe_filled : {A : Type 0} → ℕ → (Spot → Result A Fault) → Spot → Result (Option A × Spot) Fault
maybe_filled tag inside s = maybe tag (filled_in s.pos inside) s

abbrev pub last_filled : {A : Type 0} → ℕ → (Spot → Result A Fault) → Spot → Result (Option A × Spot) Fault
last_filled tag inside s = last tag (filled_in s.pos inside) s

-- a body whose first element decides how the rest is read: in one way if these are its contents, and otherwise in the
-- other
abbrev pub switched : {A B : Type 0} → ℕ → (Spot → Result (List ℕ) Fault) → List ℕ → (Spot → Result A Fault)
    → (Spot → Result B Fault) → Spot → Result (A ⊎ (List ℕ × B)) Fault
switched tag inside these same other s = within tag inside s >>= λ x. if is_same these x.0
    then (same x.1 >>= λ a. Ok (inl a)) else (other x.1 >>= λ b. Ok (inr (x.0, b)))

-- one reading and then another
infixr 6 ◌then◌
abbrev pub ◌then◌ : {A B : Type 0} → (Spot → Result (A × Spot) Fault) → (Spot → Result (B × Spot) Fault) → Spot
    → Result ((A × B) × Spot) Fault
(first then second) s = first s >>= λ x. second x.1 >>= λ y. Ok ((x.0, y.0), y.1)

-- a whole body
abbrev pub whole_of : {A : Type 0} → (Spot → Result (A × Spot) Fault) → Spot → Result A Fault
whole_of parts s = parts s >>= λ x. end_at x.1 >>= λ u. Ok x.0

-- contents of a type, with one of the values that are allowed
abbrev pub contents_at : Kind → (List ℕ → Bool) → (List ℕ → Bool) → Spot → Result (List ℕ) Fault
contents_at k formed allowed s = if formed s.rest then (if allowed s.rest then Ok s.rest else Err (fault Value s.pos))
    else Err (fault k s.pos)

abbrev pub any_at : Spot → Result (List ℕ) Fault
any_at s = Ok s.rest

-- the value of a whole body, or of a reading, converted by a function
abbrev pub made : {A B : Type 0} → (A → B) → (Spot → Result A Fault) → Spot → Result B Fault
made to read s = read s >>= λ x. Ok (to x)

abbrev pub named : {A B : Type 0} → (A → B) → (Spot → Result (A × Spot) Fault) → Spot → Result (B × Spot) Fault
named to read s = read s >>= λ x. Ok (to x.0, x.1)

-- a call that returned a value moved the cursor to the new spot, and one that returned a fault left it anywhere
abbrev pub Reads : {X Y : Type 0} → (X → Y) → Result X Fault → Spot → Result (Y × Spot) Fault → Type 0
Reads view (Ok x) new read = read ≡ Ok (view x, new)
Reads view (Err e) new read = read ≡ Err e

abbrev pub integer_in : Spot → Result (List ℕ) Fault
integer_in s = contents_at Integer is_integer any s

abbrev pub oid_in : Spot → Result (List ℕ) Fault
oid_in s = contents_at Oid is_oid any s

abbrev pub boolean_in : Spot → Result (List ℕ) Fault
boolean_in s = contents_at Boolean is_boolean any s

abbrev pub bits_in : Spot → Result (List ℕ) Fault
bits_in s = contents_at Bits is_bits any s

-- an INTEGER of one octet, one of these
abbrev pub version_in : List ℕ → Spot → Result (List ℕ) Fault
version_in allowed s = contents_at Integer is_integer (is_of allowed) s

abbrev pub opaque_in : Spot → List ℕ → Result (Option (List ℕ) × Spot) Fault
opaque_in s [] = Ok (None, s)
opaque_in s (t ∷ xs) = next_at s >>= λ x. Ok (Some x.0.whole, x.1)

-- one more element of any kind, if there is one
unfoldable pub opaque_at : Spot → Result (Option (List ℕ) × Spot) Fault
opaque_at s = opaque_in s s.rest

-- readings one after the other to the end of the body; the first number is a bound on how many
unfoldable pub many_from : {A : Type 0} → (Spot → Result (A × Spot) Fault) → ℕ → Spot → Result (List A) Fault
many_from read zero s = Ok []
many_from read (suc k) s = if length s.rest == 0 then Ok []
    else (read s >>= λ x. many_from read k x.1 >>= λ xs. Ok (x.0 ∷ xs))

unfoldable pub many_in : {A : Type 0} → (Spot → Result (A × Spot) Fault) → Spot → Result (List A) Fault
many_in read s = many_from read (length s.rest) s

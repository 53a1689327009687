-- The element that is read is the one that is there, and an element that is there is read.
use Rattle.std.proofs.Common.{◌≡◌, ℕ, ◌+◌, ◌-◌, true, false, ltb, List, [], ◌∷◌, ◌++◌, length, take, drop, Result, Ok}
use Rattle.std.proofs.Common.{Err, refl, sym, ap, subst, ◌∙◌, arith}
use Rattle.std.proofs.Common.{inl, inr, append_assoc}
use Rattle.std.proofs.lemmas.Bool.{ltb-true, ltb-false, le-ltb}
use Rattle.std.proofs.lemmas.List.{take_at, drop_at, take-append-drop, length-take-le, length-append}
use Rattle.der_core.specs.declared.fault.Fault.{Fault}
use Rattle.der_core.specs.declared.fault.Kind.TheVariants.{End, HighTag, Overrun}
use Rattle.der_core.specs.Element.{is_tag, len, el, IsElement, IsBytes}
use Rattle.der_core.specs.Faults.{Place, IsDue, IsDemanded, Fact}
use Rattle.der_core.specs.Reading.{fault, Spot, spot, Taken, taken, before, length_at, body_at, element_in, next_at}
use Rattle.der_core.specs.Results.{◌>>=◌}
use Rattle.der_core.proofs.Results.{bind_ok, bind_err}
use Rattle.der_core.specs.Standing.{IsTaken}
use Rattle.der_core.proofs.ReadLengths.{IsBytes-tail, IsBytes-take, IsBytes-drop, chosen, ok_is, length_takes}
use Rattle.der_core.proofs.ReadLengths.{length_again}
use Rattle.der_core.proofs.Headers.{fails, err_is, fact_is, length_fault}

-- the value of a step that did not fail
pub IsBytes-part : (xs a b r : List ℕ) (t : ℕ) → xs ≡ t ∷ (a ++ b) ++ r → IsBytes xs → IsBytes b × IsBytes r
IsBytes-part xs a b r t e fits =
    let tail : IsBytes ((a ++ b) ++ r) = IsBytes-tail t ((a ++ b) ++ r) (subst IsBytes e fits) in
    let back : IsBytes r = subst IsBytes (drop_at (a ++ b) r (length (a ++ b)) refl)
    (IsBytes-drop (length (a ++ b)) ((a ++ b) ++ r) tail) in
    let front : IsBytes (a ++ b) = subst IsBytes (take_at (a ++ b) r (length (a ++ b)) refl)
    (IsBytes-take (length (a ++ b)) ((a ++ b) ++ r) tail) in
    (subst IsBytes (drop_at a b (length a) refl) (IsBytes-drop (length a) (a ++ b) front), back)

before_is : (xs a r : List ℕ) → xs ≡ a ++ r → before xs r ≡ a
before_is xs a r e = rw (e, length-append a r)
    (let k : length a + length r - length r ≡ length a = omega arith in rw k (take_at a r (length a) refl))

count_is : (xs a r : List ℕ) → xs ≡ a ++ r → length xs - length r ≡ length a
count_is xs a r e = omega (arith, ap length e, length-append a r)

abbrev Got : Type 0
Got = Result (Taken × Spot) Fault

abbrev got : Taken × Spot → Got
got y = Ok y

element_takes : (s : Spot) (xs : List ℕ) (y : Taken × Spot) → IsBytes xs → s.rest ≡ xs → element_in s xs ≡ Ok y
    → IsTaken s y.0 y.1
element_takes s [] y fits is e = absurd cc
element_takes s (t ∷ xs) y fits is e =
    let high : Got = Err (fault HighTag s.pos) in
    elim (chosen (is_tag t) (length_at (s.pos + 1) xs >>= body_at s t) high (got y) e) [
      | inr h ↦ absurd cc
      | inl h ↦
          let b = bind_ok (length_at (s.pos + 1) xs) (body_at s t) y h.1 in
          let l = b.0 in
          let over : Got = Err (fault Overrun s.pos) in
          elim (chosen (ltb (length l.1) l.0) over (got (taken s t (take l.0 l.1) (drop l.0 l.1))) (got y) b.2) [
            | inl g ↦ absurd cc
            | inr g ↦
                let k = length_takes (s.pos + 1) xs l.0 l.1 (IsBytes-tail t xs fits) b.1 in
                let body : List ℕ = take l.0 l.1 in
                let rest : List ℕ = drop l.0 l.1 in
                let size : length body ≡ l.0 = length-take-le l.0 l.1 (ltb-false _ _ g.0) in
                let joined : xs ≡ (len (length body) ++ body) ++ rest =
                k.0 ∙ ap (λ (ys : List ℕ). len l.0 ++ ys) (sym (take-append-drop l.0 l.1))
                ∙ sym (append_assoc (len l.0) body rest)
                ∙ ap (λ (m : ℕ). (len m ++ body) ++ rest) (sym size) in
                let parts : s.rest ≡ el t body ++ rest = is ∙ ap (λ (ys : List ℕ). t ∷ ys) joined in
                let count : length s.rest - length rest ≡ length (el t body) = count_is s.rest (el t body) rest parts in
                subst (λ (z : Taken × Spot). IsTaken s z.0 z.1) (ok_is (taken s t body rest) y g.1)
                (record {
                  element = record { identifier = h.0; size = rw size k.1 };
                  whole = before_is s.rest (el t body) rest parts;
                  parts = parts;
                  moved = ap (λ (m : ℕ). s.pos + m) count;
                  octets = (IsBytes-part s.rest (len (length body)) body rest t parts (subst IsBytes (sym is) fits)).0;
                })
          ]
    ]

pub next_takes : (s : Spot) (y : Taken × Spot) → IsBytes s.rest → next_at s ≡ Ok y → IsTaken s y.0 y.1
unfolding next_at
next_takes s y fits e = element_takes s s.rest y fits refl e

-- an element at the front is taken, whatever follows it
pub next_again : (n t : ℕ) (b r : List ℕ) → IsElement t b
    → next_at (spot n (el t b ++ r)) ≡ Ok (record { tag = t; body = b; whole = el t b }, spot (n + length (el t b)) r)
unfolding next_at
next_again n t b r h =
    let s : Spot = spot n (el t b ++ r) in
    let regrouped : (len (length b) ++ b) ++ r ≡ len (length b) ++ (b ++ r) = append_assoc (len (length b)) b r in
    let read : length_at (n + 1) ((len (length b) ++ b) ++ r) ≡ Ok (length b, b ++ r) =
    rw regrouped (length_again (n + 1) (length b) (b ++ r) h.size) in
    let enough : ltb (length (b ++ r)) (length b) ≡ false = le-ltb _ _ (omega (arith, length-append b r)) in
    let whole : before (el t b ++ r) r ≡ el t b = before_is (el t b ++ r) (el t b) r refl in
    let count : length (el t b ++ r) - length r ≡ length (el t b) = omega (arith, length-append (el t b) r) in
    let id : is_tag t ≡ true = h.identifier in
    let one : element_in s (t ∷ ((len (length b) ++ b) ++ r)) ≡ got (taken s t b r) =
    rw (id, read, enough, take_at b r (length b) refl, drop_at b r (length b) refl) refl in
    one ∙ rw (whole, count) refl

element_fault : (s : Spot) (xs : List ℕ) (f : Fault) (p : Place) → IsBytes xs → p.at ≡ s.pos → p.rest ≡ xs → IsDue p.due
    → (xs ≡ [] → IsDemanded p.due) → element_in s xs ≡ Err f → Fact f.kind p f.at
element_fault s [] f p fits at is due must e =
    fact_is p (fault End s.pos) f (err_is _ _ e) (inl (must refl, is, sym at))
element_fault s (t ∷ xs) f p fits at is due must e =
    let high : Got = Err (fault HighTag s.pos) in
    elim (chosen (is_tag t) (length_at (s.pos + 1) xs >>= body_at s t) high (fails f) e) [
      | inr h ↦ fact_is p (fault HighTag s.pos) f (err_is _ _ h.1) (t, xs, (due, is), h.0, sym at)
      | inl h ↦ elim (bind_err (length_at (s.pos + 1) xs) (body_at s t) f h.1) [
        | inl b ↦ length_fault p t due h.0 xs f is (rw at b)
        | inr b ↦
            let l = b.0 in
            let over : Got = Err (fault Overrun s.pos) in
            elim (chosen (ltb (length l.1) l.0) over (got (taken s t (take l.0 l.1) (drop l.0 l.1))) (fails f) b.2) [
              | inl g ↦
                  let k = length_takes (s.pos + 1) xs l.0 l.1 (IsBytes-tail t xs fits) b.1 in
                  fact_is p (fault Overrun s.pos) f (err_is _ _ g.1)
                  (t, l.0, l.1, ((due, is ∙ ap (λ (ys : List ℕ). t ∷ ys) k.0), h.0), ltb-true _ _ g.0, k.1, sym at)
              | inr g ↦ absurd cc
            ]
      ]
    ]

-- a fault found in reading an element is a fact at each place with these octets
pub next_fault : (s : Spot) (f : Fault) (p : Place) → IsBytes s.rest → p.at ≡ s.pos → p.rest ≡ s.rest → IsDue p.due
    → (s.rest ≡ [] → IsDemanded p.due)
    → next_at s ≡ Err f → Fact f.kind p f.at
unfolding next_at
next_fault s f p fits at is due must e = element_fault s s.rest f p fits at is due must e

-- the octets after a length, and after some of those
pub length_bytes : (n l : ℕ) (r all : List ℕ) (m k : ℕ) → IsBytes all → length_at n (take m (drop 1 all)) ≡ Ok (l, r)
    → IsBytes (drop k r)
length_bytes n l r all m k fits e =
    let xs : List ℕ = take m (drop 1 all) in
    let tail : IsBytes xs = IsBytes-take m (drop 1 all) (IsBytes-drop 1 all fits) in
    let parts = (length_takes n xs l r tail e).0 in
    IsBytes-drop k r (subst IsBytes (drop_at (len l) r (length (len l)) refl)
    (IsBytes-drop (length (len l)) (len l ++ r) (subst IsBytes parts tail)))

-- Elements in ascending order, read from the left.
use Rattle.std.proofs.Common.{◌≡◌, ◌≢◌, ℕ, ◌+◌, false, List, [], ◌∷◌, ◌++◌, length, refl, sym, ap, subst, ◌∙◌}
use Rattle.std.proofs.Common.{append_assoc}
use Rattle.std.proofs.lemmas.List.{append-nil, length-append}
use Rattle.der_core.specs.Element.{el, IsElement}
use Rattle.der_core.specs.Form.{Element, whole, last_of}
use Rattle.der_core.specs.Lists.{is_less}
use Rattle.der_core.specs.Reading.{Spot, Taken}
use Rattle.der_core.specs.Standing.{IsTaken}
use Rattle.der_core.specs.SetOrder.{encodings, Ascends}

-- elements in ascending order were passed, the last of them with these octets, and the spot is after them
abbrev pub Passed : List ℕ → Spot → List ℕ → Type 0
Passed body s last = (es : List Element) × Ascends es × (body ≡ encodings es ++ s.rest)
    × (s.pos ≡ length (encodings es)) × (last_of es ≡ last)

-- the first isn't less
abbrev pub StartsFrom : List ℕ → List Element → Type 0
StartsFrom last [] = Unit {0}
StartsFrom last (e ∷ es) = is_less (whole e) last ≡ false

-- the octets are elements in ascending order, the first of them not less than the last one that was passed
abbrev pub Follows : List ℕ → List ℕ → Type 0
Follows last rest = (es : List Element) × (rest ≡ encodings es) × Ascends es × StartsFrom last es

encodings_snoc : (es : List Element) (e : Element) → encodings (es ++ e ∷ []) ≡ encodings es ++ whole e
encodings_snoc [] e = append-nil (whole e)
encodings_snoc (d ∷ es) e =
    ap (λ (xs : List ℕ). whole d ++ xs) (encodings_snoc es e) ∙ sym (append_assoc (whole d) (encodings es) (whole e))

last_snoc : (es : List Element) (e : Element) → last_of (es ++ e ∷ []) ≡ whole e
last_snoc [] e = refl
last_snoc (d ∷ []) e = refl
last_snoc (d ∷ c ∷ es) e = last_snoc (c ∷ es) e

ascends_snoc : (es : List Element) (e : Element) → Ascends es → IsElement e.0 e.1
    → is_less (whole e) (last_of es) ≡ false → Ascends (es ++ e ∷ [])
ascends_snoc [] e a h l = h
ascends_snoc (d ∷ []) e a h l = (a, l, h)
ascends_snoc (d ∷ c ∷ es) e a h l = (a.0, a.1, ascends_snoc (c ∷ es) e a.2 h l)

-- one more element is passed
pub passes : (body : List ℕ) (s s' : Spot) (last : List ℕ) (x : Taken) → Passed body s last → IsTaken s x s'
    → is_less x.whole last ≡ false
    → Passed body s' x.whole
passes body s s' last x p is more =
    let es : List Element = p.0 in
    let e : Element = (x.tag, x.body) in
    let not-less : is_less (whole e) (last_of es) ≡ false =
    subst (λ (v : List ℕ). is_less (whole e) v ≡ false) (sym p.4)
    (subst (λ (v : List ℕ). is_less v last ≡ false) is.whole more) in
    let body-is : body ≡ encodings (es ++ e ∷ []) ++ s'.rest =
    p.2 ∙ ap (λ (xs : List ℕ). encodings es ++ xs) is.parts ∙ sym (append_assoc (encodings es) (whole e) s'.rest)
    ∙ ap (λ (xs : List ℕ). xs ++ s'.rest)
    (sym (encodings_snoc es e)) in
    let pos-is : s'.pos ≡ length (encodings (es ++ e ∷ [])) =
    is.moved ∙ ap (λ (n : ℕ). n + length (whole e)) p.3 ∙ sym (length-append (encodings es) (whole e))
    ∙ ap length (sym (encodings_snoc es e)) in
    (es ++ e ∷ [], ascends_snoc es e p.1 is.element not-less, body-is, pos-is, last_snoc es e ∙ sym is.whole)

-- what follows begins with an element that isn't less, and the others follow that one
first_of : (last rest : List ℕ) → Follows last rest → rest ≢ []
    → (e : Element) × (es : List Element) × IsElement e.0 e.1 × (rest ≡ whole e ++ encodings es)
    × Follows (whole e) (encodings es)
first_of last rest ([], is, a, l) some = absurd (some is)
first_of last rest (e ∷ [], is, a, l) some = (e, [], a, is, ([], refl, tt, tt))
first_of last rest (e ∷ d ∷ es, is, a, l) some = (e, d ∷ es, a.0, is, (d ∷ es, refl, a.2, a.1))

-- the other elements follow the one that is taken
pub goes_on : (last rest : List ℕ) (t : ℕ) (b w r : List ℕ) → Follows last rest → rest ≢ [] → w ≡ el t b
    → ((t' : ℕ) (b' r' : List ℕ) → IsElement t' b' → rest ≡ el t' b' ++ r' → (t ≡ t') × (b ≡ b') × (r ≡ r'))
    → Follows w r
goes_on last rest t b w r f some is only =
    let x = first_of last rest f some in
    let o = only x.0.0 x.0.1 (encodings x.1) x.2 x.3 in
    let w-is : w ≡ whole x.0 = is ∙ ap (λ (u : ℕ). el u b) o.0 ∙ ap (λ (ys : List ℕ). el x.0.0 ys) o.1 in
    subst (λ (v : List ℕ). Follows v r) (sym w-is) (subst (λ (ys : List ℕ). Follows (whole x.0) ys) (sym o.2) x.4)

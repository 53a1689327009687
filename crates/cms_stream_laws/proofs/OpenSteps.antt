-- Open places of a body: a header that stands leads to the contents, an element that stands whole leads behind it, and
-- a fault of the header is a fact of the octets that stand.
use Rattle.std.proofs.Common.{◌≡◌, ℕ, ◌+◌, ◌-◌, ◌<◌, ◌≤◌, ◌^◌, Bool, true, false, not, ◌&&◌, cond, ltb, eqb, List, []}
use Rattle.std.proofs.Common.{◌∷◌, ◌++◌, length, take, drop, Option}
use Rattle.std.proofs.Common.{Some, Result, Ok, Err, refl, sym, ap, subst, ◌∙◌, arith, inl, inr, ◌⊎◌, append_assoc}
use Rattle.std.proofs.lemmas.Bool.{ltb-true, eqb-true, not-false}
use Rattle.std.proofs.lemmas.List.{length-take, length-take-le, length-append, drop_at, take-append-drop, append-nil}
use Rattle.der_core.specs.declared.fault.Fault.{Fault}
use Rattle.der_core.specs.declared.fault.Kind.{Kind}
use Rattle.der_core.specs.declared.fault.Kind.TheVariants.{End, HighTag, Overrun, Tag}
use Rattle.der_core.specs.Element.{is_tag, len, el, IsElement, IsBytes}
use Rattle.der_core.specs.Form.{Form, opaque, contents, full, part, opaques, switch, filled, takes, inside_of, behind}
use Rattle.der_core.specs.Form.{Element, passed_by}
use Rattle.der_core.specs.Form.{body_of as form_of}
use Rattle.der_core.specs.Faults.{Place, place, IsDue, IsDemanded, Fact, Reaches, FaultFrom}
use Rattle.der_core.specs.Faults as closely
use Rattle.der_core.specs.OpenFaults.{OpenPlace, open_place, ReachesOpenly, stays, passes, enters, drops, OpenFactIn}
use Rattle.der_core.specs.OpenFaults.{OpenFact, whole_length, States}
use Rattle.der_core.specs.Reading.{fault, length_at, is_other}
use Rattle.der_core.specs.Results.{◌>>=◌}
use Rattle.der_core.proofs.ReadLengths.{chosen, ok_is, IsBytes-tail, IsBytes-take, IsBytes-drop, length_takes}
use Rattle.der_core.proofs.Headers.{fails, err_is, fact_is, length_fault}
use Rattle.der_core.proofs.Results.{bind_err}
use Rattle.cms_stream_laws.specs.OpenReading.{OpenSpot, open_spot, body_of, is_short, ahead, lost, is_end, judged}
use Rattle.cms_stream_laws.specs.OpenReading.{length_in, heading, entered, next_openly}
use Rattle.cms_stream_laws.specs.OpenReading.{enter_openly, IsMet}
use Rattle.cms_stream_laws.proofs.OpenReaders.{take_body, drop_body}
use Rattle.cms_stream_laws.proofs.OpenLaws.{judged_ok, states}

-- the open place at which a body stands
abbrev pub standing : OpenSpot → Form → List Element → OpenPlace
standing w due ps = open_place w.pos (body_of w) (Some w.left) due ps

-- a fault that an input has openly from a place on
abbrev pub FaultOpenly : OpenPlace → Fault → Type 0
FaultOpenly p f = (q : OpenPlace) × ReachesOpenly p q × OpenFact f.kind q f.at

-- a fault that a body has openly, or the one that says that octets of it are missing
abbrev pub Shown : OpenSpot → Form → List Element → Fault → Type 0
Shown w due ps f = (f ≡ lost) ⊎ FaultOpenly (standing w due ps) f

-- ---- what is said of parts is said of the octets that stand

pub due_fact : (k : Kind) (n m : ℕ) (s : List ℕ) (left : Option ℕ) (due : Form) (ps : List Element) → IsDue due
    → Fact k (place n s due ps) m
    → OpenFactIn due k (open_place n s left due ps) m
due_fact k n m s left opaque ps d h = absurd d
due_fact k n m s left (contents k' formed allowed) ps d h = absurd d
due_fact k n m s left full ps d h = absurd d
due_fact k n m s left (part count tags inside after) ps d h = h
due_fact k n m s left (opaques count after) ps d h = h
due_fact k n m s left (switch tag inside these same other) ps d h = h
due_fact k n m s left (filled form) ps d h = absurd d

-- ---- a place of a body that stands whole is an open place

no_more : (s more : List ℕ) → length s + length more ≡ length s → s ++ more ≡ s
no_more s [] e = append-nil s
no_more s (x ∷ more) e = absurd (omega (arith, e))

of_contents : (k k' : Kind) (formed allowed : List ℕ → Bool) (n m : ℕ) (s : List ℕ) (ps : List Element)
    → Fact k (place n s (contents k' formed allowed) ps) m
    → OpenFactIn (contents k' formed allowed) k (open_place n s (Some (length s)) (contents k' formed allowed) ps) m
of_contents k k' formed allowed n m s ps h more c =
    subst (λ (xs : List ℕ). Fact k (place n xs (contents k' formed allowed) ps) m) (sym (no_more s more c)) h

whole_fact : (k : Kind) (n m : ℕ) (s : List ℕ) (due : Form) (ps : List Element) → Fact k (place n s due ps) m
    → OpenFactIn due k (open_place n s (Some (length s)) due ps) m
whole_fact k n m s (contents k' formed allowed) ps h = of_contents k k' formed allowed n m s ps h
whole_fact k n m s opaque ps h = h
whole_fact k n m s full ps h = h
whole_fact k n m s (part count tags inside after) ps h = h
whole_fact k n m s (opaques count after) ps h = h
whole_fact k n m s (switch tag inside these same other) ps h = h
whole_fact k n m s (filled form) ps h = h

-- such a place, opened
abbrev opened : Place → OpenPlace
opened p = open_place p.at p.rest (Some (length p.rest)) p.due p.passed

reaches_openly : (p q : Place) → Reaches p q → ReachesOpenly (opened p) (opened q)
reaches_openly p q closely.stays = stays
reaches_openly p q (closely.passes {n} {due} {ps} t b r is took h) =
    let count : length (el t b ++ r) - length (el t b) ≡ length r = omega (arith, length-append (el t b) r) in
    passes t b r is took (subst (λ (k : ℕ).
    ReachesOpenly (open_place (n + length (el t b)) r (Some k) (behind due b) (passed_by due ps (t, b))) (opened q))
    (sym count) (reaches_openly _ q h))
reaches_openly p q (closely.enters {n} {due} {ps} t b r is took h) =
    let spelled : el t b ++ r ≡ t ∷ (len (length b) ++ (b ++ r)) =
    ap (λ (ys : List ℕ). t ∷ ys) (append_assoc (len (length b)) b r) in
    let fits : 1 + length (len (length b)) + length b ≤ length (el t b ++ r) =
    omega (arith, length-append (el t b) r, length-append (len (length b)) b) in
    let body : take (length b) (b ++ r) ≡ b = take_front b r in
    let inner : ReachesOpenly (open_place (n + (1 + length (len (length b)))) (take (length b) (b ++ r))
    (Some (length b)) (form_of (inside_of due t)) [])
    (opened q) =
    subst (λ (ys : List ℕ). ReachesOpenly
    (open_place (n + (1 + length (len (length b)))) ys (Some (length b)) (form_of (inside_of due t)) []) (opened q))
    (sym body) (reaches_openly _ q h) in
    subst (λ (xs : List ℕ). ReachesOpenly (open_place n xs (Some (length (el t b ++ r))) due ps) (opened q))
    (sym spelled)
    (enters t (length b) (b ++ r) is.identifier is.size took fits inner)
  where
    take_front : (xs ys : List ℕ) → take (length xs) (xs ++ ys) ≡ xs
    take_front [] ys = refl
    take_front (x ∷ xs) ys = ap (λ (zs : List ℕ). x ∷ zs) (take_front xs ys)
reaches_openly p q (closely.drops may none h) = drops may none (reaches_openly _ q h)

pub whole_openly_at : (n left : ℕ) (s : List ℕ) (due : Form) (ps : List Element) (f : Fault) → length s ≡ left
    → FaultFrom (place n s due ps) f
    → FaultOpenly (open_place n s (Some left) due ps) f
whole_openly_at n left s due ps f size h =
    subst (λ (k : ℕ). FaultOpenly (open_place n s (Some k) due ps) f) size (
      opened h.0,
      reaches_openly (place n s due ps) h.0 h.1,
      whole_fact f.kind h.0.at f.at h.0.rest h.0.due h.0.passed h.2,
    )

-- ---- the header of an element

-- a header stands at the front
pub record Headed (xs : List ℕ) (l : ℕ) : Type 0 where
  pub tag : ℕ
  pub beyond : List ℕ
  pub spelled : xs ≡ tag ∷ (len l ++ beyond)
  pub identifier : is_tag tag ≡ true
  pub fits : l < 2 ^ 32

pub headed : (w : OpenSpot) (xs : List ℕ) (l : ℕ) → IsBytes xs → length_in w xs ≡ Ok l → Headed xs l
headed w [] l fits e = absurd cc
headed w (t ∷ ys) l fits e = by_identifier (is_tag t) refl e
  where
    by_length : is_tag t ≡ true → (read : Result (ℕ × List ℕ) Fault) → length_at (w.pos + 1) ys ≡ read
        → (read >>= λ k. Ok k.0) ≡ Ok l → Headed (t ∷ ys) l
    by_length id (Err f) is h = absurd cc
    by_length id (Ok k) is h =
        let p = length_takes (w.pos + 1) ys k.0 k.1 (IsBytes-tail t ys fits) is in
        let l-is : k.0 ≡ l = ok_is k.0 l h in
        subst (Headed (t ∷ ys)) l-is
        (record { tag = t; beyond = k.1; spelled = ap (λ (zs : List ℕ). t ∷ zs) p.0; identifier = id; fits = p.1 })

    by_identifier : (b : Bool) → is_tag t ≡ b
        → cond b (length_at (w.pos + 1) ys >>= λ k. Ok k.0) (Err (fault HighTag w.pos)) ≡ Ok l → Headed (t ∷ ys) l
    by_identifier true id h = by_length id (length_at (w.pos + 1) ys) refl h
    by_identifier false id h = absurd cc

-- the header stands, and states that the contents end by the stated end
pub record EntersOpenly (tag : ℕ) (w : OpenSpot) (x : OpenSpot × OpenSpot) : Type 0 where
  pub size : ℕ
  pub beyond : List ℕ
  pub spelled : body_of w ≡ tag ∷ (len size ++ beyond)
  pub identifier : is_tag tag ≡ true
  pub fits : size < 2 ^ 32
  pub inside : heading size + size ≤ w.left
  pub contents : x.0 ≡ open_spot size (w.pos + heading size) (drop (heading size) w.rest)
  pub behind : x.1 ≡ ahead (heading size + size) w

abbrev Both : Type 0
Both = Result (OpenSpot × OpenSpot) Fault

pub front_is : (tag t : ℕ) (xs : List ℕ) → is_tag t ≡ true → is_other tag (t ∷ xs) ≡ false → t ≡ tag
front_is tag t xs id h =
    let e : not (eqb t tag) ≡ false = sym (ap (λ (v : Bool). v && not (eqb t tag)) id) ∙ h in
    eqb-true t tag (not-false (eqb t tag) e)

pub next_enters : (w : OpenSpot) (x : OpenSpot × OpenSpot) → IsBytes w.rest → next_openly w ≡ Ok x
    → (tag : ℕ) × EntersOpenly tag w x
next_enters w x fits e =
    let s = states w x e in
    let k = headed w (body_of w) s.size (IsBytes-take w.left w.rest fits) s.stated in (
      k.tag,
      record {
        size = s.size;
        beyond = k.beyond;
        spelled = k.spelled;
        identifier = k.identifier;
        fits = k.fits;
        inside = s.inside;
        contents = s.contents;
        behind = s.behind;
      },
    )

pub enters_openly : (tag : ℕ) (w : OpenSpot) (x : OpenSpot × OpenSpot) → IsBytes w.rest → enter_openly tag w ≡ Ok x
    → EntersOpenly tag w x
unfolding enter_openly
enters_openly tag w x fits e =
    let other : Both = Err (fault Tag w.pos) in
    elim (chosen (is_other tag (body_of w)) other (next_openly w) (Ok x) e) [
      | inl h ↦ absurd cc
      | inr h ↦
          let n = next_enters w x fits h.1 in
          let t-is : n.0 ≡ tag = front_is tag n.0 (len n.1.size ++ n.1.beyond) n.1.identifier
          (subst (λ (xs : List ℕ). is_other tag xs ≡ false) n.1.spelled h.0) in
          subst (λ (t : ℕ). EntersOpenly t w x) t-is n.1
    ]

pub bytes_within : (tag : ℕ) (w : OpenSpot) (x : OpenSpot × OpenSpot) → EntersOpenly tag w x → IsBytes w.rest
    → IsBytes x.0.rest
bytes_within tag w x k fits =
    subst (λ (v : OpenSpot). IsBytes v.rest) (sym k.contents) (IsBytes-drop (heading k.size) w.rest fits)

-- the octets of the contents that stand
beyond_is : (tag : ℕ) (w : OpenSpot) (x : OpenSpot × OpenSpot) (k : EntersOpenly tag w x)
    → body_of x.0 ≡ take k.size k.beyond
beyond_is tag w x k =
    let l : ℕ = k.size in
    ap body_of k.contents ∙ sym (take_body (heading l) l w.left w.rest k.inside)
    ∙ ap (λ (zs : List ℕ). take l (drop (heading l) zs)) k.spelled
    ∙ ap (take l) (drop_at (tag ∷ len l) k.beyond (heading l) (omega arith))

-- ---- what is reached from the contents and from behind is reached from the front

pub inside_reached : (due : Form) (tag : ℕ) (w : OpenSpot) (x : OpenSpot × OpenSpot) (ps : List Element) (q : OpenPlace)
    → takes due tag ≡ true
    → EntersOpenly tag w x
    → ReachesOpenly (standing x.0 (form_of (inside_of due tag)) []) q → ReachesOpenly (standing w due ps) q
inside_reached due tag w x ps q took k h =
    let l : ℕ = k.size in
    let inner : Form = form_of (inside_of due tag) in
    let left-is : x.0.left ≡ l = ap (λ (v : OpenSpot). v.left) k.contents in
    let pos-is : x.0.pos ≡ w.pos + heading l = ap (λ (v : OpenSpot). v.pos) k.contents in
    let a : ReachesOpenly (open_place x.0.pos (take l k.beyond) (Some x.0.left) inner []) q = subst
    (λ (ys : List ℕ). ReachesOpenly (open_place x.0.pos ys (Some x.0.left) inner []) q) (beyond_is tag w x k) h in
    let b : ReachesOpenly (open_place x.0.pos (take l k.beyond) (Some l) inner []) q = subst
    (λ (m : ℕ). ReachesOpenly (open_place x.0.pos (take l k.beyond) (Some m) inner []) q) left-is a in
    let c : ReachesOpenly (open_place (w.pos + heading l) (take l k.beyond) (Some l) inner []) q = subst
    (λ (m : ℕ). ReachesOpenly (open_place m (take l k.beyond) (Some l) inner []) q) pos-is b in
    subst (λ (xs : List ℕ). ReachesOpenly (open_place w.pos xs (Some w.left) due ps) q) (sym k.spelled)
    (enters {q = q} tag l k.beyond k.identifier k.fits took k.inside c)

pub behind_reached : (due : Form) (tag : ℕ) (w : OpenSpot) (x : OpenSpot × OpenSpot) (ps : List Element) (q : OpenPlace)
    → takes due tag ≡ true
    → EntersOpenly tag w x → IsMet x.0
    → ReachesOpenly (standing x.1 (behind due (body_of x.0)) (passed_by due ps (tag, body_of x.0))) q
    → ReachesOpenly (standing w due ps) q
behind_reached due tag w x ps q took k met h =
    let l : ℕ = k.size in
    let b : List ℕ = take l k.beyond in
    let r : List ℕ = drop l k.beyond in
    let left-is : x.0.left ≡ l = ap (λ (v : OpenSpot). v.left) k.contents in
    let size : length b ≡ l = ap length (sym (beyond_is tag w x k)) ∙ length-take-le x.0.left x.0.rest met ∙ left-is in
    let count : length (el tag b)
    ≡ heading l + l = let a = length-append (len (length b)) b in let c = ap (λ (m : ℕ). length (len m) + m) size in
    omega (arith, a, c) in
    let parts : el tag b ++ r ≡ tag ∷ (len l ++ k.beyond) =
    ap (λ (ys : List ℕ). tag ∷ ys)
    (append_assoc (len (length b)) b r ∙ ap (λ (m : ℕ). len m ++ (b ++ r)) size
    ∙ ap (λ (ys : List ℕ). len l ++ ys) (take-append-drop l k.beyond)) in
    let rest-is : take (w.left - (heading l + l)) (drop (heading l + l) w.rest) ≡ r =
    sym (drop_body (heading l + l) w.left w.rest k.inside) ∙ ap (drop (heading l + l)) (k.spelled ∙ sym parts)
    ∙ drop_at (el tag b) r (heading l + l) count in
    let due' : Form = behind due b in
    let ps' : List Element = passed_by due ps (tag, b) in
    let a1 : ReachesOpenly (standing x.1 due' ps') q =
    subst (λ (ys : List ℕ). ReachesOpenly (standing x.1 (behind due ys) (passed_by due ps (tag, ys))) q)
    (beyond_is tag w x k) h in
    let a2 : ReachesOpenly (standing (ahead (heading l + l) w) due' ps') q =
    subst (λ (v : OpenSpot). ReachesOpenly (standing v due' ps') q) k.behind a1 in
    let a3 : ReachesOpenly (open_place (w.pos + (heading l + l)) r (Some (w.left - (heading l + l))) due' ps') q = subst
    (λ (ys : List ℕ). ReachesOpenly
    (open_place (w.pos + (heading l + l)) ys (Some (w.left - (heading l + l))) due' ps') q) rest-is a2 in
    let a4 : ReachesOpenly (open_place (w.pos + length (el tag b)) r (Some (w.left - length (el tag b))) due' ps') q =
    subst
    (λ (m : ℕ). ReachesOpenly (open_place (w.pos + m) r (Some (w.left - m)) due' ps') q) (sym count) a3 in
    let is : IsElement tag b =
    record { identifier = k.identifier; size = subst (λ (m : ℕ). m < 2 ^ 32) (sym size) k.fits } in
    subst (λ (xs : List ℕ). ReachesOpenly (open_place w.pos xs (Some w.left) due ps) q) (parts ∙ sym k.spelled)
    (passes {q = q} tag b r is took a4)

-- what is shown from there is shown from here
pub shown_back : (v w : OpenSpot) (due due' : Form) (ps ps' : List Element) (f : Fault)
    → ((q : OpenPlace) → ReachesOpenly (standing v due ps) q → ReachesOpenly (standing w due' ps') q) → Shown v due ps f
    → Shown w due' ps' f
shown_back v w due due' ps ps' f back (inl is) = inl is
shown_back v w due due' ps ps' f back (inr h) = inr (h.0, back h.0 h.1, h.2)

-- that the header here states so many octets
pub states_here : (due : Form) (tag : ℕ) (w : OpenSpot) (x : OpenSpot × OpenSpot) (ps : List Element)
    → takes due tag ≡ true → EntersOpenly tag w x
    → States (standing w due ps) (whole_length x.0.left)
states_here due tag w x ps took k = (
  tag,
  k.size,
  k.beyond,
  k.spelled,
  k.identifier,
  k.fits,
  took,
  ap (λ (v : OpenSpot). whole_length v.left) k.contents,
)

-- ---- a fault of the header

judged_err : {A : Type 0} (w : OpenSpot) (r : Result A Fault) (f : Fault) → judged w r ≡ fails f
    → (f ≡ lost) ⊎ (r ≡ fails f)
judged_err {A} w (Ok y) f e = absurd cc
judged_err {A} w (Err g) f e = by_short (is_short w) e
  where
    by_end : (b : Bool) → cond b (fails lost) (fails g) ≡ fails {A = A} f → (f ≡ lost) ⊎ (fails {A = A} g ≡ fails f)
    by_end true h = inl (sym (err_is {A = A} lost f h))
    by_end false h = inr h

    by_short : (b : Bool) → cond b (cond (is_end g.kind) (fails lost) (fails g)) (fails g) ≡ fails {A = A} f
        → (f ≡ lost) ⊎ (fails {A = A} g ≡ fails f)
    by_short true h = by_end (is_end g.kind) h
    by_short false h = inr h

size_fault : (w : OpenSpot) (xs : List ℕ) (f : Fault) (p : Place) → p.at ≡ w.pos → p.rest ≡ xs → IsDue p.due
    → (xs ≡ [] → IsDemanded p.due)
    → length_in w xs ≡ Err f → Fact f.kind p f.at
size_fault w [] f p at is due must e = fact_is p (fault End w.pos) f (err_is _ _ e) (inl (must refl, is, sym at))
size_fault w (t ∷ xs) f p at is due must e =
    let high : Result ℕ Fault = Err (fault HighTag w.pos) in
    elim (chosen (is_tag t) (length_at (w.pos + 1) xs >>= λ l. Ok l.0) high (fails f) e) [
      | inr h ↦ fact_is p (fault HighTag w.pos) f (err_is _ _ h.1) (t, xs, (due, is), h.0, sym at)
      | inl h ↦ elim (bind_err (length_at (w.pos + 1) xs) (λ l. Ok l.0) f h.1) [
        | inl b ↦ length_fault p t due h.0 xs f is (rw at b)
        | inr b ↦ absurd (let z = b.2 in cc)
      ]
    ]

-- a fact here is shown
pub shown_here : (w : OpenSpot) (due : Form) (ps : List Element) (f : Fault) → IsDue due
    → Fact f.kind (place w.pos (body_of w) due ps) f.at → Shown w due ps f
shown_here w due ps f d h =
    inr (standing w due ps, stays, due_fact f.kind w.pos f.at (body_of w) (Some w.left) due ps d h)

pub next_shown : (due : Form) (w : OpenSpot) (ps : List Element) (f : Fault) → IsBytes w.rest → IsDue due
    → (body_of w ≡ [] → IsDemanded due)
    → next_openly w ≡ Err f → Shown w due ps f
next_shown due w ps f fits d must e =
    let p : Place = place w.pos (body_of w) due ps in
    elim (bind_err (judged w (length_in w (body_of w))) (entered w) f e) [
      | inl b ↦ elim (judged_err w (length_in w (body_of w)) f b) [
        | inl is ↦ inl is
        | inr c ↦ shown_here w due ps f d (size_fault w (body_of w) f p refl refl d must c)
      ]
      | inr b ↦
          let l : ℕ = b.0 in
          let k = headed w (body_of w) l (IsBytes-take w.left w.rest fits) (judged_ok w _ l b.1) in
          let over : Both = Err (fault Overrun w.pos) in
          let good : Both = Ok (open_spot l (w.pos + heading l) (drop (heading l) w.rest), ahead (heading l + l) w) in
          elim (chosen (ltb w.left (heading l + l)) over good (fails f) b.2) [
            | inl g ↦
                let far = ltb-true w.left (heading l + l) g.0 in
                let shorter : length k.beyond < l = omega
                (arith, far, length-take w.left w.rest, ap length k.spelled, length-append (len l) k.beyond) in
                shown_here w due ps f d
                (fact_is p (fault Overrun w.pos) f (err_is _ _ g.1)
                (k.tag, l, k.beyond, ((d, k.spelled), k.identifier), shorter, k.fits, refl))
            | inr g ↦ absurd cc
          ]
    ]

pub entering_shown : (due : Form) (tag : ℕ) (w : OpenSpot) (ps : List Element) (f : Fault) → IsBytes w.rest → IsDue due
    → (is_other tag (body_of w) ≡ true → Fact Tag (place w.pos (body_of w) due ps) w.pos)
    → (body_of w ≡ [] → IsDemanded due)
    → enter_openly tag w ≡ Err f → Shown w due ps f
unfolding enter_openly
entering_shown due tag w ps f fits d refused must e =
    let p : Place = place w.pos (body_of w) due ps in
    let other : Both = Err (fault Tag w.pos) in
    elim (chosen (is_other tag (body_of w)) other (next_openly w) (fails f) e) [
      | inl h ↦ shown_here w due ps f d (fact_is p (fault Tag w.pos) f (err_is _ _ h.1) (refused h.0))
      | inr h ↦ next_shown due w ps f fits d must h.1
    ]

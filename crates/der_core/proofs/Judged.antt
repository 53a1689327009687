-- Each input is an encoding or has a fault.
use Rattle.std.proofs.Common.{◌≡◌, ◌≢◌, ℕ, zero, suc, ◌+◌, ◌<◌, ◌^◌, List, [], ◌∷◌, ◌++◌, length, take, drop, Bool}
use Rattle.std.proofs.Common.{true, false, cond, ◌&&◌, refl, sym, ap}
use Rattle.std.proofs.Common.{subst, ◌∙◌, append_assoc, arith, inl, inr, Result, Ok, Err}
use Rattle.std.specs.Prelude.{◌⊎◌}
use Rattle.std.proofs.lemmas.Bool.{cases_lt}
use Rattle.std.proofs.lemmas.List.{length-append, drop_at, take-append-drop, length-take-le, length-drop}
use Rattle.der_core.specs.declared.fault.Fault.{Fault}
use Rattle.der_core.specs.declared.fault.Kind.{Kind}
use Rattle.der_core.specs.declared.fault.Kind.TheVariants as kind
use Rattle.der_core.specs.Element.{is_tag, len, el, IsElement, IsBytes}
use Rattle.der_core.specs.Form.{Form, opaque, contents, full, part, opaques, switch, filled, is_list, takes, inside_of}
use Rattle.der_core.specs.Form.{behind, may_drop, dropped, may_stand}
use Rattle.der_core.specs.Form.{body_of, is_filled, Element, passed_by, is_early, is_second}
use Rattle.der_core.specs.Lists.{is_same}
use Rattle.der_core.specs.Encoding.{Encodes, anything, held, ended, next, absent, has, IsEncoding}
use Rattle.der_core.specs.Faults.{Place, place, StandsNot, Reaches, stays, passes, enters, drops, IsDue, Fact}
use Rattle.der_core.specs.Faults.{FaultFrom, Faults}
use Rattle.der_core.specs.Clear.{are_parts, is_of_contents, clear}
use Rattle.der_core.proofs.Refuted.{and_true, cases, never, is_clear, clear_after, clear_behind, clear_inside}
use Rattle.der_core.proofs.Refuted.{clear_body}
use Rattle.der_core.specs.Reading.{length_at}
use Rattle.der_core.proofs.ReadLengths.{length_takes, IsBytes-drop, IsBytes-take, IsBytes-tail}
use Rattle.der_core.proofs.Headers.{length_fault}

abbrev pub fault : Kind → ℕ → Fault
fault k n = record { kind = k; at = n }

-- it is an encoding from here on, or has a fault from here on
abbrev pub Judged : ℕ → List ℕ → Form → List Element → Type 0
Judged n s due ps = Encodes ps due s ⊎ ((f : Fault) × FaultFrom (place n s due ps) f)

pub record Fit (due : Form) : Type 0 where
  pub clearly : clear due ≡ true
  pub plain : is_filled due ≡ false

parts_plain : (f : Form) → are_parts f ≡ true → is_filled f ≡ false
parts_plain (filled f) e = absurd cc
parts_plain opaque e = refl
parts_plain (contents k formed allowed) e = refl
parts_plain full e = refl
parts_plain (part count tags inside after) e = refl
parts_plain (opaques count after) e = refl
parts_plain (switch tag inside these same other) e = refl

fit_dropped : (f : Form) → Fit f → Fit (dropped f)
fit_dropped f h =
    record { clearly = clear_after f h.clearly; plain = parts_plain (dropped f) (is_clear f h.clearly).parts }

switched : (tag : ℕ) (inside : Form) (these : List ℕ) (same other : Form) (b : List ℕ)
    → clear (switch tag inside these same other) ≡ true
    → are_parts (behind (switch tag inside these same other) b) ≡ true
switched tag inside these same other b e =
    let p = and_true (clear inside && (clear same && clear other)) (are_parts same && are_parts other) e in
    let q = and_true (are_parts same) (are_parts other) p.1 in
    elim (is_same these b) as (λ l. are_parts (cond l same other) ≡ true) [ true ↦ q.0 | false ↦ q.1 ]

behind_parts : (f : Form) (b : List ℕ) → clear f ≡ true → are_parts (behind f b) ≡ true
behind_parts (part count tags inside after) b e =
    let k = (is_clear (part count tags inside after) e).parts in
    elim (is_list count) as
    (λ l. are_parts (cond l (part count tags inside after) after) ≡ true) [ true ↦ refl | false ↦ k ]
behind_parts (opaques count after) b e =
    let k = (is_clear (opaques count after) e).parts in
    elim (is_list count) as (λ l. are_parts (cond l (opaques count after) after) ≡ true) [ true ↦ refl | false ↦ k ]
behind_parts (switch tag inside these same other) b e = switched tag inside these same other b e
behind_parts opaque b e = refl
behind_parts (contents k formed allowed) b e = refl
behind_parts full b e = refl
behind_parts (filled f) b e = refl

fit_behind : (f : Form) (b : List ℕ) → Fit f → Fit (behind f b)
fit_behind f b h =
    record { clearly = clear_behind f b h.clearly; plain = parts_plain (behind f b) (behind_parts f b h.clearly) }

body_plain : (f : Form) → clear f ≡ true → is_filled (body_of f) ≡ false
body_plain (filled f) e = parts_plain f (and_true (are_parts f) (clear f) e).0
body_plain opaque e = refl
body_plain (contents k formed allowed) e = refl
body_plain full e = refl
body_plain (part count tags inside after) e = refl
body_plain (opaques count after) e = refl
body_plain (switch tag inside these same other) e = refl

fit_inside : (f : Form) (t : ℕ) → takes f t ≡ true → Fit f → Fit (body_of (inside_of f t))
fit_inside f t took h =
    let k = clear_inside f t took h.clearly in
    record { clearly = clear_body (inside_of f t) k; plain = body_plain (inside_of f t) k }

-- a body with a member, from its members
wrapped : (f : Form) (s : List ℕ) → (is_filled f ≡ true → s ≢ []) → Encodes [] (body_of f) s → Encodes [] f s
wrapped (filled f) s some e = has (some refl) e
wrapped opaque s some e = e
wrapped (contents k formed allowed) s some e = e
wrapped full s some e = e
wrapped (part count tags inside after) s some e = e
wrapped (opaques count after) s some e = e
wrapped (switch tag inside these same other) s some e = e

stands_not : (f : Form) (t : ℕ) → IsDue f → may_drop f ≡ false → takes f t ≡ false → may_stand f t ≡ false
stands_not (part count tags inside after) t due d out = rw (out, d) refl
stands_not (opaques count after) t due d out = rw (out, d) refl
stands_not (switch tag inside these same other) t due d out = out
stands_not opaque t due d out = absurd due
stands_not (contents k formed allowed) t due d out = absurd due
stands_not full t due d out = absurd due
stands_not (filled f) t due d out = absurd due

malformed : (k : Kind) (n : ℕ) (s : List ℕ) (formed allowed : List ℕ → Bool) (ps : List Element)
    → is_of_contents k ≡ true → formed s ≡ false
    → Fact k (place n s (contents k formed allowed) ps) n
malformed kind.Integer n s formed allowed ps ok e = ((refl, e), refl)
malformed kind.Oid n s formed allowed ps ok e = ((refl, e), refl)
malformed kind.Boolean n s formed allowed ps ok e = ((refl, e), refl)
malformed kind.Bits n s formed allowed ps ok e = ((refl, e), refl)
malformed kind.Time n s formed allowed ps ok e = ((refl, e), refl)
malformed _ n s formed allowed ps ok e = absurd cc

dropping : (due : Form) (n : ℕ) (s : List ℕ) (ps : List Element) → may_drop due ≡ true → StandsNot due s
    → Judged n s (dropped due) [] → Judged n s due ps
dropping due n s ps d out (inl e) = inl (absent d e)
dropping due n s ps d out (inr (f, (q, m, fact))) = inr (f, (q, drops d out m, fact))

here : (due : Form) (n : ℕ) (s : List ℕ) (ps : List Element) (k : Kind) (at : ℕ) → Fact k (place n s due ps) at
    → Judged n s due ps
here due n s ps k at fact = inr (fault k at, (place n s due ps, stays, fact))

-- a length, or its fault
abbrev Head : Place → List ℕ → Type 0
Head p xs = ((l : ℕ) × (r : List ℕ) × (xs ≡ len l ++ r) × (l < 2 ^ 32)) ⊎ ((f : Fault) × Fact f.kind p f.at)

head_is : (p : Place) (t : ℕ) (xs : List ℕ) → IsDue p.due → is_tag t ≡ true → p.rest ≡ t ∷ xs → IsBytes xs
    → (x : Result (ℕ × List ℕ) Fault)
    → length_at (p.at + 1) xs ≡ x → Head p xs
head_is p t xs due id is fits (Ok x) e = let y = length_takes (p.at + 1) xs x.0 x.1 fits e in inl (x.0, x.1, y.0, y.1)
head_is p t xs due id is fits (Err f) e = inr (f, length_fault p t due id xs f is e)

head_of : (p : Place) (t : ℕ) (xs : List ℕ) → IsDue p.due → is_tag t ≡ true → p.rest ≡ t ∷ xs → IsBytes xs → Head p xs
head_of p t xs due id is fits = head_is p t xs due id is fits (length_at (p.at + 1) xs) refl

abbrev Judges : ℕ → Type 0
Judges k = (due : Form) → Fit due → (n : ℕ) (s : List ℕ) (ps : List Element) → IsBytes s → length s < k
    → Judged n s due ps

-- the octets begin with an element that is taken, of which b are the contents, and r follow it
record Begins (due : Form) (s : List ℕ) (t : ℕ) (b r : List ℕ) : Type 0 where
  is : s ≡ el t b ++ r
  element : IsElement t b
  took : takes due t ≡ true

-- octets that are fewer than k
record Fewer (k : ℕ) (s : List ℕ) : Type 0 where
  bytes : IsBytes s
  fewer : length s < k

module _ (k : ℕ) (ih : Judges k) where
  module _ (due : Form) (fit : Fit due) (n : ℕ) (s : List ℕ) (ps : List Element) (t : ℕ) (b r : List ℕ)
      (at : Begins due s t b r) where
    -- after an element whose contents are good
    go_behind : is_early due ps (t, b) ≡ false → is_second due ps (t, b) ≡ false → Encodes [] (inside_of due t) b
        → Judged (n + length (el t b)) r (behind due b) (passed_by due ps (t, b)) → Judged n s due ps
    go_behind early second i (inl x) = inl (next t b r at.is at.element at.took early second i x)
    go_behind early second i (inr (f, (q, m, fact))) =
        inr (
          f,
          (
            q,
            subst (λ (x : List ℕ). Reaches (place n x due ps) q) (sym at.is) (passes t b r at.element at.took m),
            fact,
          ),
        )

    go_inside : is_early due ps (t, b) ≡ false → (is_filled (inside_of due t) ≡ true → b ≢ []) → Fewer k r
        → Judged (n + (1 + length (len (length b)))) b (body_of (inside_of due t)) [] → Judged n s due ps
    go_inside early some rest (inl x) =
        let i = wrapped (inside_of due t) b some x in
        elim (cases (is_second due ps (t, b))) [
          | inl second ↦ here due n s ps kind.Value n (inr (t, b, (at.element, at.took, r, at.is), second, i, refl))
          | inr second ↦ go_behind early second i
              (ih (behind due b) (fit_behind due b fit) (n + length (el t b)) r
              (passed_by due ps (t, b)) rest.bytes rest.fewer)
        ]
    go_inside early some rest (inr (f, (q, m, fact))) =
        inr (
          f,
          (
            q,
            subst (λ (x : List ℕ). Reaches (place n x due ps) q) (sym at.is) (enters t b r at.element at.took m),
            fact,
          ),
        )

    element : Fewer k b → Fewer k r → (is_filled (inside_of due t) ≡ true → b ≢ []) → Judged n s due ps
    element body rest some =
        elim (cases (is_early due ps (t, b))) [
          | inl early ↦ here due n s ps kind.Order n (t, b, (at.element, at.took, r, at.is), early, refl)
          | inr early ↦ go_inside early some rest
              (ih (body_of (inside_of due t)) (fit_inside due t at.took fit) (n + (1 + length (len (length b)))) b
              [] body.bytes body.fewer)
        ]

  -- an element must have a member if one is required
  member : (due : Form) → Fit due → (n : ℕ) (s : List ℕ) (ps : List Element) (t : ℕ) (b r : List ℕ) → Begins due s t b r
      → Fewer k b → Fewer k r
      → Judged n s due ps
  member due fit n s ps t [] r at body rest =
      elim (cases (is_filled (inside_of due t))) [
        | inl wants ↦ here due n s ps kind.Empty n (t, (at.element, at.took, r, at.is), wants, refl)
        | inr none ↦ element due fit n s ps t [] r at body rest (λ wants. absurd (never _ wants none))
      ]
  member due fit n s ps t (x ∷ b) r at body rest =
      element due fit n s ps t (x ∷ b) r at body rest (λ _ z. let y = ap length z in absurd cc)

  headed : (due : Form) → Fit due → (n : ℕ) (t : ℕ) (xs : List ℕ) (ps : List Element) → IsDue due → is_tag t ≡ true
      → takes due t ≡ true
      → IsBytes (t ∷ xs) → length (t ∷ xs) < suc k → Head (place n (t ∷ xs) due ps) xs → Judged n (t ∷ xs) due ps
  headed due fit n t xs ps d id took fits lt (inr (f, fact)) = inr (f, (place n (t ∷ xs) due ps, stays, fact))
  headed due fit n t xs ps d id took fits lt (inl (l, r, e, small)) =
      elim (cases_lt (length r) l) [
        | inl short ↦
            here due n (t ∷ xs) ps kind.Overrun n (t, l, r, ((d, ap (λ (x : List ℕ). t ∷ x) e), id), short, small, refl)
        | inr enough ↦
            let b : List ℕ = take l r in
            let q : List ℕ = drop l r in
            let b-is : length b ≡ l = length-take-le l r enough in
            let fits-r : IsBytes r =
            subst IsBytes (ap (drop (length (len l))) e ∙ drop_at (len l) r (length (len l)) refl)
            (IsBytes-drop (length (len l)) xs (IsBytes-tail t xs fits)) in
            let long : length xs ≡ length (len l) + length r = ap length e ∙ length-append (len l) r in
            let spelled : t ∷ xs ≡ el t b ++ q =
            ap (λ (x : List ℕ). t ∷ x) (e ∙ ap (λ (x : List ℕ). len l ++ x) (sym (take-append-drop l r))
            ∙ ap (λ (m : ℕ). len m ++ (b ++ q)) (sym b-is) ∙ sym (append_assoc (len (length b)) b q)) in
            member due fit n (t ∷ xs) ps t b q
            (record {
              is = spelled;
              element =
                  record { identifier = id; size = subst (λ (m : ℕ). m < 2 ^ 32) (sym b-is) small };
              took = took;
            })
            (record { bytes = IsBytes-take l r fits-r; fewer = omega (arith, long, b-is, lt) })
            (record { bytes = IsBytes-drop l r fits-r; fewer = omega (arith, long, length-drop l r, lt) })
      ]

  turn : (due : Form) → Fit due → (n : ℕ) (s : List ℕ) (ps : List Element) → IsDue due → IsBytes s → length s < suc k
      → Judged n s (dropped due) [] → Judged n s due ps
  turn due fit n [] ps d fits lt rest =
      elim (cases (may_drop due)) [
        | inl may ↦ dropping due n [] ps may tt rest
        | inr must ↦ here due n [] ps kind.End n (inl ((d, must), refl, refl))
      ]
  turn due fit n (t ∷ xs) ps d fits lt rest =
      elim (cases (is_tag t)) [
        | inr bad ↦ here due n (t ∷ xs) ps kind.HighTag n (t, xs, (d, refl), bad, refl)
        | inl id ↦ elim (cases (takes due t)) [
          | inl took ↦ headed due fit n t xs ps d id took fits lt
              (head_of (place n (t ∷ xs) due ps) t xs d id refl (IsBytes-tail t xs fits))
          | inr out ↦ elim (cases (may_drop due)) [
            | inl may ↦ dropping due n (t ∷ xs) ps may out rest
            | inr must ↦ here due n (t ∷ xs) ps kind.Tag n (t, xs, ((d, refl), id), stands_not due t d must out, refl)
          ]
        ]
      ]

  step_full : (n : ℕ) (s : List ℕ) (ps : List Element) → Judged n s full ps
  step_full n [] ps = inl (ended refl)
  step_full n (x ∷ xs) ps = here full n (x ∷ xs) ps kind.Trailing n (refl, λ z. let y = ap length z in absurd cc, refl)

  step : (due : Form) → Fit due → (n : ℕ) (s : List ℕ) (ps : List Element) → IsBytes s → length s < suc k
      → Judged n s due ps
  step opaque fit n s ps fits lt = inl anything
  step (contents c formed allowed) fit n s ps fits lt =
      elim (cases (formed s)) [
        | inr bad ↦ here (contents c formed allowed) n s ps c n (malformed c n s formed allowed ps fit.clearly bad)
        | inl good ↦ elim (cases (allowed s)) [
          | inl ok ↦ inl (held good ok)
          | inr other ↦ here (contents c formed allowed) n s ps kind.Value n (inl ((good, other), refl))
        ]
      ]
  step full fit n s ps fits lt = step_full n s ps
  step (part count tags inside after) fit n s ps fits lt = turn (part count tags inside after) fit n s ps tt fits lt
      (step after (fit_dropped (part count tags inside after) fit) n s [] fits lt)
  step (opaques count after) fit n s ps fits lt = turn (opaques count after) fit n s ps tt fits lt
      (step after (fit_dropped (opaques count after) fit) n s [] fits lt)
  step (switch tag inside these same other) fit n s ps fits lt =
      turn (switch tag inside these same other) fit n s ps tt fits lt (step_full n s [])
  step (filled f) fit n s ps fits lt = let z = fit.plain in absurd cc

judge : (k : ℕ) → Judges k
judge zero due fit n s ps fits lt = absurd (omega arith)
judge (suc k) due fit n s ps fits lt = step k (judge k) due fit n s ps fits lt

pub judged : (form : Form) (bytes : List ℕ) → clear form ≡ true → is_filled form ≡ false → IsBytes bytes
    → IsEncoding form bytes ⊎ ((f : Fault) × Faults form bytes f)
judged form bytes ok plain fits =
    judge (suc (length bytes)) form (record { clearly = ok; plain = plain }) 0 bytes [] fits (omega arith)

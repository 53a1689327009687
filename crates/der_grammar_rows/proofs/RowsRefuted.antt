-- The worked rows that say which faults octets don't have.
use Rattle.std.proofs.Common.{◌≡◌, ℕ, eqb, true, false, List, [], ◌∷◌, ◌++◌, length, refl, sym, ap, subst, ◌∙◌, inl}
use Rattle.std.proofs.Common.{inr, lit<, arith, append_assoc}
use Rattle.der_core.specs.declared.fault.Fault.{Fault}
use Rattle.der_core.specs.declared.fault.Kind.{Kind}
use Rattle.der_core.specs.declared.fault.Kind.TheVariants as kind
use Rattle.der_core.specs.declared.fault.Kind.TheVariants.{End, HighTag, Indefinite, LengthForm, Overrun, Tag, Trailing}
use Rattle.der_core.specs.declared.fault.Kind.TheVariants.{Integer, Oid, Boolean, Bits, Time}
use Rattle.der_core.specs.declared.fault.Kind.TheVariants.{Value, Order, Empty}
use Rattle.der_core.specs.Element.{len, el, is_tag, IsElement}
use Rattle.der_core.specs.Form.{may_drop, may_stand}
use Rattle.der_core.specs.Encoding.{Encodes}
use Rattle.der_core.specs.Faults.{Place, place, LengthEnds, IsNoLength, IsHere, Reaches, stays, passes, enters, drops}
use Rattle.der_core.specs.Faults.{Fact, Faults}
use Rattle.der_core.specs.Grammar.{file}
use Rattle.der_grammar.specs.Table.{request, extension, certificate_extensions}
use Rattle.der_core.specs.Hex.{hex}
use Rattle.der_core.specs.Clear.{is_full}
use Rattle.der_grammar_rows.specs.FaultRows.{fault}
use Rattle.der_grammar_rows.specs.NoFaultRows.{NoFaultRows}
use Rattle.der_core.proofs.Lengths.{heads, is_length, el_same}
use Rattle.der_core.proofs.Refuted.{refuted, never, identified}
use Rattle.der_core.proofs.Found.{found}

-- if an element must be there and isn't, no other place is reached
stuck : (p q : Place) → Reaches p q → may_drop p.due ≡ false
    → ((t : ℕ) (b r : List ℕ) → IsElement t b → p.rest ≡ el t b ++ r → ⊥) → p ≡ q
stuck p q stays d none = refl
stuck p q (passes t b r is took m) d none = absurd (none t b r is refl)
stuck p q (enters t b r is took m) d none = absurd (none t b r is refl)
stuck p q (drops may out m) d none = absurd (never _ may d)

nothing_behind : Faults (file request) [] (fault kind.End 1) → ⊥
nothing_behind (q, k, h) =
    let same = stuck (place 0 [] (file request) []) q k refl (λ t b r is e. let z = ap length e in absurd cc) in
    let g = subst (λ (p : Place). Fact kind.End p 1) (sym same) h in
    elim g [ inl a ↦ absurd (let z = a.2 in cc) | inr a ↦ absurd (let z = ap length a.3.0.1 in cc) ]

behind_high_tag : Faults (file request) (31 ∷ []) (fault kind.End 1) → ⊥
behind_high_tag (q, k, h) =
    let same = stuck (place 0 (31 ∷ []) (file request) []) q k refl (λ t b r is e. never (is_tag 31)
    (subst (λ (u : ℕ). is_tag u ≡ true) (sym (heads 31 t [] ((len (length b) ++ b) ++ r) e).0) (identified t b is))
    refl) in
    let g = subst (λ (p : Place). Fact kind.End p 1) (sym same) h in
    elim g [
      | inl a ↦ absurd (let z = ap length a.1 in cc)
      | inr a ↦ never (is_tag 31) (subst (λ (u : ℕ). is_tag u ≡ true) (sym (heads 31 a.0 [] a.2 a.3.0.1).0) a.3.1) refl
    ]

-- ---- a length in a longer form than it needs

abbrev long : List ℕ
long = hex "81 05 0000000000"

abbrev begun : Place
begun = place 0 (48 ∷ long) (file request) []

no_length : IsNoLength long
no_length = inr (inr (refl, lit< tt))

-- octets that begin with no length are no element
no_element : (t : ℕ) (b r : List ℕ) → IsElement t b → 48 ∷ long ≡ el t b ++ r → ⊥
no_element t b r is e =
    let p = heads 48 t long ((len (length b) ++ b) ++ r) e in
    is_length (length b) (b ++ r) (omega (arith, is.size))
    (subst IsNoLength (p.1 ∙ append_assoc (len (length b)) b r) no_length)

not_here : (t : ℕ) (b : List ℕ) → IsHere begun t b → ⊥
not_here t b x = no_element t b x.2 x.0 x.3

only_at : (k : Kind) (n : ℕ) → Fact k begun n → fault k n ≡ fault kind.LengthForm 1
only_at End n (inl a) = absurd (let z = ap length a.1 in cc)
only_at End n (inr (t, k, s, (stands, id), ends, e)) =
    let ended : LengthEnds long k = subst (λ (x : List ℕ). LengthEnds x k) (sym (heads 48 t long s stands.1).1) ends in
    absurd (omega (arith, ended.2))
only_at HighTag n (t, s, stands, bad, e) =
    absurd (never (is_tag 48) refl (subst (λ (u : ℕ). is_tag u ≡ false) (sym (heads 48 t long s stands.1).0) bad))
only_at Indefinite n (t, s, (stands, id), e) =
    let p = heads 48 t long (128 ∷ s) stands.1 in
    absurd (never (eqb 129 128) (ap (λ (u : ℕ). eqb u 128) (heads 129 128 (hex "05 0000000000") s p.1).0) refl)
only_at LengthForm n (t, s, begins, unfit, e) = ap (fault kind.LengthForm) e
only_at Overrun n (t, l, s, (stands, id), short, fits, e) =
    let p = heads 48 t long (len l ++ s) stands.1 in
    absurd (is_length l s (omega (arith, fits)) (subst IsNoLength p.1 no_length))
only_at Tag n (t, s, (stands, id), out, e) =
    let p = heads 48 t long s stands.1 in
    absurd
    (never (may_stand (file request) 48) refl (subst (λ (u : ℕ). may_stand (file request) u ≡ false) (sym p.0) out))
only_at Trailing n (due, more, e) = absurd (never true refl (ap is_full (sym due)))
only_at Integer n (m, e) = absurd m
only_at Oid n (m, e) = absurd m
only_at Boolean n (m, e) = absurd m
only_at Bits n (m, e) = absurd m
only_at Time n (m, e) = absurd m
only_at Value n (inl (m, e)) = absurd m
only_at Value n (inr (t, b, x, second, i, e)) = absurd (not_here t b x)
only_at Order n (t, b, x, early, e) = absurd (not_here t b x)
only_at Empty n (t, x, wants, e) = absurd (not_here t [] x)

only_long_form : (f : Fault) → Faults (file request) (48 ∷ long) f → f ≡ fault kind.LengthForm 1
only_long_form f (q, k, h) =
    let same = stuck begun q k refl no_element in
    only_at f.kind f.at (subst (λ (p : Place). Fact f.kind p f.at) (sym same) h)

no_overrun : Faults (file request) (48 ∷ long) (fault kind.Overrun 0) → ⊥
no_overrun h = let e = only_long_form (fault kind.Overrun 0) h in let z = ap (λ (f : Fault). f.at) e in absurd cc

-- ---- a second extension that is malformed inside

abbrev ill : List ℕ
ill = hex "0603 551d0e 0101 05 0400"

ill_fault : Faults extension ill (fault kind.Boolean 7)
unfolding len
ill_fault = found _ _ (fault kind.Boolean 7) refl

ill_is : el 0x30 ill ++ [] ≡ hex "300a 0603 551d0e 0101 05 0400"
unfolding len
ill_is = refl

ill_second : Fact kind.Value
    (place 9 (hex "300a 0603 551d0e 0101 05 0400") certificate_extensions ((48, hex "0603 551d0e 0400") ∷ [])) 9 → ⊥
ill_second (inl f) = f.0
ill_second (inr (t, b, x, second, i, e)) =
    let p = el_same t b x.2 48 ill [] x.0 (record { identifier = refl; size = lit< tt }) (sym x.3 ∙ sym ill_is) in
    refuted extension ill (fault kind.Boolean 7) refl
    (subst (λ (y : List ℕ). Encodes [] extension y) p.body i) ill_fault

pub no_fault_rows : NoFaultRows
no_fault_rows = record {
  only_long_form = only_long_form;
  no_overrun = no_overrun;
  nothing_behind = nothing_behind;
  behind_high_tag = behind_high_tag;
  ill_second = ill_second;
  whole_length = λ k f. omega (arith, f.0);
  whole_length_of_two = λ k f. omega (arith, f.2);
  whole_length_of_five = λ k f. omega (arith, f.2);
  whole_indefinite = λ k f. omega (arith, f.0);
  whole_refused = λ k f. omega (arith, f.1);
  short_length = λ f. omega (arith, f);
  length_of_128 = λ f.
      elim f [ inl a ↦ omega (arith, a) | inr g ↦ elim g [ inl a ↦ omega (arith, a.1) | inr a ↦ omega (arith, a.1) ] ];
  length_of_256 = λ f.
      elim f [ inl a ↦ omega (arith, a) | inr g ↦ elim g [ inl a ↦ omega (arith, a.1) | inr a ↦ omega (arith, a.0) ] ];
  length_in_four = λ f. omega (arith, f);
  no_form = λ f.
      elim f [ inl a ↦ omega (arith, a) | inr g ↦ elim g [ inl a ↦ omega (arith, a.0) | inr a ↦ omega (arith, a.0) ] ];
}

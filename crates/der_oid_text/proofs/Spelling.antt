-- A text spells at most one list of contents octets; and texts that spell none.
use Rattle.std.proofs.Common.{◌≡◌, ℕ, ◌+◌, ◌-◌, ◌*◌, ◌^◌, ◌<◌, ◌≤◌, true, ltb, List, [], ◌∷◌, ◌++◌, length, get_or}
use Rattle.std.proofs.Common.{take, drop, refl, sym, ap, subst, ◌∙◌}
use Rattle.std.proofs.Common.{arith, inl, inr, ◌≢◌, ◌&&◌, flat_map, codes}
use Rattle.hex.specs.Hex.{encode_lower}
use Rattle.std.proofs.lemmas.Bool.{and_parts, and_from, ltb-true, lt-ltb, le-ltb, cases_lt, cond-true}
use Rattle.std.proofs.lemmas.List.{take_rest}
use Rattle.der_core.specs.Contents.{is_oid}
use Rattle.der_core.specs.Element.{IsBytes}
use Rattle.der_oid_text.specs.OidText.{subidentifiers, first_arcs, arcs, dotted, are_small, text_of, Spells}
use Rattle.der_oid_text.specs.OidSteps.{base_128}
use Rattle.der_oid_text.proofs.DecimalTexts.{dotted_injective}
use Rattle.der_oid_text.proofs.Subidentifiers.{subidentifiers_back, is_oid-base_128, IsBytes-base_128}
use Rattle.der_oid_text.proofs.Subidentifiers.{base_128-subidentifiers, some_subidentifier}

-- the first two arcs of a subidentifier
record FirstArcs (s : ℕ) : Type 0 where
  first : ℕ
  second : ℕ
  parts : first_arcs s ≡ first ∷ second ∷ []
  whole : s ≡ 40 * first + second
  low : first ≤ 2
  small : second ≤ s

pick : (s : ℕ) → FirstArcs s
pick s = elim (cases_lt s 40) [
  | inl l ↦ record {
    first = 0;
    second = s;
    parts = rw (lt-ltb s 40 l) refl;
    whole = omega arith;
    low = omega arith;
    small = omega arith;
  }
  | inr g ↦ elim (cases_lt s 80) [
    | inl k ↦ record {
      first = 1;
      second = s - 40;
      parts = rw (le-ltb s 40 g, lt-ltb s 80 k) refl;
      whole = omega arith;
      low = omega arith;
      small = omega arith;
    }
    | inr h ↦ record {
      first = 2;
      second = s - 80;
      parts = rw (le-ltb s 40 g, le-ltb s 80 h) refl;
      whole = omega arith;
      low = omega arith;
      small = omega arith;
    }
  ]
]

same_first : (s t : ℕ) → first_arcs s ≡ first_arcs t → s ≡ t
same_first s t e =
    let p = pick s in
    let q = pick t in
    let k : p.first ∷ p.second ∷ [] ≡ q.first ∷ q.second ∷ [] = sym p.parts ∙ e ∙ q.parts in
    let a : p.first ≡ q.first = cc in
    let b : p.second ≡ q.second = cc in
    omega (arith, p.whole, q.whole, a, b)

arcs_are : (s : ℕ) (ss : List ℕ) → arcs (s ∷ ss) ≡ (pick s).first ∷ (pick s).second ∷ ss
arcs_are s ss = ap (λ l. l ++ ss) (pick s).parts

-- subidentifiers with these arcs
pub first_of_arcs : (s : ℕ) (ss : List ℕ) (a b : ℕ) (ns : List ℕ) → arcs (s ∷ ss) ≡ a ∷ b ∷ ns
    → (first_arcs s ≡ a ∷ b ∷ []) × (ss ≡ ns)
first_of_arcs s ss a b ns e =
    let p = pick s in
    let k : p.first ∷ p.second ∷ ss ≡ a ∷ b ∷ ns = sym (arcs_are s ss) ∙ e in
    let f : p.first ∷ p.second ∷ [] ≡ a ∷ b ∷ [] = cc in
    (p.parts ∙ f, cc)

pub arcs_from : (s a b : ℕ) (ns : List ℕ) → first_arcs s ≡ a ∷ b ∷ [] → arcs (s ∷ ns) ≡ a ∷ b ∷ ns
arcs_from s a b ns e = ap (λ l. l ++ ns) e

same_arcs : (s t : ℕ) (ss ts : List ℕ) → arcs (s ∷ ss) ≡ arcs (t ∷ ts) → s ∷ ss ≡ t ∷ ts
same_arcs s t ss ts e =
    let q = pick t in
    let k = first_of_arcs s ss q.first q.second ts (e ∙ arcs_are t ts) in
    let first : s ≡ t = same_first s t (k.0 ∙ sym q.parts) in
    let others : ss ≡ ts = k.1 in
    cc

small_arcs : (s : ℕ) (ss : List ℕ) → are_small (s ∷ ss) ≡ true → are_small (arcs (s ∷ ss)) ≡ true
small_arcs s ss h =
    let p = pick s in
    let k = and_parts (ltb s (2 ^ 128)) (are_small ss) h in
    let fits : s < 2 ^ 128 = ltb-true s (2 ^ 128) k.0 in
    let a : ltb p.first (2 ^ 128) ≡ true = lt-ltb p.first (2 ^ 128) (omega (arith, p.low)) in
    let b : ltb p.second (2 ^ 128) ≡ true = lt-ltb p.second (2 ^ 128) (omega (arith, p.small)) in
    ap are_small (arcs_are s ss) ∙ and_from (ltb p.first (2 ^ 128)) (ltb p.second (2 ^ 128) && are_small ss) a
    (and_from (ltb p.second (2 ^ 128)) (are_small ss) b k.1)

-- the subidentifiers of contents octets that a text spells
record Held (text contents : List ℕ) : Type 0 where
  leading : ℕ
  others : List ℕ
  parts : subidentifiers contents ≡ leading ∷ others
  small : are_small (leading ∷ others) ≡ true
  spelled : text ≡ dotted (arcs (leading ∷ others))

held_by : (text contents ns : List ℕ) → subidentifiers contents ≡ ns → ns ≢ [] → are_small ns ≡ true
    → text ≡ dotted (arcs ns) → Held text contents
held_by text contents [] e some small spelled = absurd (some refl)
held_by text contents (n ∷ ns) e some small spelled =
    record { leading = n; others = ns; parts = e; small = small; spelled = spelled }

in_decimal : (contents : List ℕ) → are_small (subidentifiers contents) ≡ true
    → text_of contents ≡ dotted (arcs (subidentifiers contents))
in_decimal contents h = cond-true (are_small (subidentifiers contents)) (dotted (arcs (subidentifiers contents)))
    (codes "hex:" ++ encode_lower contents) h

held : (text contents : List ℕ) → Spells text contents → Held text contents
held text contents s =
    held_by text contents (subidentifiers contents) refl (some_subidentifier contents s.formed) s.small
    (s.spelled ∙ in_decimal contents s.small)

some_arcs : (s : ℕ) (ss : List ℕ) → arcs (s ∷ ss) ≢ []
some_arcs s ss e = let k : (pick s).first ∷ (pick s).second ∷ ss ≡ [] = sym (arcs_are s ss) ∙ e in cc

-- a text spells at most one list of contents octets
pub spelled_once : (text b c : List ℕ) → Spells text b → Spells text c → b ≡ c
spelled_once text b c p q =
    let h = held text b p in
    let k = held text c q in
    let e : arcs (h.leading ∷ h.others) ≡ arcs (k.leading ∷ k.others) =
    dotted_injective (arcs (h.leading ∷ h.others)) (arcs (k.leading ∷ k.others)) (some_arcs h.leading h.others)
    (some_arcs k.leading k.others)
    (small_arcs h.leading h.others h.small) (small_arcs k.leading k.others k.small) (sym h.spelled ∙ k.spelled) in
    let same = h.parts ∙ same_arcs h.leading k.leading h.others k.others e ∙ sym k.parts in
    sym (base_128-subidentifiers b p.octets p.formed) ∙ ap (flat_map base_128) same
    ∙ base_128-subidentifiers c q.octets q.formed

-- a text that spells numbers other than arcs spells no contents octets
pub spells_none : (text : List ℕ) → ((ns : List ℕ) → ns ≢ [] → are_small ns ≡ true → text ≡ dotted ns → ⊥)
    → (b : List ℕ) → Spells text b → ⊥
spells_none text none b s =
    let h = held text b s in
    none (arcs (h.leading ∷ h.others)) (some_arcs h.leading h.others) (small_arcs h.leading h.others h.small) h.spelled

record Led (ns : List ℕ) : Type 0 where
  leading : ℕ
  others : List ℕ
  small : leading < 2 ^ 128
  parts : arcs (leading ∷ others) ≡ ns

led : (text ns b : List ℕ) → text ≡ dotted ns → ns ≢ [] → are_small ns ≡ true → Spells text b → Led ns
led text ns b e some small s =
    let h = held text b s in
    record {
      leading = h.leading;
      others = h.others;
      small = ltb-true h.leading (2 ^ 128) (and_parts (ltb h.leading (2 ^ 128)) (are_small h.others) h.small).0;
      parts = dotted_injective (arcs (h.leading ∷ h.others)) ns (some_arcs h.leading h.others) some
          (small_arcs h.leading h.others h.small) small (sym h.spelled ∙ e);
    }

-- one number is too few
pub spells_two : (text ns b : List ℕ) → text ≡ dotted ns → ns ≢ [] → are_small ns ≡ true → length ns < 2 → Spells text b
    → ⊥
spells_two text ns b e some small few s =
    let l = led text ns b e some small s in
    let k : length ns ≡ length l.others + 2 = ap length (sym l.parts ∙ arcs_are l.leading l.others) ∙ (omega arith) in
    omega arith

-- the first two numbers are arcs of a subidentifier
pub spells_first : (text ns b : List ℕ) (first second : ℕ) (others : List ℕ) → text ≡ dotted ns
    → ns ≡ first ∷ second ∷ others → are_small ns ≡ true
    → ((s : ℕ) → s < 2 ^ 128 → first_arcs s ≡ first ∷ second ∷ [] → ⊥) → Spells text b → ⊥
spells_first text ns b first second others e parts small none s =
    let l = led text ns b e (λ x. let k : first ∷ second ∷ others ≡ [] = sym parts ∙ x in cc) small s in
    none l.leading l.small (first_of_arcs l.leading l.others first second others (l.parts ∙ parts)).0

-- the octets of the subidentifier of the first two numbers and of the other numbers
pub spells_these : (text contents : List ℕ) (first second leading : ℕ) (others : List ℕ)
    → text ≡ dotted (first ∷ second ∷ others)
    → are_small (first ∷ second ∷ others) ≡ true → first_arcs leading ≡ first ∷ second ∷ [] → leading < 2 ^ 128
    → contents ≡ flat_map base_128 (leading ∷ others) → Spells text contents
spells_these text contents first second leading others e small first_two fits made =
    let read : subidentifiers contents ≡ leading ∷ others = ap subidentifiers made
    ∙ subidentifiers_back (leading ∷ others) in
    let k = and_parts (ltb first (2 ^ 128)) (are_small (second ∷ others)) small in
    let rest = and_parts (ltb second (2 ^ 128)) (are_small others) k.1 in
    let fit : are_small (subidentifiers contents) ≡ true =
    ap are_small read ∙ and_from (ltb leading (2 ^ 128)) (are_small others) (lt-ltb leading (2 ^ 128) fits) rest.1 in
    record {
      octets = subst IsBytes (sym made) (IsBytes-base_128 (leading ∷ others));
      formed = ap is_oid made ∙ is_oid-base_128 leading others;
      small = fit;
      spelled = e ∙ ap dotted (sym (arcs_from leading first second others first_two) ∙ ap arcs (sym read))
          ∙ sym (in_decimal contents fit);
    }

-- two numbers and the others
pub two_first : (ns : List ℕ) → 2 ≤ length ns → ns ≡ get_or ns 0 0 ∷ get_or ns 1 0 ∷ take (length ns - 2) (drop 2 ns)
two_first [] h = absurd (omega arith)
two_first (a ∷ []) h = absurd (omega arith)
two_first (a ∷ b ∷ ns) h = ap (λ l. a ∷ b ∷ l) (sym (take_rest (a ∷ b ∷ ns) 2))

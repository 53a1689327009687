-- A name as it stands in a line is what is written for it.
use Rattle.std.proofs.Common.{◌≡◌, ℕ, Bool, true, false, List, [], ◌∷◌, ◌++◌, ◌⊎◌, inl, inr, refl, sym, ap, ◌∙◌}
use Rattle.std.proofs.Common.{arith}
use Rattle.std.specs.Prelude.{◌==◌, ◌&&◌}
use Rattle.der_core.specs.Lists.{is_same}
use Rattle.der_core.proofs.Encoded.{same}
use Rattle.der_core.proofs.SameOctets.{is_then_same}
use Rattle.evidence_sums.specs.Names.{meant_by, is_letter, unescaped_behind}
use Rattle.evidence_sums.specs.Names.{unescaped, is_escaped_behind, is_escaped}
use Rattle.evidence_sums.specs.SumLines.{has_pair}
use Rattle.evidence_sums.specs.Written.{escaped, octet_escaped, needs_escape}

-- none of these octets is escaped
pub record IsPlain (octet : ℕ) : Type 0 where
  pub backslash : octet == 92 ≡ false
  pub lf : octet == 10 ≡ false
  pub cr : octet == 13 ≡ false

pub is_then : (a b : ℕ) → a == b ≡ true → a ≡ b
is_then a b e = grind arith

-- which octet it is
pub kinds : (octet : ℕ) → (octet ≡ 92) ⊎ ((octet ≡ 10) ⊎ ((octet ≡ 13) ⊎ IsPlain octet))
kinds octet = by_case (octet == 92) (octet == 10) (octet == 13) refl refl refl
  where
    by_case : (a b c : Bool) → octet == 92 ≡ a → octet == 10 ≡ b → octet == 13 ≡ c
        → (octet ≡ 92) ⊎ ((octet ≡ 10) ⊎ ((octet ≡ 13) ⊎ IsPlain octet))
    by_case true b c p q r = inl (is_then octet 92 p)
    by_case false true c p q r = inr (inl (is_then octet 10 q))
    by_case false false true p q r = inr (inr (inl (is_then octet 13 r)))
    by_case false false false p q r = inr (inr (inr (record { backslash = p; lf = q; cr = r })))

pub plain_escaped : (octet : ℕ) → IsPlain octet → octet_escaped octet ≡ octet ∷ []
plain_escaped octet p = rw (p.backslash, p.lf, p.cr) refl

letters : (octet : ℕ) → is_letter octet ≡ true → (octet ≡ 92) ⊎ ((octet ≡ 110) ⊎ (octet ≡ 114))
letters octet e = by_case (octet == 92) (octet == 110) (octet == 114) refl refl refl e
  where
    by_case : (a b c : Bool) → octet == 92 ≡ a → octet == 110 ≡ b → octet == 114 ≡ c → is_letter octet ≡ true
        → (octet ≡ 92) ⊎ ((octet ≡ 110) ⊎ (octet ≡ 114))
    by_case true b c p q r e = inl (is_then octet 92 p)
    by_case false true c p q r e = inr (inl (is_then octet 110 q))
    by_case false false true p q r e = inr (inr (is_then octet 114 r))
    by_case false false false p q r e = absurd (let no : false ≡ true = rw (p, q, r) at e in cc)

-- what a letter means is escaped by it
letter_back : (octet : ℕ) → is_letter octet ≡ true → octet_escaped (meant_by octet) ≡ 92 ∷ octet ∷ []
letter_back octet e = elim (letters octet e) [
  | inl is ↦ rw is refl
  | inr (inl is) ↦ rw is refl
  | inr (inr is) ↦ rw is refl
]

pub and_first : (a b : Bool) → (a && b) ≡ true → a ≡ true
and_first true b e = refl
and_first false b e = e

pub and_second : (a b : Bool) → (a && b) ≡ true → b ≡ true
and_second true b e = e
and_second false b e = absurd (let no : false ≡ true = e in cc)

-- the backslash of a pair whose letter is still to come
abbrev pub held : Bool → List ℕ
held true = 92 ∷ []
held false = []

back : (behind : Bool) (octets : List ℕ) → is_escaped_behind behind octets ≡ true
    → escaped (unescaped_behind behind octets) ≡ held behind ++ octets
back true [] e = absurd (let no : false ≡ true = e in cc)
back false [] e = refl
back true (octet ∷ octets) e =
    let letter = and_first (is_letter octet) (is_escaped_behind false octets) e in
    let others = back false octets (and_second (is_letter octet) (is_escaped_behind false octets) e) in
    ap (λ (w : List ℕ). w ++ escaped (unescaped_behind false octets)) (letter_back octet letter)
    ∙ ap (λ (w : List ℕ). 92 ∷ octet ∷ w) others
back false (octet ∷ octets) e = elim (kinds octet) [
  | inl is ↦ let here : is_escaped_behind true octets ≡ true = rw is at e in rw is (back true octets here)
  | inr (inl is) ↦ absurd (let no : false ≡ true = rw is at e in cc)
  | inr (inr (inl is)) ↦ absurd (let no : false ≡ true = rw is at e in cc)
  | inr (inr (inr plain)) ↦
      let here : is_escaped_behind false octets ≡ true = rw (plain.backslash, plain.lf, plain.cr) at e in
      rw (plain.backslash, plain.backslash, plain.lf, plain.cr, back false octets here) refl
]

-- it stands as it is written
pub escaped_back : (octets : List ℕ) → is_escaped octets ≡ true → escaped (unescaped octets) ≡ octets
escaped_back octets e = back false octets e

-- what is written is read
pub unescaped_again : (name : List ℕ) → unescaped (escaped name) ≡ name
unescaped_again [] = refl
unescaped_again (octet ∷ name) = elim (kinds octet) [
  | inl is ↦ rw (is, unescaped_again name) refl
  | inr (inl is) ↦ rw (is, unescaped_again name) refl
  | inr (inr (inl is)) ↦ rw (is, unescaped_again name) refl
  | inr (inr (inr plain)) ↦
      ap (λ (w : List ℕ). unescaped (w ++ escaped name)) (plain_escaped octet plain)
      ∙ rw (plain.backslash, unescaped_again name) refl
]

pub escaped_is : (name : List ℕ) → is_escaped (escaped name) ≡ true
escaped_is [] = refl
escaped_is (octet ∷ name) = elim (kinds octet) [
  | inl is ↦ rw (is, escaped_is name) refl
  | inr (inl is) ↦ rw (is, escaped_is name) refl
  | inr (inr (inl is)) ↦ rw (is, escaped_is name) refl
  | inr (inr (inr plain)) ↦
      ap (λ (w : List ℕ). is_escaped (w ++ escaped name)) (plain_escaped octet plain)
      ∙ rw (plain.backslash, plain.lf, plain.cr) (escaped_is name)
]

-- a backslash stands there exactly if the name needs one
pub pair_needed : (name : List ℕ) → has_pair (escaped name) ≡ needs_escape name
pair_needed [] = refl
pair_needed (octet ∷ name) = elim (kinds octet) [
  | inl is ↦ rw is refl
  | inr (inl is) ↦ rw is refl
  | inr (inr (inl is)) ↦ rw is refl
  | inr (inr (inr plain)) ↦
      ap (λ (w : List ℕ). has_pair (w ++ escaped name)) (plain_escaped octet plain)
      ∙ rw (plain.backslash, plain.lf, plain.cr) (pair_needed name)
]

-- without a backslash the name stands as it is
pub unescaped_plain : (octets : List ℕ) → has_pair octets ≡ false → unescaped octets ≡ octets
unescaped_plain [] e = refl
unescaped_plain (octet ∷ octets) e = by_case (octet == 92) refl e (unescaped_plain octets)
  where
    by_case : (b : Bool) → octet == 92 ≡ b → has_pair (octet ∷ octets) ≡ false
        → (has_pair octets ≡ false → unescaped octets ≡ octets) → unescaped (octet ∷ octets) ≡ octet ∷ octets
    by_case true is e others = absurd (let no : true ≡ false = rw is at e in cc)
    by_case false is e others =
        let none : has_pair octets ≡ false = rw is at e in
        rw is (ap (λ (w : List ℕ). octet ∷ w) (others none))

-- two names are the same exactly if they stand so
pub same_names : (octets others : List ℕ) → is_escaped octets ≡ true → is_escaped others ≡ true
    → is_same (unescaped octets) (unescaped others) ≡ is_same octets others
same_names octets others e f =
    by_case (is_same (unescaped octets) (unescaped others)) (is_same octets others) refl refl
  where
    by_case : (a b : Bool) → is_same (unescaped octets) (unescaped others) ≡ a → is_same octets others ≡ b → a ≡ b
    by_case true true p q = refl
    by_case false false p q = refl
    by_case true false p q =
        let names : unescaped octets ≡ unescaped others = same (unescaped octets) (unescaped others) p in
        let stand : octets ≡ others = sym (escaped_back octets e) ∙ ap escaped names ∙ escaped_back others f in
        sym (is_then_same octets others stand) ∙ q
    by_case false true p q =
        sym p ∙ is_then_same (unescaped octets) (unescaped others) (ap unescaped (same octets others q))

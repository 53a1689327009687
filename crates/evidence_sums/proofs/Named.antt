-- Whether a name is that of a file below a folder can be told as it stands in a line.
use Rattle.std.proofs.Common.{◌≡◌, ℕ, Bool, true, false, List, [], ◌∷◌, ◌++◌, inl, inr, refl, sym, ap, ◌∙◌, map}
use Rattle.std.specs.Prelude.{◌==◌, ◌&&◌, codes}
use Rattle.std.specs.List.{list_all}
use Rattle.der_core.specs.Lists.{is_same}
use Rattle.list_answers.specs.Texts.{parts}
use Rattle.evidence_sums.specs.Names.{is_part, is_no_null, is_name, is_escaped, unescaped}
use Rattle.evidence_sums.specs.Written.{escaped}
use Rattle.evidence_sums.proofs.Cuts.{some_part}
use Rattle.evidence_sums.proofs.Escapes.{kinds, IsPlain, plain_escaped, escaped_back}

abbrev Names : Type 0
Names = List (List ℕ)

abbrev slashed : List ℕ → Names
slashed octets = parts 47 octets

-- the parts between slashes are escaped one by one
escaped_parts : (name : List ℕ) → slashed (escaped name) ≡ map escaped (slashed name)
escaped_parts [] = refl
escaped_parts (octet ∷ name) =
    let others = escaped_parts name in
    let part = some_part (λ b. b == 47) name in
    elim (kinds octet) [
      | inl is ↦ rw (is, others, part.2) refl
      | inr (inl is) ↦ rw (is, others, part.2) refl
      | inr (inr (inl is)) ↦ rw (is, others, part.2) refl
      | inr (inr (inr plain)) ↦ rw (plain.backslash, plain.lf, plain.cr) (by_case plain (octet == 47) refl others part)
    ]
  where
    by_case : IsPlain octet → (b : Bool) → octet == 47 ≡ b → slashed (escaped name) ≡ map escaped (slashed name)
        → (q : List ℕ) × (qs : Names) × (slashed name ≡ q ∷ qs)
        → slashed (octet ∷ escaped name) ≡ map escaped (slashed (octet ∷ name))
    by_case plain true e others part = rw e (ap (λ (w : Names). [] ∷ w) others)
    by_case plain false e others part = rw (e, others, part.2, plain_escaped octet plain) refl

-- what a name is compared with, when it has no octet that is escaped
same_none : (part : List ℕ) → is_same (escaped part) [] ≡ is_same part []
same_none [] = refl
same_none (octet ∷ part) = elim (kinds octet) [
  | inl is ↦ rw is refl
  | inr (inl is) ↦ rw is refl
  | inr (inr (inl is)) ↦ rw is refl
  | inr (inr (inr plain)) ↦ rw (plain_escaped octet plain) refl
]

same_dot_more : (octet : ℕ) (part dots : List ℕ) → is_same (escaped part) dots ≡ is_same part dots
    → is_same (escaped (octet ∷ part)) (46 ∷ dots) ≡ is_same (octet ∷ part) (46 ∷ dots)
same_dot_more octet part dots others = elim (kinds octet) [
  | inl is ↦ rw is refl
  | inr (inl is) ↦ rw is refl
  | inr (inr (inl is)) ↦ rw is refl
  | inr (inr (inr plain)) ↦
      ap (λ (w : List ℕ). is_same (w ++ escaped part) (46 ∷ dots)) (plain_escaped octet plain)
      ∙ ap (λ (b : Bool). octet == 46 && b) others
]

same_dot : (part : List ℕ) → is_same (escaped part) (codes ".") ≡ is_same part (codes ".")
same_dot [] = refl
same_dot (octet ∷ part) = same_dot_more octet part [] (same_none part)

same_dots : (part : List ℕ) → is_same (escaped part) (codes "..") ≡ is_same part (codes "..")
same_dots [] = refl
same_dots (octet ∷ part) = same_dot_more octet part (codes ".") (same_dot part)

same_part : (part : List ℕ) → is_part (escaped part) ≡ is_part part
same_part part = rw (same_none part, same_dot part, same_dots part) refl

same_parts : (ps : Names) → list_all is_part (map escaped ps) ≡ list_all is_part ps
same_parts [] = refl
same_parts (p ∷ ps) = rw (same_part p, same_parts ps) refl

same_nulls : (name : List ℕ) → list_all is_no_null (escaped name) ≡ list_all is_no_null name
same_nulls [] = refl
same_nulls (octet ∷ name) = elim (kinds octet) [
  | inl is ↦ rw is (same_nulls name)
  | inr (inl is) ↦ rw is (same_nulls name)
  | inr (inr (inl is)) ↦ rw is (same_nulls name)
  | inr (inr (inr plain)) ↦
      ap (λ (w : List ℕ). list_all is_no_null (w ++ escaped name)) (plain_escaped octet plain)
      ∙ ap (λ (b : Bool). is_no_null octet && b) (same_nulls name)
]

same_name : (name : List ℕ) → is_name (escaped name) ≡ is_name name
same_name name = rw (escaped_parts name, same_parts (slashed name), same_nulls name) refl

-- a name as it stands in a line is one exactly if the name is
pub name_stands : (octets : List ℕ) → is_escaped octets ≡ true → is_name (unescaped octets) ≡ is_name octets
name_stands octets e = sym (same_name (unescaped octets)) ∙ ap is_name (escaped_back octets e)

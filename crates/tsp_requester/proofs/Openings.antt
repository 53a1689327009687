-- The beginnings of the elements round a token make up the file with it.
use Rattle.std.proofs.Common.{◌≡◌, ◌↔◌, ℕ, ◌+◌, ◌<◌, true, false, List, [], ◌∷◌, ◌++◌, length, refl, sym, ap, ◌∙◌}
use Rattle.std.proofs.Common.{append_assoc, arith, length-append, inl, inr}
use Rattle.std.proofs.lemmas.Bool.{cases_lt}
use Rattle.der_core.specs.Element.{el}
use Rattle.der_core.specs.Values.{HasLength}
use Rattle.tsp_requester.specs.declared.opening.Opening.{Opening}
use Rattle.tsp_requester.specs.Pieces.{PiecesValue, opening_octets, openings_octets, attribute_inside, unsigned_inside}
use Rattle.tsp_requester.specs.Pieces.{signer_inside, signers_inside}
use Rattle.tsp_requester.specs.Pieces.{data_inside, file_of, stamp_id, data_id}

-- ---- lengths

pub too_so : (front inner : List ℕ) (inside : ℕ) → 4294967295 < length front + inside → length inner ≡ inside
    → HasLength (front ++ inner) → ⊥
too_so front inner inside h e fit = omega (arith, length-append front inner)

pub fits_so : (front inner : List ℕ) (inside : ℕ) → (false ≡ true) ↔ (4294967295 < length front + inside)
    → length inner ≡ inside → HasLength (front ++ inner)
fits_so front inner inside iff e = elim (cases_lt (length (front ++ inner)) 4294967296) [
  | inl a ↦ omega arith
  | inr b ↦ absurd (never (iff.1 (omega (arith, length-append front inner))))
]
  where
    never : false ≡ true → ⊥
    never e = absurd cc

pub behind_length : (x b : List ℕ) (n : ℕ) → length x ≡ n → length (x ++ b) ≡ n + length b
behind_length x b n e = length-append x b ∙ ap (λ (m : ℕ). m + length b) e

-- ---- octets

-- what an element begins with, and what follows that
up : (o rest z whole inner : List ℕ) → whole ≡ o ++ inner → inner ≡ rest ++ z → whole ≡ (o ++ rest) ++ z
up o rest z whole inner e f = e ∙ ap (λ (x : List ℕ). o ++ x) f ∙ sym (append_assoc o rest z)

-- the same where something follows the element
up_behind : (o rest z whole inner b : List ℕ) → whole ≡ o ++ inner → inner ++ b ≡ rest ++ z
    → whole ++ b ≡ (o ++ rest) ++ z
up_behind o rest z whole inner b e f =
    ap (λ (x : List ℕ). x ++ b) e ∙ append_assoc o inner b ∙ ap (λ (x : List ℕ). o ++ x) f ∙ sym (append_assoc o rest z)

abbrev Begins : Opening → List ℕ → List ℕ → Type 0
Begins o inner whole = whole ≡ opening_octets o ++ inner

module _ (p : PiecesValue) (token : List ℕ) where
  inner_signer : (o4 o3 o2 o1 : Opening) → Begins o1 token (el 0x31 token)
      → Begins o2 (el 0x31 token) (el 0x30 (attribute_inside token))
      → Begins o3 (el 0x30 (attribute_inside token)) (el 0xa1 (unsigned_inside p token))
      → Begins o4 (el 0xa1 (unsigned_inside p token)) (el 0x30 (signer_inside p token))
      → el 0x30 (signer_inside p token) ++ p.behind ≡ openings_octets (o4 ∷ o3 ∷ o2 ∷ o1 ∷ []) ++ (token ++ p.behind)
  inner_signer o4 o3 o2 o1 e1 e2 e3 e4 =
      let t : List ℕ = token ++ p.behind in
      let f1 = up_behind (opening_octets o1) [] t (el 0x31 token) token p.behind e1 refl in
      let f2 = up_behind (opening_octets o2) (openings_octets (o1 ∷ [])) t (el 0x30 (attribute_inside token))
      (el 0x31 token) p.behind e2 f1 in
      let f3 = up_behind (opening_octets o3) (openings_octets (o2 ∷ o1 ∷ [])) t (el 0xa1 (unsigned_inside p token))
      (el 0x30 (attribute_inside token)) p.behind e3 f2 in
      up_behind (opening_octets o4) (openings_octets (o3 ∷ o2 ∷ o1 ∷ [])) t (el 0x30 (signer_inside p token))
      (el 0xa1 (unsigned_inside p token)) p.behind e4 f3

  whole_file : (o8 o7 o6 o5 : Opening) (os : List Opening)
      → el 0x30 (signer_inside p token) ++ p.behind ≡ openings_octets os ++ (token ++ p.behind)
      → Begins o5 (el 0x30 (signer_inside p token) ++ p.behind) (el 0x31 (signers_inside p token))
      → Begins o6 (el 0x31 (signers_inside p token)) (el 0x30 (data_inside p token))
      → Begins o7 (el 0x30 (data_inside p token)) (el 0xa0 (el 0x30 (data_inside p token)))
      → Begins o8 (el 0xa0 (el 0x30 (data_inside p token))) (file_of p token)
      → openings_octets (o8 ∷ o7 ∷ o6 ∷ o5 ∷ os) ++ (token ++ p.behind) ≡ file_of p token
  whole_file o8 o7 o6 o5 os e4 e5 e6 e7 e8 =
      let t : List ℕ = token ++ p.behind in
      let f5 = up (opening_octets o5) (openings_octets os) t (el 0x31 (signers_inside p token))
      (el 0x30 (signer_inside p token) ++ p.behind) e5 e4 in
      let f6 = up (opening_octets o6) (openings_octets (o5 ∷ os)) t (el 0x30 (data_inside p token))
      (el 0x31 (signers_inside p token)) e6 f5 in
      let f7 = up (opening_octets o7) (openings_octets (o6 ∷ o5 ∷ os)) t (el 0xa0 (el 0x30 (data_inside p token)))
      (el 0x30 (data_inside p token)) e7 f6 in
      sym (up (opening_octets o8) (openings_octets (o7 ∷ o6 ∷ o5 ∷ os)) t (file_of p token)
      (el 0xa0 (el 0x30 (data_inside p token))) e8 f7)

-- ---- how long each is, from the inside

-- this is how an element with this tag begins, whose contents these octets and so many others are
abbrev pub Opens : Opening → (tag : ℕ) → (front : List ℕ) → (inside : ℕ) → Type 0
Opens o tag front inside = (inner : List ℕ) → length inner ≡ inside
    → Begins o inner (el tag (front ++ inner)) × (length (el tag (front ++ inner)) ≡ o.size)

module _ (p : PiecesValue) (token : List ℕ) (o1 : Opening) (h1 : Opens o1 0x31 [] (length token)) where
  pub opened_1 : Begins o1 token (el 0x31 token) × (length (el 0x31 token) ≡ o1.size)
  opened_1 = h1 token refl

  module _ (o2 : Opening) (h2 : Opens o2 0x30 stamp_id o1.size) where
    pub opened_2 : Begins o2 (el 0x31 token) (el 0x30 (attribute_inside token))
        × (length (el 0x30 (attribute_inside token)) ≡ o2.size)
    opened_2 = h2 (el 0x31 token) opened_1.1

    module _ (o3 : Opening) (h3 : Opens o3 0xa1 p.unsigned o2.size) where
      pub opened_3 : Begins o3 (el 0x30 (attribute_inside token)) (el 0xa1 (unsigned_inside p token))
          × (length (el 0xa1 (unsigned_inside p token)) ≡ o3.size)
      opened_3 = h3 (el 0x30 (attribute_inside token)) opened_2.1

      module _ (o4 : Opening) (h4 : Opens o4 0x30 p.signer_front o3.size) where
        pub opened_4 : Begins o4 (el 0xa1 (unsigned_inside p token)) (el 0x30 (signer_inside p token))
            × (length (el 0x30 (signer_inside p token)) ≡ o4.size)
        opened_4 = h4 (el 0xa1 (unsigned_inside p token)) opened_3.1

        module _ (o5 : Opening) (h5 : Opens o5 0x31 p.before (o4.size + length p.behind)) where
          pub opened_5 : Begins o5 (el 0x30 (signer_inside p token) ++ p.behind) (el 0x31 (signers_inside p token))
              × (length (el 0x31 (signers_inside p token)) ≡ o5.size)
          opened_5 = h5 (el 0x30 (signer_inside p token) ++ p.behind)
              (behind_length (el 0x30 (signer_inside p token)) p.behind o4.size opened_4.1)

          module _ (o6 : Opening) (h6 : Opens o6 0x30 p.data_front o5.size) where
            pub opened_6 : Begins o6 (el 0x31 (signers_inside p token)) (el 0x30 (data_inside p token))
                × (length (el 0x30 (data_inside p token)) ≡ o6.size)
            opened_6 = h6 (el 0x31 (signers_inside p token)) opened_5.1

            module _ (o7 : Opening) (h7 : Opens o7 0xa0 [] o6.size) where
              pub opened_7 : Begins o7 (el 0x30 (data_inside p token)) (el 0xa0 (el 0x30 (data_inside p token)))
                  × (length (el 0xa0 (el 0x30 (data_inside p token))) ≡ o7.size)
              opened_7 = h7 (el 0x30 (data_inside p token)) opened_6.1

              module _ (o8 : Opening) (h8 : Opens o8 0x30 data_id o7.size) where
                pub opened_8 : Begins o8 (el 0xa0 (el 0x30 (data_inside p token))) (file_of p token)
                    × (length (file_of p token) ≡ o8.size)
                opened_8 = h8 (el 0xa0 (el 0x30 (data_inside p token))) opened_7.1

                -- they are the file's
                pub opens_file : openings_octets (o8 ∷ o7 ∷ o6 ∷ o5 ∷ o4 ∷ o3 ∷ o2 ∷ o1 ∷ []) ++ (token ++ p.behind)
                    ≡ file_of p token
                opens_file = whole_file p token o8 o7 o6 o5 (o4 ∷ o3 ∷ o2 ∷ o1 ∷ [])
                    (inner_signer p token o4 o3 o2 o1 opened_1.0 opened_2.0 opened_3.0 opened_4.0)
                    opened_5.0 opened_6.0 opened_7.0 opened_8.0

-- The readings in the order in which a pass goes are those of the file.
use Rattle.std.proofs.Common.{◌≡◌, ℕ, Bool, true, false, List, [], ◌∷◌, Result, Ok, Err, refl, sym, ap, ◌∙◌, inl, inr}
use Rattle.std.proofs.Common.{◌⊎◌}
use Rattle.std.specs.Prelude.{if◌then◌else◌}
use Rattle.der_core.specs.declared.fault.Fault.{Fault}
use Rattle.der_core.specs.Lists.{is_same}
use Rattle.der_grammar.specs.Table.{id_signed_data}
use Rattle.der_core.specs.Reading.{oid_in, version_in}
use Rattle.der_core.specs.Results.{◌>>=◌}
use Rattle.cms_types.specs.SignedDataValue.{SignedDataValue, ContentInfoValue, SignedContent, OtherContent}
use Rattle.cms_types.specs.SignedDataReading.{signers_in, signed_data_from, content_info_from}
use Rattle.cms_stream_laws.specs.OpenReading.{OpenSpot, OpenReader, OpenBody, enter_openly, end_openly, within_openly}
use Rattle.cms_stream_laws.specs.OpenReading.{◌then_openly◌, whole_openly, made_openly}
use Rattle.cms_stream_laws.specs.OpenReading.{maybe_openly, kept}
use Rattle.cms_stream_laws.specs.OpenContentInfo.{algorithms_openly, encapsulated_openly, certificates_openly}
use Rattle.cms_stream_laws.specs.OpenContentInfo.{crls_openly, signed_data_openly}
use Rattle.cms_stream_laws.specs.OpenContentInfo.{explicit_signed_data_openly, signed_content_openly}
use Rattle.cms_stream_laws.specs.OpenContentInfo.{other_content_openly, content_info_openly}
use Rattle.cms_stream_laws.specs.Laws.{before_signers}
use Rattle.cms_stream.specs.Stages.{signed_head_in, signed_from, signed_in, explicit_signed_in, signed_content_in}
use Rattle.cms_stream.specs.Stages.{content_in}

pub cases_of : {A : Type 0} (r : Result A Fault) → ((f : Fault) × (r ≡ Err f)) ⊎ ((x : A) × (r ≡ Ok x))
cases_of (Err f) = inl (f, refl)
cases_of (Ok x) = inr (x, refl)

-- ---- the parts in order

-- one step after another, of which the second gives the same
under : {A B : Type 0} (r : Result A Fault) {f g : A → Result B Fault} → ((x : A) → f x ≡ g x) → (r >>= f) ≡ (r >>= g)
under (Err f) same = refl
under (Ok x) same = same x

grouped : {A B C : Type 0} (r : Result A Fault) (f : A → Result B Fault) (g : B → Result C Fault)
    → ((r >>= f) >>= g) ≡ (r >>= λ x. f x >>= g)
grouped (Err f) g h = refl
grouped (Ok x) g h = refl

given_on : {A : Type 0} (r : Result A Fault) → (r >>= λ x. Ok x) ≡ r
given_on (Err f) = refl
given_on (Ok x) = refl

-- two parts, and what follows
apart : {A B C : Type 0} (a : OpenReader A) (b : OpenReader B) (k : (A × B) × OpenSpot → Result C Fault) (w : OpenSpot)
    → ((a then_openly b) w >>= k) ≡ (a w >>= λ x. b x.1 >>= λ y. k ((x.0, y.0), y.1))
apart a b k w =
    grouped (a w) (λ x. b x.1 >>= λ y. Ok ((x.0, y.0), y.1)) k
    ∙ under (a w) (λ x. grouped (b x.1) (λ y. Ok ((x.0, y.0), y.1)) k)

module _ {A B C D E : Type 0} (a : OpenReader A) (b : OpenReader B) (c : OpenReader C) (d : OpenReader D)
    (e : OpenReader E) where
  -- five parts, and what follows
  all_apart : {Z : Type 0} (k : (A × (B × (C × (D × E)))) × OpenSpot → Result Z Fault) (w : OpenSpot)
      → ((a then_openly b then_openly c then_openly d then_openly e) w >>= k)
      ≡ (a w >>= λ x. b x.1 >>= λ y. c y.1 >>= λ z. d z.1 >>= λ u. e u.1
      >>= λ v. k ((x.0, (y.0, (z.0, (u.0, v.0)))), v.1))
  all_apart k w =
      apart a (b then_openly c then_openly d then_openly e) k w
      ∙ under (a w) (λ x. apart b (c then_openly d then_openly e) (λ y. k ((x.0, y.0), y.1)) x.1
      ∙ under (b x.1) (λ y. apart c (d then_openly e) (λ z. k ((x.0, (y.0, z.0)), z.1)) y.1
      ∙ under (c y.1) (λ z. apart d e (λ u. k ((x.0, (y.0, (z.0, u.0))), u.1)) z.1)))

  five_same : (w : OpenSpot)
      → ((a then_openly b) w >>= λ x. c x.1 >>= λ y. d y.1 >>= λ z. e z.1
      >>= λ u. Ok ((x.0.0, (x.0.1, (y.0, (z.0, u.0)))), u.1))
      ≡ (a then_openly b then_openly c then_openly d then_openly e) w
  five_same w =
      apart a b (λ x. c x.1 >>= λ y. d y.1 >>= λ z. e z.1 >>= λ u. Ok ((x.0.0, (x.0.1, (y.0, (z.0, u.0)))), u.1)) w
      ∙ sym (all_apart (λ x. Ok x) w)
      ∙ given_on ((a then_openly b then_openly c then_openly d then_openly e) w)

module _ {A B C D E S Z : Type 0} (a : OpenReader A) (b : OpenReader B) (c : OpenReader C) (d : OpenReader D)
    (e : OpenReader E) (s : OpenReader S) (to : A × (B × (C × (D × (E × S)))) → Z) where
  abbrev made : (A × (B × (C × (D × (E × S))))) × OpenSpot → Result Z Fault
  made x = end_openly x.1 >>= λ u. Ok (to x.0)

  six_same : (w : OpenSpot)
      → ((a then_openly b then_openly c then_openly d then_openly e) w >>= λ x. s x.1 >>= λ y. end_openly y.1
      >>= λ u. Ok (to (x.0.0, (x.0.1.0, (x.0.1.1.0, (x.0.1.1.1.0, (x.0.1.1.1.1, y.0)))))))
      ≡ made_openly to (whole_openly (a then_openly b then_openly c then_openly d then_openly e then_openly s)) w
  six_same w =
      let all = (a then_openly b then_openly c then_openly d then_openly e then_openly s) w in
      all_apart a b c d e (λ x. s x.1 >>= λ y. made (
        (x.0.0, (x.0.1.0, (x.0.1.1.0, (x.0.1.1.1.0, (x.0.1.1.1.1, y.0))))),
        y.1,
      )) w
      ∙ sym (grouped all (λ x. end_openly x.1 >>= λ u. Ok x.0) (λ x. Ok (to x))
      ∙ under all (λ x. grouped (end_openly x.1) (λ u. Ok x.0) (λ y. Ok (to y)))
      ∙ all_apart a b c d (e then_openly s) made w
      ∙ under (a w) (λ x. under (b x.1) (λ y. under (c y.1) (λ z. under (d z.1) (λ u.
      apart e s (λ v. made ((x.0, (y.0, (z.0, (u.0, v.0)))), v.1)) u.1)))))

pub head_same : (w : OpenSpot) → signed_head_in w ≡ before_signers w
unfolding signed_head_in
head_same w =
    five_same (within_openly 0x02 (kept (version_in (1 ∷ 3 ∷ 4 ∷ 5 ∷ [])))) (within_openly 0x31 algorithms_openly)
    (within_openly 0x30 encapsulated_openly)
    (maybe_openly 0xa0 certificates_openly) (maybe_openly 0xa1 crls_openly) w

signed_same : (w : OpenSpot) → signed_in w ≡ signed_data_openly w
unfolding signed_in signed_data_openly
signed_same w =
    ap (λ r. r >>= λ x. within_openly 0x31 (kept signers_in) x.1 >>= λ y. end_openly y.1
    >>= λ u. Ok (signed_from x.0 y.0)) (head_same w)
    ∙ six_same (within_openly 0x02 (kept (version_in (1 ∷ 3 ∷ 4 ∷ 5 ∷ [])))) (within_openly 0x31 algorithms_openly)
    (within_openly 0x30 encapsulated_openly)
    (maybe_openly 0xa0 certificates_openly) (maybe_openly 0xa1 crls_openly)
    (within_openly 0x31 (kept signers_in)) signed_data_from w

-- ---- the elements that hold it

inside_same : {A : Type 0} (tag : ℕ) (read openly : OpenBody A) → ((w : OpenSpot) → read w ≡ openly w) → (w : OpenSpot)
    → whole_openly (within_openly tag read) w ≡ whole_openly (within_openly tag openly) w
inside_same tag read openly same w = elim (cases_of (enter_openly tag w)) [
  | inl h ↦ rw h.1 refl
  | inr x ↦ rw (x.1, same x.0.0) refl
]

explicit_same : (w : OpenSpot) → explicit_signed_in w ≡ explicit_signed_data_openly w
unfolding explicit_signed_in explicit_signed_data_openly
explicit_same w = inside_same 48 signed_in signed_data_openly signed_same w

content_same : (w : OpenSpot) → signed_content_in w ≡ signed_content_openly w
unfolding signed_content_in signed_content_openly
content_same w = inside_same 160 explicit_signed_in explicit_signed_data_openly explicit_same w

module _ (first : OpenReader (List ℕ)) (signed openly : OpenBody SignedDataValue) (other : OpenBody (List ℕ))
    (same : (w : OpenSpot) → signed w ≡ openly w)
  where
    abbrev chosen : Bool → List ℕ → OpenSpot → Result ContentInfoValue Fault
    chosen b id w = if b then (signed w >>= λ v. Ok (SignedContent v)) else (other w >>= λ x. Ok (OtherContent id x))

    abbrev switched : Bool → List ℕ → OpenSpot → Result ContentInfoValue Fault
    switched b id w = (if b then (openly w >>= λ v. Ok (inl v)) else (other w >>= λ x. Ok (inr (id, x))))
        >>= λ c. Ok (content_info_from c)

    by_type : (b : Bool) (id : List ℕ) (w : OpenSpot) → chosen b id w ≡ switched b id w
    by_type true id w = elim (cases_of (openly w)) [
      | inl h ↦ rw (same w, h.1) refl
      | inr x ↦ rw (same w, x.1) refl
    ]
    by_type false id w = elim (cases_of (other w)) [
      | inl h ↦ rw h.1 refl
      | inr x ↦ rw x.1 refl
    ]

pub info_same : (w : OpenSpot) → content_in w ≡ content_info_openly w
unfolding content_in content_info_openly
info_same w = elim (cases_of (within_openly 0x06 (kept oid_in) w)) [
  | inl h ↦ rw h.1 refl
  | inr x ↦ rw x.1 (by_type
      (within_openly 0x06 (kept oid_in)) signed_content_in signed_content_openly other_content_openly content_same
      (is_same id_signed_data x.0.0) x.0.0 x.0.1)
]

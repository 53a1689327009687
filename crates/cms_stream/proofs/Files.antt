-- A file is read by its outermost header, by its contents, and by what is behind them.
use Rattle.std.proofs.Common.{◌≡◌, ℕ, ◌+◌, ◌-◌, ◌≤◌, Bool, true, false, cond, List, [], ◌∷◌, length, drop, Result, Ok}
use Rattle.std.proofs.Common.{Err, refl, ◌∙◌, arith, inl, inr}
use Rattle.std.proofs.lemmas.Bool.{cases_lt, ne_eqb, eq-eqb}
use Rattle.std.proofs.lemmas.List.{length-drop}
use Rattle.der_core.specs.declared.fault.Fault.{Fault}
use Rattle.der_core.specs.declared.fault.Kind.TheVariants.{Tag}
use Rattle.der_core.specs.Reading.{fault, spot, is_other}
use Rattle.der_core.specs.Results.{◌>>=◌}
use Rattle.cms_types.specs.SignedDataValue.{ContentInfoValue}
use Rattle.cms_stream_laws.specs.OpenReading.{open_spot, length_in, heading}
use Rattle.cms_stream_laws.specs.OpenContentInfo.{content_info_openly, contents_of, file_end, file_openly}
use Rattle.cms_stream.specs.Passing.{past, outer_size, last_in}

abbrev Answer : Type 0
Answer = Result ContentInfoValue Fault

abbrev contents_in : List ℕ → ℕ → Answer
contents_in bytes l = content_info_openly (contents_of bytes l) >>= file_end bytes l

pub file_read : (bytes : List ℕ) → file_openly bytes ≡ (outer_size bytes >>= contents_in bytes)
unfolding file_openly outer_size
file_read [] = refl
file_read (x ∷ xs) = by_tag (is_other 0x30 (x ∷ xs)) (length_in (open_spot 0 0 (x ∷ xs)) (x ∷ xs))
  where
    by_tag : (b : Bool) (r : Result ℕ Fault) → cond b (Err (fault Tag 0)) (r >>= contents_in (x ∷ xs))
        ≡ (cond b (Err (fault Tag 0)) r >>= contents_in (x ∷ xs))
    by_tag true r = refl
    by_tag false r = refl

-- the contents stood, and whether anything is behind them
pub end_read : (bytes : List ℕ) (l : ℕ) (c : ContentInfoValue) → heading l + l ≤ length bytes
    → file_end bytes l c ≡ (last_in (past (heading l + l) (spot (heading l) (drop (heading l) bytes))) >>= λ u. Ok c)
unfolding last_in
end_read bytes l c le =
    let size : length (drop (heading l + l - heading l) (drop (heading l) bytes)) ≡ length bytes - (heading l + l) =
    length-drop (heading l + l - heading l) (drop (heading l) bytes) ∙ omega (arith, length-drop (heading l) bytes) in
    elim (cases_lt (heading l + l) (length bytes)) [
      | inl lt ↦ rw (
        size,
        ne_eqb (length bytes - (heading l + l)) 0 (λ z. omega (arith, z, lt)),
        ne_eqb (length bytes) (heading l + l)
            (λ z. omega (arith, z, lt)),
      ) refl
      | inr ge ↦ rw (
        size,
        eq-eqb (length bytes - (heading l + l)) 0 (omega (arith, ge)),
        eq-eqb (length bytes) (heading l + l) (omega (arith, ge, le)),
      ) refl
    ]

-- A file that is read from the left, its end unknown, is read as a slice is.
use Rattle.std.proofs.Common.{◌≡◌, ℕ, zero, suc, ◌+◌, ◌-◌, ◌<◌, ◌≤◌, slice_index, Bool, true, false, List, [], ◌∷◌}
use Rattle.std.proofs.Common.{◌++◌, length, take, drop, Result, Ok, Err}
use Rattle.std.proofs.Common.{refl, sym, ap, subst, ◌∙◌, arith, inl, inr, ◌⊎◌}
use Rattle.std.proofs.lemmas.Bool.{cases_lt, lt-ltb, le-ltb, ne_eqb, eq-eqb}
use Rattle.std.proofs.lemmas.List.{length-append, length-drop, length-take-le, drop-append-le}
use Rattle.std.proofs.Math.Seq.{take-length}
use Rattle.der_core.specs.declared.fault.Fault.{Fault}
use Rattle.der_core.specs.declared.fault.Kind.TheVariants.{Tag}
use Rattle.der_core.specs.Element.{IsBytes}
use Rattle.der_core.specs.Reading.{fault, Spot, spot, enter_at, end_at, is_other}
use Rattle.der_core.specs.Results.{◌>>=◌}
use Rattle.der_core.proofs.ReadLengths.{IsBytes-drop}
use Rattle.cms_types.specs.SignedDataValue.{ContentInfoValue}
use Rattle.cms_types.specs.SignedDataReading.{content_info_in, content_info_at}
use Rattle.cms_types.proofs.SignedDataReaders.{content_takes, content_fault, content_again}
use Rattle.cms_stream_laws.specs.OpenReading.{OpenSpot, open_spot, closed, grown, ahead, lost, length_in, heading}
use Rattle.cms_stream_laws.specs.OpenReading.{entered, enter_openly, IsMet, StaysBody}
use Rattle.cms_stream_laws.specs.OpenContentInfo.{content_info_openly, contents_of, file_end, file_openly}
use Rattle.cms_stream_laws.specs.Laws.{Completes, CutAlike, FilesAreReadAlike, FaultsAreOfFiles, GoodFilesAreRead}
use Rattle.cms_stream_laws.specs.Laws.{ReadFilesAreGood}
use Rattle.cms_stream_laws.proofs.OpenReaders.{both, enter_same}
use Rattle.cms_stream_laws.proofs.OpenLaws.{length_there}
use Rattle.cms_stream_laws.proofs.Steady.{SizeStays, size_stays}
use Rattle.cms_stream_laws.proofs.OpenContentInfos.{content_info_open, content_info_steady}

abbrev Answer : Type 0
Answer = Result ContentInfoValue Fault

-- the whole of some octets
abbrev all_of : List ℕ → OpenSpot
all_of bytes = open_spot (length bytes) 0 bytes

abbrev inside_of : Spot × Spot → Result (ContentInfoValue × Spot) Fault
inside_of x = content_info_in x.0 >>= λ a. Ok (a, x.1)

abbrev ended : ContentInfoValue × Spot → Answer
ended x = end_at x.1 >>= λ u. Ok x.0

-- a slice is read by its header and what that leads to
at_header : (bytes : List ℕ) → IsBytes bytes
    → content_info_at bytes ≡ (((enter_openly 0x30 (all_of bytes) >>= both) >>= inside_of) >>= ended)
unfolding content_info_at
at_header bytes fits =
    let whole : take (length bytes) bytes ≡ bytes = take-length bytes in
    let same = enter_same 48 (all_of bytes) (omega arith) fits in
    let entering : enter_at 0x30 (spot 0 bytes)
    ≡ (enter_openly 0x30 (all_of bytes) >>= both) =
    subst (λ (xs : List ℕ). enter_at 0x30 (spot 0 xs) ≡ (enter_openly 0x30 (all_of bytes) >>= both)) whole
    same in
    ap (λ (r : Result (Spot × Spot) Fault). (r >>= inside_of) >>= ended) entering

-- where the header is good
header_is : (bytes : List ℕ) (l : ℕ) → is_other 0x30 bytes ≡ false → length_in (open_spot 0 0 bytes) bytes ≡ Ok l
    → enter_openly 0x30 (all_of bytes) ≡ entered (all_of bytes) l
unfolding enter_openly
header_is bytes l other size =
    let whole : take (length bytes) bytes ≡ bytes = take-length bytes in
    let sized : length_in (all_of bytes) bytes ≡ Ok l = at_pos bytes ∙ size in
    rw (whole, other, sized) refl
  where
    at_pos : (xs : List ℕ) → length_in (all_of bytes) xs ≡ length_in (open_spot 0 0 bytes) xs
    at_pos [] = refl
    at_pos (x ∷ xs) = refl

-- where it isn't
header_fails : (bytes : List ℕ) (f : Fault) → is_other 0x30 bytes ≡ false
    → length_in (open_spot 0 0 bytes) bytes ≡ Err f
    → enter_openly 0x30 (all_of bytes) ≡ Err f
unfolding enter_openly
header_fails bytes f other size =
    let whole : take (length bytes) bytes ≡ bytes = take-length bytes in
    let sized : length_in (all_of bytes) bytes ≡ Err f = at_pos bytes ∙ size in
    rw (whole, other, sized, le-ltb (length bytes) (length bytes) (omega arith)) refl
  where
    at_pos : (xs : List ℕ) → length_in (all_of bytes) xs ≡ length_in (open_spot 0 0 bytes) xs
    at_pos [] = refl
    at_pos (x ∷ xs) = refl

contents_met : (bytes : List ℕ) (l : ℕ) → heading l + l ≤ length bytes → IsMet (contents_of bytes l)
contents_met bytes l le = omega (arith, le, length-drop (heading l) bytes)

contents_bytes : (bytes : List ℕ) (l : ℕ) → IsBytes bytes → IsBytes (contents_of bytes l).rest
contents_bytes bytes l fits = IsBytes-drop (heading l) bytes fits

-- the outermost element is whole
whole_file : (bytes : List ℕ) (l : ℕ) → IsBytes bytes → is_other 0x30 bytes ≡ false
    → length_in (open_spot 0 0 bytes) bytes ≡ Ok l
    → heading l + l ≤ length bytes
    → content_info_at bytes ≡ (content_info_openly (contents_of bytes l) >>= file_end bytes l)
unfolding end_at
whole_file bytes l fits other size le =
    at_header bytes fits ∙ rw (
      header_is bytes l other size,
      le-ltb (length bytes) (heading l + l) le,
      at_contents,
      content_info_open.same
          (contents_of bytes l) (contents_met bytes l le) (contents_bytes bytes l fits),
    ) (by_answer (content_info_openly (contents_of bytes l)))
  where
    at_contents : 0 + heading l ≡ heading l
    at_contents = omega arith

    at_end : 0 + (heading l + l) ≡ heading l + l
    at_end = omega arith

    rest_size : length (take (length bytes - (heading l + l)) (drop (heading l + l) bytes))
        ≡ length bytes - (heading l + l)
    rest_size = length-take-le (length bytes - (heading l + l)) (drop (heading l + l) bytes)
        (omega (arith, length-drop (heading l + l) bytes))

    end_is : (c : ContentInfoValue)
        → (end_at (closed (ahead (heading l + l) (all_of bytes))) >>= λ u. Ok c) ≡ file_end bytes l c
    end_is c = elim (cases_lt (heading l + l) (length bytes)) [
      | inl lt ↦ rw (
        rest_size,
        ne_eqb (length bytes - (heading l + l)) 0 (λ z. omega (arith, z, lt)),
        ne_eqb (length bytes) (heading l + l)
            (λ z. omega (arith, z, lt)),
        at_end,
      ) refl
      | inr ge ↦ rw (
        rest_size,
        eq-eqb (length bytes - (heading l + l)) 0 (omega (arith, ge)),
        eq-eqb (length bytes) (heading l + l) (omega (arith, ge, le)),
      )
          refl
    ]

    by_answer : (r : Answer)
        → ((r >>= λ a. Ok (a, closed (ahead (heading l + l) (all_of bytes)))) >>= ended) ≡ (r >>= file_end bytes l)
    by_answer (Ok c) = end_is c
    by_answer (Err f) = refl

-- it isn't: a slice that is cut is refused at its front
cut_file : (bytes : List ℕ) (l : ℕ) → IsBytes bytes → is_other 0x30 bytes ≡ false
    → length_in (open_spot 0 0 bytes) bytes ≡ Ok l → length bytes < heading l + l
    → content_info_at bytes ≡ Err lost
cut_file bytes l fits other size lt =
    at_header bytes fits ∙ rw (header_is bytes l other size, lt-ltb (length bytes) (heading l + l) lt) refl

pub opened : (bytes : List ℕ) (l : ℕ) → is_other 0x30 bytes ≡ false → length_in (open_spot 0 0 bytes) bytes ≡ Ok l
    → file_openly bytes ≡ (content_info_openly (contents_of bytes l) >>= file_end bytes l)
unfolding file_openly
opened bytes l other size = rw (other, size) refl

-- the header is the same with more octets behind
grown_header : (bytes more : List ℕ) (l : ℕ) → is_other 0x30 bytes ≡ false
    → length_in (open_spot 0 0 bytes) bytes ≡ Ok l
    → (is_other 0x30 (bytes ++ more) ≡ false) × (length_in (open_spot 0 0 (bytes ++ more)) (bytes ++ more) ≡ Ok l)
grown_header [] more l other size = absurd cc
grown_header (t ∷ xs) more l other size =
    let g = size_stays (open_spot 0 0 (t ∷ xs)) (t ∷ xs) more (open_spot 0 0 (t ∷ xs ++ more)) refl in (
      other,
      subst
          (λ (r : Result ℕ Fault). SizeStays r (length_in (open_spot 0 0 (t ∷ xs ++ more)) (t ∷ xs ++ more))) size g,
    )

bytes_joined : (bytes more : List ℕ) → IsBytes bytes → IsBytes more → (i : ℕ) → slice_index (bytes ++ more) i < 256
bytes_joined [] more h g i = g i
bytes_joined (x ∷ xs) more h g zero = h zero
bytes_joined (x ∷ xs) more h g (suc i) = bytes_joined xs more (λ j. h (suc j)) g i

header_other : (bytes : List ℕ) → is_other 0x30 bytes ≡ true → enter_openly 0x30 (all_of bytes) ≡ Err (fault Tag 0)
unfolding enter_openly
header_other bytes other = rw (take-length bytes, other) refl

-- what the octets that are there show is shown by each file that they begin
cut_always : (bytes : List ℕ) (l : ℕ) (f : Fault) → IsBytes bytes → is_other 0x30 bytes ≡ false
    → length_in (open_spot 0 0 bytes) bytes ≡ Ok l
    → content_info_openly (contents_of bytes l) ≡ Err f → (more : List ℕ) → Completes bytes l more
    → (f ≡ lost) ⊎ (content_info_at (bytes ++ more) ≡ Err f)
cut_always bytes l f fits other size e more h =
    let there = length_there (open_spot 0 0 bytes) bytes l fits size in
    let g = grown_header bytes more l other size in
    let all : heading l + l ≤ length (bytes ++ more) = let c = h.1 in omega (arith, c, length-append bytes more) in
    let same = whole_file (bytes ++ more) l (bytes_joined bytes more fits h.0) g.0 g.1 all in
    let longer : contents_of (bytes ++ more) l
    ≡ grown (contents_of bytes l) more = ap (open_spot l (heading l)) (drop-append-le (heading l) bytes more there) in
    elim (subst (λ (r : Answer). StaysBody r (content_info_openly (grown (contents_of bytes l) more))) e
    (content_info_steady (contents_of bytes l) more (contents_bytes bytes l fits))) [
      | inl lost-is ↦ inl lost-is
      | inr stays ↦ inr (same ∙ rw (longer, stays) refl)
    ]

cut : (bytes : List ℕ) → IsBytes bytes → is_other 0x30 bytes ≡ false → (l : ℕ)
    → length_in (open_spot 0 0 bytes) bytes ≡ Ok l → length bytes < heading l + l
    → (r : Answer) → content_info_openly (contents_of bytes l) ≡ r → CutAlike bytes
cut bytes fits other l size lt (Ok c) e =
    let met = content_info_open.met (contents_of bytes l) c (contents_bytes bytes l fits) e in
    let there = length_there (open_spot 0 0 bytes) bytes l fits size in
    absurd (omega (arith, met, there, lt, length-drop (heading l) bytes))
cut bytes fits other l size lt (Err f) e = record {
  size = l;
  cut = record { sequence = other; states = size; short = lt };
  slice = cut_file bytes l fits other size lt;
  fault = f;
  stops = opened bytes l other size ∙ rw e refl;
  always = cut_always bytes l f fits other size e;
}

abbrev pub failing : Fault → Answer
failing f = Err f

pub err_is : (f g : Fault) → failing f ≡ failing g → f ≡ g
err_is f g e = cc

pub read_alike : FilesAreReadAlike
unfolding file_openly
read_alike bytes fits = by_tag (is_other 0x30 bytes) refl
  where
    at_length : is_other 0x30 bytes ≡ false → (r : Result ℕ Fault) → length_in (open_spot 0 0 bytes) bytes ≡ r
        → (file_openly bytes ≡ content_info_at bytes) ⊎ CutAlike bytes
    at_length other (Err f) size =
        inl (rw (other, size) (sym (at_header bytes fits ∙ rw (header_fails bytes f other size) refl)))
    at_length other (Ok l) size = elim (cases_lt (length bytes) (heading l + l)) [
      | inr le ↦ inl (rw (other, size) (sym (whole_file bytes l fits other size le)))
      | inl lt ↦ inr (cut bytes fits other l size lt (content_info_openly (contents_of bytes l)) refl)
    ]

    by_tag : (b : Bool) → is_other 0x30 bytes ≡ b → (file_openly bytes ≡ content_info_at bytes) ⊎ CutAlike bytes
    by_tag true other = inl (rw other (sym (at_header bytes fits ∙ rw (header_other bytes other) refl)))
    by_tag false other = at_length other (length_in (open_spot 0 0 bytes) bytes) refl

-- ---- what follows from it

pub faults_of_files : FaultsAreOfFiles
faults_of_files bytes f fits e = elim (read_alike bytes fits) [
  | inl same ↦ inl (content_fault bytes f fits (sym same ∙ e))
  | inr k ↦
      let is : k.fault ≡ f = err_is k.fault f (sym k.stops ∙ e) in
      inr (
        k.size,
        k.cut,
        λ more h. elim (k.always more h) [
          | inl lost-is ↦ inl (content_fault bytes f fits (k.slice ∙ ap failing (sym lost-is ∙ is)))
          | inr stays ↦ inr (content_fault (bytes ++ more) f (bytes_joined bytes more fits h.0) (stays ∙ ap failing is))
        ],
      )
]

pub good_files : GoodFilesAreRead
good_files bytes c fits h = elim (read_alike bytes fits) [
  | inl same ↦ same ∙ content_again bytes c h
  | inr k ↦ absurd (let z = sym k.slice ∙ content_again bytes c h in cc)
]

pub read_files : ReadFilesAreGood
read_files bytes c fits e = elim (read_alike bytes fits) [
  | inl same ↦ content_takes bytes c fits (sym same ∙ e)
  | inr k ↦ absurd (let z = sym k.stops ∙ e in cc)
]

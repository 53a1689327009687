-- What a pass over a file found is so of the file.
use Rattle.std.proofs.Common.{◌≡◌, ℕ, ◌+◌, ◌-◌, ◌<◌, ◌≤◌, Bool, true, false, List, [], ◌∷◌, ◌++◌, length, drop, Option}
use Rattle.std.proofs.Common.{Some, None, Result, Ok, Err, refl, sym}
use Rattle.std.proofs.Common.{ap, subst, ◌∙◌, inl, inr, arith}
use Rattle.std.proofs.lemmas.List.{length-drop}
use Rattle.der_core.specs.declared.fault.Fault.{Fault}
use Rattle.der_core.specs.Element.{IsBytes}
use Rattle.der_core.specs.OpenFaults.{whole_length}
use Rattle.der_core.specs.Reading.{spot, is_other}
use Rattle.der_core.specs.Results.{◌>>=◌}
use Rattle.der_core.proofs.ReadLengths.{IsBytes-drop}
use Rattle.cms_types.specs.SignedDataValue.{ContentInfoValue, SignedContent, OtherContent, EncodesContentInfo}
use Rattle.cms_stream_laws.specs.OpenReading.{open_spot, length_in, heading}
use Rattle.cms_stream_laws.specs.OpenContentInfo.{content_info_openly, contents_of, file_end, file_openly}
use Rattle.cms_stream_laws.specs.Laws.{IsAtSignedData}
use Rattle.cms_stream_laws.proofs.OpenLaws.{length_there}
use Rattle.cms_stream_laws.proofs.OpenContentInfos.{content_info_open}
use Rattle.cms_stream_laws.proofs.WholeFiles.{good_files, read_files}
use Rattle.cms_stream_laws.proofs.ContentInfosShown.{faults_openly}
use Rattle.cms_stream_laws.proofs.HeadersStated.{content_type_stated, signers_stated}
use Rattle.cms_stream.specs.declared.stream_fault.StreamFault.{StreamFault}
use Rattle.cms_stream.specs.declared.stream_fault.StreamFault.TheVariants.{Malformed, ReadFailed, TooLong}
use Rattle.cms_stream.specs.Passing.{outer_size, outer_in, last_in, Finds}
use Rattle.cms_stream.specs.Opening.{OpenedValue, OpensContent, OpensStream, OpensEncoding}
use Rattle.der_grammar.specs.TooLarge.{IsTooLarge}
use Rattle.cms_stream.specs.Stages.{behind, content_in, file_in, IsFileTooLong}
use Rattle.cms_stream.proofs.Files.{file_read, end_read}
use Rattle.cms_stream.proofs.Regrouping.{cases_of, head_same, info_same}

-- ---- the outermost header

-- it stands, and states a length
record Outer (bytes : List ℕ) (l : ℕ) : Type 0 where
  pub sequence : is_other 0x30 bytes ≡ false
  pub states : length_in (open_spot 0 0 bytes) bytes ≡ Ok l
  pub there : heading l ≤ length bytes

outer_states : (bytes : List ℕ) (l : ℕ) → IsBytes bytes → outer_size bytes ≡ Ok l → Outer bytes l
unfolding outer_size
outer_states [] l fits e = absurd cc
outer_states (x ∷ xs) l fits e = by_tag (is_other 0x30 (x ∷ xs)) refl
  where
    by_tag : (b : Bool) → is_other 0x30 (x ∷ xs) ≡ b → Outer (x ∷ xs) l
    by_tag true h = absurd (let z = rw h at e in cc)
    by_tag false h =
        let states : length_in (open_spot 0 0 (x ∷ xs)) (x ∷ xs) ≡ Ok l = rw h at e in
        record { sequence = h; states = states; there = length_there (open_spot 0 0 (x ∷ xs)) (x ∷ xs) l fits states }

-- ---- the file

abbrev ended : List ℕ → ℕ → ContentInfoValue → Result ContentInfoValue Fault
ended bytes l c = last_in (behind (contents_of bytes l)) >>= λ u. Ok c

end_same : (bytes : List ℕ) (l : ℕ) (c : ContentInfoValue) → heading l + l ≤ length bytes
    → ended bytes l c ≡ file_end bytes l c
end_same bytes l c le =
    let count : heading l + l - heading l ≡ l = omega arith in
    ap (λ (n : ℕ). last_in (spot (heading l + l) (drop n (drop (heading l) bytes))) >>= λ u. Ok c) (sym count)
    ∙ sym (end_read bytes l c le)

contents_same : (bytes : List ℕ) (l : ℕ) → IsBytes bytes → outer_size bytes ≡ Ok l
    → (content_in (contents_of bytes l) >>= ended bytes l)
    ≡ (content_info_openly (contents_of bytes l) >>= file_end bytes l)
contents_same bytes l fits e = elim (cases_of (content_info_openly (contents_of bytes l))) [
  | inl h ↦ rw (info_same (contents_of bytes l), h.1) refl
  | inr x ↦
      let met : l ≤ length (drop (heading l) bytes) =
      content_info_open.met (contents_of bytes l) x.0 (IsBytes-drop (heading l) bytes fits) x.1 in
      let there = (outer_states bytes l fits e).there in
      rw (info_same (contents_of bytes l), x.1)
      (end_same bytes l x.0 (omega (arith, met, there, length-drop (heading l) bytes)))
]

from_outer : (bytes : List ℕ) (r : Result ℕ Fault) → outer_size bytes ≡ r
    → file_in bytes ≡ (r >>= λ l. content_in (contents_of bytes l) >>= ended bytes l)
unfolding file_in outer_in
from_outer bytes (Err f) e = rw e refl
from_outer bytes (Ok l) e = rw e refl

openly_from : (bytes : List ℕ) (r : Result ℕ Fault) → outer_size bytes ≡ r
    → file_openly bytes ≡ (r >>= λ l. content_info_openly (contents_of bytes l) >>= file_end bytes l)
openly_from bytes r e = file_read bytes
    ∙ ap (λ (z : Result ℕ Fault). z >>= λ l. content_info_openly (contents_of bytes l) >>= file_end bytes l) e

pub file_same : (bytes : List ℕ) → IsBytes bytes → file_in bytes ≡ file_openly bytes
file_same bytes fits = elim (cases_of (outer_size bytes)) [
  | inl h ↦ from_outer bytes (Err h.0) h.1 ∙ sym (openly_from bytes (Err h.0) h.1)
  | inr l ↦ from_outer bytes (Ok l.0) l.1 ∙ contents_same bytes l.0 fits l.1 ∙ sym (openly_from bytes (Ok l.0) l.1)
]

-- ---- what the headers state

above : (room n m k : ℕ) → n ≡ k → room - whole_length n < m → room < whole_length k + m
above room n m k e h = omega (arith, h, ap whole_length e)

pub states_too_much : (room : ℕ) (bytes : List ℕ) → IsBytes bytes → IsFileTooLong room bytes → IsTooLarge bytes room
unfolding outer_in
states_too_much room bytes fits (w, outer, (x, first, same, (y, explicit, (z, enters, long)))) =
    elim (cases_of (outer_size bytes)) [
      | inl h ↦ absurd (let e = rw h.1 at outer in cc)
      | inr l ↦
          let o = outer_states bytes l.0 fits l.1 in
          let here : contents_of bytes l.0 ≡ w = let e = rw l.1 at outer in cc in
          let there : IsAtSignedData bytes z.0 = record {
            size = l.0;
            sequence = o.sequence;
            states = o.states;
            content_type = x.0;
            behind = x.1;
            first = rw here first;
            signed = same;
            outer = y;
            explicit = explicit;
            inner = z;
            enters = enters;
            is = refl;
          } in
          elim long [
            | inl h ↦
                let (head, before, (inner, enter, (type, states, many))) = h in
                inl (
                  whole_length type.0.left,
                  content_type_stated bytes z.0 head.1 head.0 inner type fits there before enter states,
                  many,
                )
            | inr h ↦
                let (count, (head, before, (inner, enter, (type, states, is))), parts, reads, (signers, stated, many)) =
                h in inr (
                  whole_length type.0.left,
                  whole_length signers.0.left,
                  content_type_stated bytes z.0 head.1 head.0 inner type fits there before enter states,
                  signers_stated bytes z.0 parts.1 parts.0 signers fits there (sym (head_same z.0) ∙ reads) stated,
                  above room count (whole_length signers.0.left) type.0.left is many,
                )
          ]
    ]

-- ---- the outcome

pub opens_stream : (gains : List ℕ → Type 0) (room : ℕ) (bytes : List ℕ) (r : Result (Option OpenedValue) StreamFault)
    (tells : Type 0) (before after : ℕ)
    → IsBytes bytes → tells
    → Finds (OpensContent gains) (IsFileTooLong room bytes) r tells before after (file_in bytes)
    → OpensStream gains room bytes r
opens_stream gains room bytes (Ok (Some o)) tells before after fits t h =
    let (info, reads, (value, same, opened)) = h.1 t in
    (value, read_files bytes (SignedContent value) fits (sym (file_same bytes fits) ∙ reads ∙ ap Ok same), opened)
opens_stream gains room bytes (Ok None) tells before after fits t h =
    let (info, reads, (id, content, same)) = h.1 t in
    (id, content, read_files bytes (OtherContent id content) fits (sym (file_same bytes fits) ∙ reads ∙ ap Ok same))
opens_stream gains room bytes (Err (Malformed f)) tells before after fits t h =
    faults_openly bytes f fits (sym (file_same bytes fits) ∙ h.1 t)
opens_stream gains room bytes (Err TooLong) tells before after fits t h = states_too_much room bytes fits (h.1 t)
opens_stream gains room bytes (Err ReadFailed) tells before after fits t h = tt

module _ (gains : List ℕ → Type 0) (room : ℕ) (tells : Type 0) (before after : ℕ) where
  -- what a pass found of these octets
  abbrev pub Found : List ℕ → Result (Option OpenedValue) StreamFault → Type 0
  Found bytes r = Finds (OpensContent gains) (IsFileTooLong room bytes) r tells before after (file_in bytes)

  pub opens_encoding : (bytes : List ℕ) (r : Result (Option OpenedValue) StreamFault) → IsBytes bytes → tells
      → (c : ContentInfoValue)
      → EncodesContentInfo bytes c → Found bytes r → OpensEncoding gains room bytes c r
  opens_encoding bytes (Ok o) fits t c good h =
      let y = h.1 t in
      let same : Ok y.0 ≡ Ok c = sym y.1 ∙ file_same bytes fits ∙ good_files bytes c fits good in
      let is : y.0 ≡ c = cc in
      subst (λ (z : ContentInfoValue). OpensContent gains o z) is y.2
  opens_encoding bytes (Err (Malformed f)) fits t c good h =
      let same : Err f ≡ Ok c = sym (h.1 t) ∙ file_same bytes fits ∙ good_files bytes c fits good in
      absurd cc
  opens_encoding bytes (Err TooLong) fits t c good h = states_too_much room bytes fits (h.1 t)
  opens_encoding bytes (Err ReadFailed) fits t c good h = tt

  -- the same where nothing was handed out before
  pub opens_from : (window bytes : List ℕ) (r : Result (Option OpenedValue) StreamFault) → window ≡ [] → IsBytes bytes
      → tells
      → Found (window ++ bytes) r → OpensStream gains room bytes r
  opens_from window bytes r e fits t h =
      let same : window ++ bytes ≡ bytes = ap (λ (xs : List ℕ). xs ++ bytes) e in
      opens_stream gains room bytes r tells before after fits t (subst (λ (xs : List ℕ). Found xs r) same h)

  pub encoding_from : (window bytes : List ℕ) (r : Result (Option OpenedValue) StreamFault) → window ≡ []
      → IsBytes bytes → tells
      → (c : ContentInfoValue) → EncodesContentInfo bytes c → Found (window ++ bytes) r
      → OpensEncoding gains room bytes c r
  encoding_from window bytes r e fits t c good h =
      let same : window ++ bytes ≡ bytes = ap (λ (xs : List ℕ). xs ++ bytes) e in
      opens_encoding bytes r fits t c good (subst (λ (xs : List ℕ). Found xs r) same h)

-- The digestAlgorithms of a file that encodes a SignedData, as the front of the file is read.
use Rattle.std.proofs.Common.{◌≡◌, ℕ, ◌<◌, Bool, true, false, List, [], ◌∷◌, ◌++◌, length, take, Option, Some, None}
use Rattle.std.proofs.Common.{Result, Ok, Err, refl, sym, ap}
use Rattle.std.proofs.Common.{◌⊎◌, subst, ◌∙◌, arith, inl, inr}
use Rattle.std.specs.Prelude.{if◌then◌else◌}
use Rattle.std.proofs.lemmas.List.{length-take-le}
use Rattle.devices.specs.Device.{raised}
use Rattle.der_core.specs.declared.fault.Fault.{Fault}
use Rattle.der_core.specs.AlgorithmReading.{algorithm_in}
use Rattle.der_core.specs.Element.{IsBytes}
use Rattle.der_core.specs.Grammar.{algorithm}
use Rattle.der_core.specs.Lists.{is_same}
use Rattle.der_core.specs.Reading.{oid_in, version_in}
use Rattle.der_core.specs.Results.{◌>>=◌}
use Rattle.der_core.specs.Values.{AlgorithmValue, algorithm_parts}
use Rattle.der_core.proofs.AlgorithmReader.{AlgorithmParts, algorithm_body}
use Rattle.der_core.proofs.Lists.{many_body}
use Rattle.der_core.proofs.ReadLengths.{ok_is, IsBytes-take, IsBytes-drop}
use Rattle.der_core.proofs.Results.{bind_ok}
use Rattle.der_grammar.specs.Table.{id_signed_data}
use Rattle.cms_types.specs.SignedDataReading.{algorithms_in, signers_in}
use Rattle.cms_types.specs.SignedDataValue.{EncapsulatedValue, SignedDataValue, ContentInfoValue, SignedContent}
use Rattle.cms_types.specs.SignedDataValue.{OtherContent, EncodesSignedData}
use Rattle.cms_types.specs.SignedDataValue.{algorithms_parts}
use Rattle.cms_stream_laws.specs.OpenReading.{OpenSpot, OpenReader, OpenBody, closed, end_openly, enter_openly}
use Rattle.cms_stream_laws.specs.OpenReading.{within_openly, whole_openly, heading}
use Rattle.cms_stream_laws.specs.OpenReading.{maybe_openly, kept, IsMet}
use Rattle.cms_stream_laws.specs.OpenContentInfo.{algorithms_openly, encapsulated_openly, certificates_openly}
use Rattle.cms_stream_laws.specs.OpenContentInfo.{crls_openly, contents_of, other_content_openly}
use Rattle.cms_stream_laws.specs.Laws.{before_content}
use Rattle.cms_stream_laws.proofs.OpenLaws.{bytes_ahead, enter_went, inside_bytes, kept_open, within_open}
use Rattle.cms_stream_laws.proofs.OpenContentInfos.{oid_open, algorithms_open}
use Rattle.cms_stream_laws.proofs.WholeFiles.{good_files}
use Rattle.digests.specs.declared.set.Algs.{Algs}
use Rattle.cms_stream.specs.declared.stream_fault.StreamFault.{StreamFault}
use Rattle.cms_stream.specs.declared.stream_fault.StreamFault.TheVariants.{Malformed, ReadFailed, TooLong}
use Rattle.cms_stream.specs.Opening.{CountsPass}
use Rattle.cms_stream.specs.Passing.{outer_size, outer_in, last_in}
use Rattle.cms_stream.specs.Stages.{HeadParts, behind, signed_from, signed_head_in, signed_in, explicit_signed_in}
use Rattle.cms_stream.specs.Stages.{signed_content_in, content_in, file_in}
use Rattle.cms_stream.specs.Hints.{signed_at, algorithms_at, listed_at, AreListed, AreNamedBy, AreNamedIn}
use Rattle.cms_stream.specs.Hints.{IsListTooLong, Tells}
use Rattle.cms_stream.proofs.Opens.{file_same}

abbrev versions : List ℕ
versions = 1 ∷ 3 ∷ 4 ∷ 5 ∷ []

-- ---- the elements that hold the SignedData

-- a body that is one element was entered, and its contents were read
record Held {A : Type 0} (tag : ℕ) (inside : OpenBody A) (w : OpenSpot) (a : A) : Type 0 where
  pub both : OpenSpot × OpenSpot
  pub enters : enter_openly tag w ≡ Ok both
  pub reads : inside both.0 ≡ Ok a

abbrev given : {A : Type 0} → A → Result A Fault
given a = Ok a

abbrev found : {A : Type 0} → A → OpenSpot → Result (A × OpenSpot) Fault
found a w = Ok (a, w)

held_by : {A : Type 0} (tag : ℕ) (inside : OpenBody A) (w : OpenSpot) (y : A × OpenSpot)
    → within_openly tag inside w ≡ Ok y → Held tag inside w y.0
held_by {A} tag inside w y e =
    let entered = bind_ok (enter_openly tag w) (λ x. inside x.0 >>= λ a. found a x.1) y e in
    let read = bind_ok (inside entered.0.0) (λ a. found a entered.0.1) y entered.2 in
    let is : read.0 ≡ y.0 = ap (λ (p : A × OpenSpot). p.0) (ok_is (read.0, entered.0.1) y read.2) in
    record { both = entered.0; enters = entered.1; reads = read.1 ∙ ap given is }

held : {A : Type 0} (tag : ℕ) (inside : OpenBody A) (w : OpenSpot) (a : A)
    → whole_openly (within_openly tag inside) w ≡ Ok a → Held tag inside w a
held {A} tag inside w a e =
    let first = bind_ok (within_openly tag inside w) (λ x. end_openly x.1 >>= λ u. given x.0) a e in
    let last = bind_ok (end_openly first.0.1) (λ u. given first.0.0) a first.2 in
    subst (λ (z : A). Held tag inside w z) (ok_is first.0.0 a last.2) (held_by tag inside w first.0 first.1)

-- ---- the parts of the SignedData

-- its version was passed, and its digestAlgorithms were read
record Front (w : OpenSpot) (identifiers : List AlgorithmValue) : Type 0 where
  pub version : List ℕ × OpenSpot
  pub first : within_openly 0x02 (kept (version_in versions)) w ≡ Ok version
  pub algorithms : Held 0x31 (λ v. algorithms_openly v) version.1 identifiers

abbrev Before : Type 0
Before = List ℕ × List AlgorithmValue

front_by : (w : OpenSpot) (y : Before × OpenSpot) → before_content w ≡ Ok y → Front w y.0.1
front_by w y e =
    let first = bind_ok (within_openly 0x02 (kept (version_in versions)) w)
    (λ x. within_openly 0x31 (λ v. algorithms_openly v) x.1 >>= λ z. found (x.0, z.0) z.1) y e in
    let second =
    bind_ok (within_openly 0x31 (λ v. algorithms_openly v) first.0.1) (λ z. found (first.0.0, z.0) z.1) y first.2 in
    let is : second.0.0 ≡ y.0.1 =
    ap (λ (p : Before × OpenSpot). p.0.1) (ok_is ((first.0.0, second.0.0), second.0.1) y second.2) in
    record {
      version = first.0;
      first = first.1;
      algorithms = subst (λ (z : List AlgorithmValue). Held 0x31 (λ v. algorithms_openly v) first.0.1 z) is
          (held_by 0x31 (λ v. algorithms_openly v) first.0.1 second.0 second.1);
    }

-- of four parts, one after the other, the first was read, and stands in what is made of them
record Begun {A B C D Z : Type 0} (a : OpenReader A) (into : A → B → C → D → Z) (w : OpenSpot) (z : Z) : Type 0 where
  pub first : A × OpenSpot
  pub reads : a w ≡ Ok first
  pub second : B
  pub third : C
  pub fourth : D
  pub is : into first.0 second third fourth ≡ z

module _ {A B C D Z : Type 0} (a : OpenReader A) (b : OpenReader B) (c : OpenReader C) (d : OpenReader D)
    (into : A → B → C → D → Z) where
  begun_by : (w : OpenSpot) (y : Z × OpenSpot)
      → (a w >>= λ p. b p.1 >>= λ q. c q.1 >>= λ r. d r.1 >>= λ s. found (into p.0 q.0 r.0 s.0) s.1) ≡ Ok y
      → Begun a into w y.0
  begun_by w y e =
      let p = bind_ok (a w) (λ p. b p.1 >>= λ q. c q.1 >>= λ r. d r.1 >>= λ s. found (into p.0 q.0 r.0 s.0) s.1) y e in
      after_first p.0 p.1 p.2
    where
      after_third : (p : A × OpenSpot) (q : B × OpenSpot) (r : C × OpenSpot) → a w ≡ Ok p
          → (d r.1 >>= λ s. found (into p.0 q.0 r.0 s.0) s.1) ≡ Ok y → Begun a into w y.0
      after_third p q r reads h =
          let s = bind_ok (d r.1) (λ s. found (into p.0 q.0 r.0 s.0) s.1) y h in
          let is : into p.0 q.0 r.0 s.0.0 ≡ y.0 =
          ap (λ (x : Z × OpenSpot). x.0) (ok_is (into p.0 q.0 r.0 s.0.0, s.0.1) y s.2) in
          record { first = p; reads = reads; second = q.0; third = r.0; fourth = s.0.0; is = is }

      after_second : (p : A × OpenSpot) (q : B × OpenSpot) → a w ≡ Ok p
          → (c q.1 >>= λ r. d r.1 >>= λ s. found (into p.0 q.0 r.0 s.0) s.1) ≡ Ok y → Begun a into w y.0
      after_second p q reads h =
          let r = bind_ok (c q.1) (λ r. d r.1 >>= λ s. found (into p.0 q.0 r.0 s.0) s.1) y h in
          after_third p q r.0 reads r.2

      after_first : (p : A × OpenSpot) → a w ≡ Ok p
          → (b p.1 >>= λ q. c q.1 >>= λ r. d r.1 >>= λ s. found (into p.0 q.0 r.0 s.0) s.1) ≡ Ok y → Begun a into w y.0
      after_first p reads h =
          let q = bind_ok (b p.1) (λ q. c q.1 >>= λ r. d r.1 >>= λ s. found (into p.0 q.0 r.0 s.0) s.1) y h in
          after_second p q.0 reads q.2

abbrev head : Before → EncapsulatedValue → Option (List (List ℕ)) → Option (List (List ℕ)) → HeadParts
head p q r s = (p.0, (p.1, (q, (r, s))))

head_by : (w : OpenSpot) (x : HeadParts × OpenSpot) → signed_head_in w ≡ Ok x → Front w x.0.1.0
unfolding signed_head_in
head_by w x e =
    let b = begun_by (λ v. before_content v) (within_openly 0x30 encapsulated_openly)
    (maybe_openly 0xa0 certificates_openly)
    (maybe_openly 0xa1 crls_openly) head w x e in
    let same : b.first.0.1 ≡ x.0.1.0 = ap (λ (p : HeadParts). p.1.0) b.is in
    subst (λ (z : List AlgorithmValue). Front w z) same (front_by w b.first b.reads)

parts_by : (w : OpenSpot) (v : SignedDataValue) → signed_in w ≡ Ok v → Front w v.digest_algorithms
unfolding signed_in
parts_by w v e =
    let first = bind_ok (signed_head_in w)
    (λ x. within_openly 0x31 (kept signers_in) x.1 >>= λ y. end_openly y.1 >>= λ u. given (signed_from x.0 y.0)) v e in
    let signers = bind_ok (within_openly 0x31 (kept signers_in) first.0.1)
    (λ y. end_openly y.1 >>= λ u. given (signed_from first.0.0 y.0)) v first.2 in
    let last = bind_ok (end_openly signers.0.1) (λ u. given (signed_from first.0.0 signers.0.0)) v signers.2 in
    let same : first.0.0.1.0 ≡ v.digest_algorithms =
    ap (λ (d : SignedDataValue). d.digest_algorithms) (ok_is (signed_from first.0.0 signers.0.0) v last.2) in
    subst (λ (z : List AlgorithmValue). Front w z) same (head_by w first.0 first.1)

-- ---- the file

-- the front of a file of a SignedData: the elements that hold it, and its first parts
record Fronted (bytes : List ℕ) (v : SignedDataValue) : Type 0 where
  pub outer : OpenSpot
  pub begins : outer_in bytes ≡ Ok outer
  pub type : List ℕ × OpenSpot
  pub first : within_openly 0x06 (kept oid_in) outer ≡ Ok type
  pub signed : is_same id_signed_data type.0 ≡ true
  pub explicit : Held 0xa0 explicit_signed_in type.1 v
  pub inner : Held 0x30 signed_in explicit.both.0 v
  pub parts : Front inner.both.0 v.digest_algorithms

-- a content that was read as a SignedData
record Chosen (w : OpenSpot) (v : SignedDataValue) : Type 0 where
  pub type : List ℕ × OpenSpot
  pub first : within_openly 0x06 (kept oid_in) w ≡ Ok type
  pub signed : is_same id_signed_data type.0 ≡ true
  pub reads : signed_content_in type.1 ≡ Ok v

abbrev content : ContentInfoValue → Result ContentInfoValue Fault
content c = Ok c

chosen_by : (w : OpenSpot) (v : SignedDataValue) → content_in w ≡ Ok (SignedContent v) → Chosen w v
unfolding content_in
chosen_by w v e =
    let type = bind_ok (within_openly 0x06 (kept oid_in) w) (λ x. if is_same id_signed_data x.0
    then (signed_content_in x.1 >>= λ d. content (SignedContent d))
    else (other_content_openly x.1 >>= λ b. content (OtherContent x.0 b)))
    (SignedContent v) e in
    by_type type.0 type.1 (is_same id_signed_data type.0.0) refl type.2
  where
    by_type : (x : List ℕ × OpenSpot) → within_openly 0x06 (kept oid_in) w ≡ Ok x → (b : Bool)
        → is_same id_signed_data x.0 ≡ b
        → (if b then (signed_content_in x.1 >>= λ d. content (SignedContent d))
        else (other_content_openly x.1 >>= λ o. content (OtherContent x.0 o)))
        ≡ Ok (SignedContent v) → Chosen w v
    by_type x first true is h =
        let signed = bind_ok (signed_content_in x.1) (λ d. content (SignedContent d)) (SignedContent v) h in
        let same : content (SignedContent signed.0) ≡ Ok (SignedContent v) = signed.2 in
        let value : signed.0 ≡ v = cc in
        record { type = x; first = first; signed = is; reads = signed.1 ∙ ap given value }
    by_type x first false is h =
        let other = bind_ok (other_content_openly x.1) (λ o. content (OtherContent x.0 o)) (SignedContent v) h in
        let same : content (OtherContent x.0 other.0) ≡ Ok (SignedContent v) = other.2 in
        absurd cc

explicit_by : (w : OpenSpot) (v : SignedDataValue) → signed_content_in w ≡ Ok v → Held 0xa0 explicit_signed_in w v
unfolding signed_content_in
explicit_by w v e = held 0xa0 explicit_signed_in w v e

inner_by : (w : OpenSpot) (v : SignedDataValue) → explicit_signed_in w ≡ Ok v → Held 0x30 signed_in w v
unfolding explicit_signed_in
inner_by w v e = held 0x30 signed_in w v e

fronted_by : (bytes : List ℕ) (v : SignedDataValue) → file_in bytes ≡ Ok (SignedContent v) → Fronted bytes v
unfolding file_in
fronted_by bytes v e =
    let outer = bind_ok (outer_in bytes) (λ w. content_in w >>= λ c. last_in (behind w) >>= λ u. content c)
    (SignedContent v) e in
    let inside =
    bind_ok (content_in outer.0) (λ c. last_in (behind outer.0) >>= λ u. content c) (SignedContent v) outer.2 in
    let last = bind_ok (last_in (behind outer.0)) (λ u. content inside.0) (SignedContent v) inside.2 in
    let same : inside.0 ≡ SignedContent v = ok_is inside.0 (SignedContent v) last.2 in
    let chosen = chosen_by outer.0 v (inside.1 ∙ ap content same) in
    let explicit = explicit_by chosen.type.1 v chosen.reads in
    let inner = inner_by explicit.both.0 v explicit.reads in
    record {
      outer = outer.0;
      begins = outer.1;
      type = chosen.type;
      first = chosen.first;
      signed = chosen.signed;
      explicit = explicit;
      inner = inner;
      parts = parts_by inner.both.0 v inner.reads;
    }

-- octets that encode a SignedData have this front
fronted : (bytes : List ℕ) (v : SignedDataValue) → IsBytes bytes → EncodesSignedData bytes v → Fronted bytes v
fronted bytes v fits good = fronted_by bytes v (file_same bytes fits ∙ good_files bytes (SignedContent v) fits good)

-- ---- what is read of it

-- the SignedData is met
signed_there : (bytes : List ℕ) (v : SignedDataValue) (f : Fronted bytes v)
    → signed_at bytes ≡ given (Some f.inner.both.0)
unfolding signed_at
signed_there bytes v f = rw (f.begins, f.first, f.signed, f.explicit.enters, f.inner.enters) refl

abbrev listed_from : (bytes : List ℕ) (v : SignedDataValue) → Fronted bytes v → OpenSpot
listed_from bytes v f = f.parts.algorithms.both.0

-- its digestAlgorithms are of octets
bytes_there : (bytes : List ℕ) (v : SignedDataValue) (f : Fronted bytes v) → IsBytes bytes
    → IsBytes (listed_from bytes v f).rest
unfolding outer_in
bytes_there bytes v f fits =
    let size = bind_ok (outer_size bytes) (λ l. given (contents_of bytes l)) f.outer f.begins in
    let outer : IsBytes f.outer.rest =
    subst (λ (w : OpenSpot). IsBytes w.rest) (ok_is (contents_of bytes size.0) f.outer size.2)
    (IsBytes-drop (heading size.0) bytes fits) in
    let type : IsBytes f.type.1.rest =
    bytes_ahead f.outer f.type.1
    ((within_open 6 oid_in (kept oid_in) oid_open).went f.outer f.type outer f.first) outer in
    let explicit : IsBytes f.explicit.both.0.rest =
    inside_bytes f.type.1 f.explicit.both (enter_went 0xa0 f.type.1 f.explicit.both type f.explicit.enters) type in
    let inner : IsBytes f.inner.both.0.rest =
    inside_bytes f.explicit.both.0 f.inner.both
    (enter_went 0x30 f.explicit.both.0 f.inner.both explicit f.inner.enters) explicit in
    let version : IsBytes f.parts.version.1.rest = bytes_ahead f.inner.both.0 f.parts.version.1
    ((within_open 2 _ _ (kept_open (version_in versions))).went f.inner.both.0 f.parts.version inner f.parts.first)
    inner in
    inside_bytes f.parts.version.1 f.parts.algorithms.both
    (enter_went 0x31 f.parts.version.1 f.parts.algorithms.both version f.parts.algorithms.enters) version

-- they are all there
met_there : (bytes : List ℕ) (v : SignedDataValue) (f : Fronted bytes v) → IsBytes bytes → IsMet (listed_from bytes v f)
met_there bytes v f fits =
    algorithms_open.met (listed_from bytes v f) v.digest_algorithms
    (bytes_there bytes v f fits) f.parts.algorithms.reads

-- they are read as a slice is
slice_there : (bytes : List ℕ) (v : SignedDataValue) (f : Fronted bytes v) → IsBytes bytes
    → algorithms_in (closed (listed_from bytes v f)) ≡ given v.digest_algorithms
slice_there bytes v f fits =
    algorithms_open.same (listed_from bytes v f) (met_there bytes v f fits) (bytes_there bytes v f fits)
    ∙ f.parts.algorithms.reads

-- they have as many octets as their header states
size_there : (bytes : List ℕ) (v : SignedDataValue) (f : Fronted bytes v) → IsBytes bytes
    → (listed_from bytes v f).left ≡ length (algorithms_parts v.digest_algorithms)
size_there bytes v f fits =
    let w : OpenSpot = listed_from bytes v f in
    let law = many_body 48 refl algorithm_in algorithm_parts AlgorithmParts algorithm algorithm_body in
    let takes = law.takes (closed w) v.digest_algorithms (IsBytes-take w.left w.rest (bytes_there bytes v f fits))
    (slice_there bytes v f fits) in
    let same : take w.left w.rest ≡ algorithms_parts v.digest_algorithms = takes.1 in
    sym (length-take-le w.left w.rest (met_there bytes v f fits)) ∙ ap length same

listed_there : (bytes : List ℕ) (v : SignedDataValue) (f : Fronted bytes v) → IsBytes bytes
    → listed_at bytes ≡ given (Some v.digest_algorithms)
unfolding listed_at algorithms_at
listed_there bytes v f fits =
    let w : OpenSpot = listed_from bytes v f in
    let read : kept algorithms_in w ≡ given v.digest_algorithms =
    sym ((kept_open algorithms_in).same w (met_there bytes v f fits) (bytes_there bytes v f fits))
    ∙ slice_there bytes v f fits in
    rw (signed_there bytes v f, f.parts.first, f.parts.algorithms.enters, read) refl

-- if their header states more than the limit, they have more
long_there : (limit : ℕ) (bytes : List ℕ) (v : SignedDataValue) (f : Fronted bytes v) → IsBytes bytes
    → IsListTooLong limit bytes
    → limit < length (algorithms_parts v.digest_algorithms)
long_there limit bytes v f fits (w, is, x, first, y, enters, long) =
    let some : Some f.inner.both.0 ≡ Some w =
    ok_is (Some f.inner.both.0) (Some w) (sym (signed_there bytes v f) ∙ is) in
    let place : f.inner.both.0 ≡ w = cc in
    let version : f.parts.version ≡ x = ok_is f.parts.version x
    (sym f.parts.first ∙ ap (λ (u : OpenSpot). within_openly 0x02 (kept (version_in versions)) u) place ∙ first) in
    let both : f.parts.algorithms.both ≡ y = ok_is f.parts.algorithms.both y
    (sym f.parts.algorithms.enters ∙ ap (λ (u : List ℕ × OpenSpot). enter_openly 0x31 u.1) version ∙ enters) in
    let size : f.parts.algorithms.both.0.left ≡ y.0.left = ap (λ (u : OpenSpot × OpenSpot). u.0.left) both in
    omega (arith, long, size, size_there bytes v f fits)

-- ---- what is made of what a pass found

abbrev Found : Type 0
Found = Result (Option (List AlgorithmValue)) StreamFault

pub counted_once : (before after : ℕ) (r : Found) → CountsPass r before after
    → (after ≡ before) ⊎ (after ≡ raised before)
counted_once before after (Ok found) count = inl count
counted_once before after (Err (Malformed fault)) count = inl count
counted_once before after (Err TooLong) count = inl count
counted_once before after (Err ReadFailed) count = inr count

module _ (limit : ℕ) (v : SignedDataValue) (before after : ℕ) (algorithms : Algs) where
  listed_by : (bytes : List ℕ) (r : Found) → IsBytes bytes → Fronted bytes v → CountsPass r before after
      → Tells (λ o. o) (IsListTooLong limit bytes) r (listed_at bytes) → AreNamedIn r algorithms
      → AreListed limit v before after algorithms
  listed_by bytes (Ok (Some identifiers)) fits f count h made =
      let some : Some identifiers ≡ Some v.digest_algorithms =
      ok_is (Some identifiers) (Some v.digest_algorithms) (sym h ∙ listed_there bytes v f fits) in
      let is : identifiers ≡ v.digest_algorithms = cc in
      inl (subst (λ (xs : List AlgorithmValue). AreNamedBy xs algorithms) is made)
  listed_by bytes (Ok None) fits f count h made = absurd (let e = sym h ∙ listed_there bytes v f fits in cc)
  listed_by bytes (Err (Malformed fault)) fits f count h made =
      absurd (let e = sym h ∙ listed_there bytes v f fits in cc)
  listed_by bytes (Err TooLong) fits f count h made = inr (made, inr (long_there limit bytes v f fits h))
  listed_by bytes (Err ReadFailed) fits f count h made = inr (made, inl count)

  -- where nothing was handed out before
  pub listed_from_front : (window bytes : List ℕ) (r : Found) → window ≡ [] → IsBytes bytes → EncodesSignedData bytes v
      → CountsPass r before after
      → Tells (λ o. o) (IsListTooLong limit (window ++ bytes)) r (listed_at (window ++ bytes)) → AreNamedIn r algorithms
      → AreListed limit v before after algorithms
  listed_from_front window bytes r e fits good count h made =
      let same : window ++ bytes ≡ bytes = ap (λ (xs : List ℕ). xs ++ bytes) e in
      listed_by bytes r fits (fronted bytes v fits good) count
      (subst (λ (xs : List ℕ). Tells (λ o. o) (IsListTooLong limit xs) r (listed_at xs)) same h) made

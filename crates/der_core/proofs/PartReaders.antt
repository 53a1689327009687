-- The readings of the parts that types are made of.
use Rattle.std.proofs.Common.{◌≡◌, ℕ, zero, suc, ◌+◌, Bool, true, false, ◌||◌, eqb, List, [], ◌∷◌, ◌++◌, length, Option}
use Rattle.std.proofs.Common.{Some, None, Result, Ok, Err, refl, sym, ap}
use Rattle.std.proofs.Common.{subst, ◌∙◌, arith, inl, inr, lit<}
use Rattle.std.specs.Prelude.{IfSome}
use Rattle.std.proofs.lemmas.Bool.{eqb-true, or_cases}
use Rattle.std.proofs.lemmas.List.{append-nil}
use Rattle.der_core.specs.declared.fault.Fault.{Fault}
use Rattle.der_core.specs.declared.fault.Kind.{Kind}
use Rattle.der_core.specs.declared.fault.Kind.TheVariants as kind
use Rattle.der_core.specs.declared.flag.Flag.{Flag}
use Rattle.der_core.specs.declared.flag.Flag.TheVariants.{Absent, False, True}
use Rattle.der_core.specs.Element.{is_tag, el, IsElement, IsBytes, has_tag}
use Rattle.der_core.specs.Contents.{is_boolean, is_integer, is_bits, is_oid}
use Rattle.der_core.specs.Values.{optional, optional_whole, flag, HasLength, IsOpaque, IsOid}
use Rattle.der_core.specs.Form.{Optional, Form, opaque, contents, opaques}
use Rattle.der_core.specs.Encoding.{Encodes, anything, next, absent}
use Rattle.der_core.specs.Faults.{Place, place, StandsNot, IsMalformed, stays, passes, drops, Fact, FaultFrom}
use Rattle.der_core.specs.Grammar.{one, opt, any, is_of, version, bits, oid, integer, boolean}
use Rattle.der_core.specs.Reading.{Spot, spot, Taken, next_at, expect_at, element_at, within, maybe, last, contents_at}
use Rattle.der_core.specs.Reading.{any_at, oid_in, integer_in, bits_in}
use Rattle.der_core.specs.Reading.{version_in, boolean_in, opaque_in, opaque_at}
use Rattle.der_core.specs.Flags.{flag_of, flag_contents, flag_at}
use Rattle.der_core.specs.Standing.{IsTaken}
use Rattle.der_core.proofs.ReadLengths.{ok_is}
use Rattle.der_core.proofs.Elements.{next_takes, next_again, next_fault}
use Rattle.der_core.proofs.Results.{bind_ok, bind_err}
use Rattle.der_core.proofs.Moved.{expect_is, expect_again, expect_fact}
use Rattle.der_core.proofs.Readers.{Reader, Body, Follows, Anything, Nothing, took, IsReader, IsBody, contents_body}
use Rattle.der_core.proofs.Readers.{any_body, within_reader, maybe_reader}
use Rattle.der_core.proofs.Readers.{last_reader, named_reader, enc_option, GoodOption}

-- ---- the same law in other words

module _ {A : Type 0} (enc enc' : A → List ℕ) (Good Good' : A → Type 0) (same : (x : A) → enc x ≡ enc' x)
    (to : (x : A) → Good x → Good' x)
    (from : (x : A) → Good' x → Good x) where
  pub alike_body : (read : Body A) (form : Form) → IsBody read enc Good form → IsBody read enc' Good' form
  alike_body read form law = record {
    takes = λ s x fits e. let t = law.takes s x fits e in (to x t.0, t.1 ∙ same x);
    again = λ x n h. subst (λ (b : List ℕ). read (spot n b) ≡ Ok x) (same x) (law.again x n (from x h));
    faults = law.faults;
    encodes = λ x h. subst (Encodes [] form) (same x) (law.encodes x (from x h));
  }

  pub alike_reader : (read : Reader A) (due : Form → Form) (Lets Lets' : List ℕ → Type 0) (Before : Form → Type 0)
      → ((r : List ℕ) → Lets' r → Lets r)
      → IsReader read enc Good due Lets Before → IsReader read enc' Good' due Lets' Before
  alike_reader read due Lets Lets' Before lets law = record {
    plain = law.plain;
    takes = λ s y fits e. let t = law.takes s y fits e in
        (to y.0 t.0, subst (λ (b : List ℕ). Follows s b y.1) (same y.0) t.1);
    again = λ x n r h l. subst (λ (b : List ℕ). read (spot n (b ++ r)) ≡ Ok (x, spot (n + length b) r)) (same x)
        (law.again x n r (from x h) (lets r l));
    faults = law.faults;
    goes = law.goes;
    encodes = λ x r after h m.
        subst (λ (b : List ℕ). Encodes [] (due after) (b ++ r)) (same x) (law.encodes x r after (from x h) m);
  }

-- ---- contents

abbrev Same : List ℕ → List ℕ
Same b = b

pub malformed : (k : Kind) (formed allowed : List ℕ → Bool) (p : Place) → p.due ≡ contents k formed allowed
    → formed p.rest ≡ false
    → IsMalformed k p.due p.rest × (p.at ≡ p.at)
malformed k formed allowed p e h = (subst (λ (d : Form). IsMalformed k d p.rest) (sym e) (refl, h), refl)

module _ (k : Kind) (formed : List ℕ → Bool)
    (fact : (p : Place) → p.due ≡ contents k formed any → formed p.rest ≡ false → Fact k p p.at) where
  pub formed_body : IsBody (contents_at k formed any) Same (λ b. formed b ≡ true) (contents k formed any)
  formed_body = alike_body Same Same (λ b. (formed b ≡ true) × (any b ≡ true)) (λ b. formed b ≡ true) (λ x. refl)
      (λ x h. h.0) (λ x h. (h, refl))
      (contents_at k formed any) (contents k formed any)
      (contents_body k formed any fact)

pub oid_body : IsBody oid_in Same (λ b. is_oid b ≡ true) oid
oid_body = formed_body kind.Oid is_oid (malformed kind.Oid is_oid any)

pub integer_body : IsBody integer_in Same (λ b. is_integer b ≡ true) integer
integer_body = formed_body kind.Integer is_integer (malformed kind.Integer is_integer any)

pub boolean_body : IsBody boolean_in Same (λ b. is_boolean b ≡ true) boolean
boolean_body = formed_body kind.Boolean is_boolean (malformed kind.Boolean is_boolean any)

-- an INTEGER of one of the values that a test allows
pub integer_of_body : (allowed : List ℕ → Bool)
    → IsBody (contents_at kind.Integer is_integer allowed) Same (λ b. (is_integer b ≡ true)
    × (allowed b ≡ true)) (contents kind.Integer is_integer allowed)
integer_of_body allowed = contents_body kind.Integer is_integer allowed (malformed kind.Integer is_integer allowed)

pub bits_body : IsBody bits_in Same (λ b. is_bits b ≡ true) bits
bits_body = formed_body kind.Bits is_bits (malformed kind.Bits is_bits any)

pub version_body : (allowed : List ℕ)
    → IsBody (version_in allowed) Same (λ b. (is_integer b ≡ true) × (is_of allowed b ≡ true)) (version allowed)
version_body allowed = integer_of_body (is_of allowed)

-- the contents of the only version that is allowed
pub only_version : (b : List ℕ) → is_of (1 ∷ []) b ≡ true → 1 ∷ [] ≡ b
only_version [] h = absurd cc
only_version (v ∷ []) h = ap (λ (n : ℕ). n ∷ []) (eqb-true 1 v (or_none (eqb 1 v) h))
  where
    or_none : (b : Bool) → (b || false) ≡ true → b ≡ true
    or_none true h = refl
    or_none false h = h
only_version (v ∷ w ∷ ws) h = absurd cc

-- ---- elements

abbrev pub Always : List ℕ → Type 0
Always r = Unit {0}

-- this identifier isn't at the front
abbrev pub Not : ℕ → List ℕ → Type 0
Not tag r = has_tag tag r ≡ false

-- nothing follows
abbrev pub Last : List ℕ → Type 0
Last r = r ≡ []

pub oid_reader : IsReader (within 0x06 oid_in) (λ b. el 0x06 b) IsOid (one 0x06 oid) Always Anything
oid_reader = within_reader 0x06 refl oid_in Same (λ b. is_oid b ≡ true) oid oid_body

pub octets_reader : IsReader (within 0x04 any_at) (λ b. el 0x04 b) HasLength (one 0x04 opaque) Always Anything
octets_reader = alike_reader (λ b. el 0x04 b) (λ b. el 0x04 b) (λ b. Unit {0} × HasLength b) HasLength (λ x. refl)
    (λ x h. h.1) (λ x h. (tt, h))
    (within 0x04 any_at) (one 0x04 opaque) Always Always Anything (λ r l. l)
    (within_reader 0x04 refl any_at Same (λ b. Unit {0}) opaque any_body)

module _ (tag : ℕ) (id : is_tag tag ≡ true) (read : Body (List ℕ)) (Good : List ℕ → Type 0) (form : Form)
    (law : IsBody read Same Good form) where
  same_opt : (o : Option (List ℕ)) → enc_option tag id read Same Good form law o ≡ optional tag o
  same_opt None = refl
  same_opt (Some b) = refl

  good_opt : (o : Option (List ℕ)) → GoodOption tag id read Same Good form law o → IfSome o (λ b. Good b × HasLength b)
  good_opt None h = tt
  good_opt (Some b) h = h

  opt_good : (o : Option (List ℕ)) → IfSome o (λ b. Good b × HasLength b) → GoodOption tag id read Same Good form law o
  opt_good None h = tt
  opt_good (Some b) h = h

  pub opt_reader : IsReader (maybe tag read) (optional tag) (λ o. IfSome o (λ b. Good b × HasLength b)) (opt tag form)
      (Not tag) Anything
  opt_reader = alike_reader (enc_option tag id read Same Good form law) (optional tag)
      (GoodOption tag id read Same Good form law)
      (λ o. IfSome o (λ b. Good b × HasLength b)) same_opt good_opt opt_good
      (maybe tag read) (opt tag form) (Not tag) (Not tag) Anything (λ r l. l)
      (maybe_reader tag id read Same Good form law)

  -- the last part of a body, kept as its contents
  pub opt_last_reader :
      IsReader (last tag read) (optional tag) (λ o. IfSome o (λ b. Good b × HasLength b)) (opt tag form) Last Nothing
  opt_last_reader = alike_reader (enc_option tag id read Same Good form law) (optional tag)
      (GoodOption tag id read Same Good form law)
      (λ o. IfSome o (λ b. Good b × HasLength b)) same_opt good_opt opt_good
      (last tag read) (opt tag form) Last Last Nothing (λ r l. l) (last_reader tag id read Same Good form law)

-- what follows an optional part isn't the optional part before it
pub opt_apart : (tag t : ℕ) (o : Option (List ℕ)) (r : List ℕ) → eqb t tag ≡ false → Not tag r
    → Not tag (optional t o ++ r)
opt_apart tag t None r h l = l
opt_apart tag t (Some b) r h l = h

pub flag_apart : (tag : ℕ) (f : Flag) (r : List ℕ) → eqb 1 tag ≡ false → Not tag r → Not tag (flag f ++ r)
flag_apart tag Absent r h l = l
flag_apart tag False r h l = h
flag_apart tag True r h l = h

-- ---- a BOOLEAN with a default

flag_there : (f : Flag) → flag_of (flag_contents f) ≡ f
flag_there Absent = refl
flag_there False = refl
flag_there True = refl

GoodFlag : Option (List ℕ) → Type 0
GoodFlag o = IfSome o (λ b. (is_boolean b ≡ true) × HasLength b)

flag_back : (o : Option (List ℕ)) → GoodFlag o → flag_contents (flag_of o) ≡ o
unfolding GoodFlag
flag_back None h = refl
flag_back (Some []) h = absurd (let z = h.0 in cc)
flag_back (Some (zero ∷ [])) h = refl
flag_back (Some (suc n ∷ [])) h =
    let e : suc n ≡ 255 = elim (or_cases (eqb (suc n) 0) (eqb (suc n) 255) h.0)
    [ inl a ↦ absurd (omega (arith, eqb-true (suc n) 0 a)) | inr a ↦ eqb-true (suc n) 255 a ] in
    ap (λ (m : ℕ). Some (m ∷ [])) (sym e)
flag_back (Some (zero ∷ b ∷ bs)) h = absurd (let z = h.0 in cc)
flag_back (Some (suc n ∷ b ∷ bs)) h = absurd (let z = h.0 in cc)

flag_same : (f : Flag) → optional 0x01 (flag_contents f) ≡ flag f
flag_same Absent = refl
flag_same False = refl
flag_same True = refl

flag_good : (f : Flag) → GoodFlag (flag_contents f)
unfolding GoodFlag
flag_good Absent = tt
flag_good False = (refl, lit< tt)
flag_good True = (refl, lit< tt)

pub flag_reader : IsReader flag_at flag (λ f. Unit {0}) (opt 0x01 boolean) (Not 0x01) Anything
unfolding flag_at GoodFlag
flag_reader = alike_reader (λ f. optional 0x01 (flag_contents f)) flag (λ f. GoodFlag (flag_contents f))
    (λ f. Unit {0}) flag_same (λ f h. tt)
    (λ f h. flag_good f) flag_at (opt 0x01 boolean) (Not 0x01) (Not 0x01) Anything (λ r l. l)
    (named_reader flag_of flag_contents flag_there (maybe 0x01 boolean_in) (optional 0x01) GoodFlag (opt 0x01 boolean)
    (Not 0x01) Anything (opt_reader 0x01 refl boolean_in (λ b. is_boolean b ≡ true) boolean boolean_body) flag_back)

-- ---- one more element of any kind, or none

abbrev Part : Type 0
Part = Result (Option (List ℕ) × Spot) Fault

abbrev part_ok : Option (List ℕ) × Spot → Part
part_ok y = Ok y

opaque_takes : (s : Spot) (xs : List ℕ) (y : Option (List ℕ) × Spot) → s.rest ≡ xs → IsBytes s.rest
    → opaque_in s xs ≡ Ok y
    → IfSome y.0 IsOpaque × Follows s (optional_whole y.0) y.1
opaque_takes s [] y is fits e = subst
    (λ (z : Option (List ℕ) × Spot). IfSome z.0 IsOpaque × Follows s (optional_whole z.0) z.1) (ok_is (None, s) y e)
    (tt, record { parts = refl; moved = omega arith })
opaque_takes s (t ∷ xs) y is fits e =
    let b = bind_ok (next_at s) (λ x. Ok (Some x.0.whole, x.1)) y e in
    let k = next_takes s b.0 fits b.1 in
    let w : b.0.0.whole ≡ el b.0.0.tag b.0.0.body = k.whole in
    let f : Follows s b.0.0.whole b.0.1 =
    subst (λ (v : List ℕ). Follows s v b.0.1) (sym w) (record { parts = k.parts; moved = k.moved }) in
    subst (λ (z : Option (List ℕ) × Spot). IfSome z.0 IsOpaque × Follows s (optional_whole z.0) z.1)
    (ok_is (Some b.0.0.whole, b.0.1) y b.2)
    ((b.0.0.tag, b.0.0.body, k.element, w), f)

opaque_again : (o : Option (List ℕ)) (n : ℕ) → IfSome o IsOpaque
    → opaque_at (spot n (optional_whole o)) ≡ Ok (o, spot (n + length (optional_whole o)) [])
unfolding opaque_at
opaque_again None n h = let e : n + 0 ≡ n = omega arith in rw e refl
opaque_again (Some x) n h =
    let t = h.0 in let b = h.1 in
    let a : next_at (spot n (el t b))
    ≡ Ok (record { tag = t; body = b; whole = el t b }, spot (n + length (el t b)) []) =
    subst (λ (v : List ℕ). next_at (spot n v)
    ≡ Ok (record { tag = t; body = b; whole = el t b }, spot (n + length (el t b)) []))
    (append-nil (el t b)) (next_again n t b [] h.2) in
    let one : opaque_in (spot n (el t b)) (el t b) ≡ part_ok (Some (el t b), spot (n + length (el t b)) []) =
    rw a refl in
    subst (λ (v : List ℕ). opaque_in (spot n v) v ≡ part_ok (Some v, spot (n + length v) [])) (sym h.3) one

-- an element is present exactly as its identifier says
any_stands : (s : Spot) (y : Taken × Spot) (after : Form) (f : Fault) → IsTaken s y.0 y.1
    → FaultFrom (place y.1.pos y.1.rest after []) f
    → FaultFrom (place s.pos s.rest (opaques Optional after) []) f
any_stands s y after f k h =
    let q = subst (λ (m : ℕ). FaultFrom (place m y.1.rest after []) f) k.moved h in
    subst (λ (xs : List ℕ). FaultFrom (place s.pos xs (opaques Optional after) []) f) (sym k.parts)
    (q.0, passes y.0.tag y.0.body y.1.rest k.element k.element.identifier q.1, q.2)

opaque_goes : (s : Spot) (xs : List ℕ) (y : Option (List ℕ) × Spot) → s.rest ≡ xs → IsBytes s.rest
    → opaque_in s xs ≡ Ok y
    → (after : Form) (f : Fault) → FaultFrom (place y.1.pos y.1.rest after []) f
    → FaultFrom (place s.pos s.rest (opaques Optional after) []) f
opaque_goes s [] y is fits e after f h =
    let p = subst (λ (z : Option (List ℕ) × Spot). FaultFrom (place z.1.pos z.1.rest after []) f)
    (sym (ok_is (None, s) y e)) h in
    (p.0, drops refl (subst (StandsNot (opaques Optional after)) (sym is) tt) p.1, p.2)
opaque_goes s (t ∷ xs) y is fits e after f h =
    let b = bind_ok (next_at s) (λ x. Ok (Some x.0.whole, x.1)) y e in
    any_stands s b.0 after f (next_takes s b.0 fits b.1)
    (subst (λ (z : Option (List ℕ) × Spot). FaultFrom (place z.1.pos z.1.rest after []) f)
    (sym (ok_is (Some b.0.0.whole, b.0.1) y b.2)) h)

opaque_fault : (s : Spot) (xs : List ℕ) (f : Fault) → s.rest ≡ xs → IsBytes s.rest → opaque_in s xs ≡ Err f
    → (after : Form)
    → FaultFrom (place s.pos s.rest (opaques Optional after) []) f
opaque_fault s [] f is fits e after = absurd (let z = e in cc)
opaque_fault s (t ∷ xs) f is fits e after =
    let p : Place = place s.pos s.rest (opaques Optional after) [] in
    elim (bind_err (next_at s) (λ x. Ok (Some x.0.whole, x.1)) f e) [
      | inl b ↦ (p, stays, next_fault s f p fits refl refl tt (λ none. absurd (let z = sym is ∙ none in cc)) b)
      | inr b ↦ absurd (let z = b.2 in cc)
    ]

opaque_encodes : (o : Option (List ℕ)) (r : List ℕ) (after : Form) → IfSome o IsOpaque → Encodes [] after r
    → Encodes [] (opaques Optional after) (optional_whole o ++ r)
opaque_encodes None r after h m = absent refl m
opaque_encodes (Some x) r after h m =
    next h.0 h.1 r (ap (λ (y : List ℕ). y ++ r) h.3) h.2 h.2.identifier refl refl anything m

pub opaque_reader : IsReader opaque_at optional_whole (λ o. IfSome o IsOpaque) (opaques Optional) Last Anything
unfolding opaque_at
opaque_reader = record {
  plain = λ after. refl;
  takes = λ s y fits e. opaque_takes s s.rest y refl fits e;
  again = λ x n r h l. rw l (rw (append-nil (optional_whole x)) (opaque_again x n h));
  faults = λ s f fits e after b. opaque_fault s s.rest f refl fits e after;
  goes = λ s y fits e after f h. opaque_goes s s.rest y refl fits e after f h;
  encodes = λ x r after h m. opaque_encodes x r after h m;
}

-- ---- an element, whole

abbrev Whole : Type 0
Whole = Result (List ℕ × Spot) Fault

abbrev part_whole : List ℕ × Spot → Whole
part_whole y = Ok y

-- a whole element with this identifier
abbrev pub IsWhole : ℕ → List ℕ → Type 0
IsWhole tag x = (b : List ℕ) × IsElement tag b × (x ≡ el tag b)

element_takes : (tag : ℕ) (s : Spot) (y : List ℕ × Spot) → IsBytes s.rest → element_at tag s ≡ Ok y
    → IsWhole tag y.0 × Follows s y.0 y.1
unfolding element_at
element_takes tag s y fits e =
    let b = bind_ok (expect_at tag s) (λ x. Ok (x.0.whole, x.1)) y e in
    let k = expect_is tag s b.0 fits b.1 in
    let made : IsWhole tag b.0.0.whole × Follows s b.0.0.whole b.0.1 = (
      (
        b.0.0.body,
        subst (λ (t : ℕ). IsElement t b.0.0.body) k.0 k.1.element,
        k.1.whole ∙ ap (λ (t : ℕ). el t b.0.0.body) k.0,
      ),
      subst (λ (w : List ℕ). Follows s w b.0.1) (sym k.1.whole) (record { parts = k.1.parts; moved = k.1.moved }),
    ) in
    subst (λ (z : List ℕ × Spot). IsWhole tag z.0 × Follows s z.0 z.1) (ok_is (b.0.0.whole, b.0.1) y b.2) made

element_again : (tag : ℕ) (x : List ℕ) (n : ℕ) (r : List ℕ) → IsWhole tag x
    → element_at tag (spot n (x ++ r)) ≡ Ok (x, spot (n + length x) r)
unfolding element_at
element_again tag x n r h =
    let one : element_at tag (spot n (el tag h.0 ++ r)) ≡ part_whole (el tag h.0, spot (n + length (el tag h.0)) r) =
    rw (expect_again tag n h.0 r h.1) refl in
    subst (λ (w : List ℕ). element_at tag (spot n (w ++ r)) ≡ part_whole (w, spot (n + length w) r)) (sym h.2) one

element_fault : (tag : ℕ) (s : Spot) (f : Fault) → IsBytes s.rest → element_at tag s ≡ Err f → (after : Form)
    → FaultFrom (place s.pos s.rest (one tag opaque after) []) f
unfolding element_at
element_fault tag s f fits e after =
    elim (bind_err (expect_at tag s) (λ x. Ok (x.0.whole, x.1)) f e) [
      | inl b ↦ (place s.pos s.rest (one tag opaque after) [], stays, expect_fact tag s f fits b opaque after)
      | inr b ↦ absurd (let z = b.2 in cc)
    ]

element_goes : (tag : ℕ) (s : Spot) (y : List ℕ × Spot) → IsBytes s.rest → element_at tag s ≡ Ok y
    → (after : Form) (f : Fault)
    → FaultFrom (place y.1.pos y.1.rest after []) f → FaultFrom (place s.pos s.rest (one tag opaque after) []) f
element_goes tag s y fits e after f h =
    let t = element_takes tag s y fits e in
    let moved : y.1.pos ≡ s.pos + length (el tag t.0.0) = t.1.moved ∙ ap (λ (w : List ℕ). s.pos + length w) t.0.2 in
    let q = subst (λ (m : ℕ). FaultFrom (place m y.1.rest after []) f) moved h in
    subst (λ (xs : List ℕ). FaultFrom (place s.pos xs (one tag opaque after) []) f)
    (sym (t.1.parts ∙ ap (λ (w : List ℕ). w ++ y.1.rest) t.0.2))
    (q.0, passes tag t.0.0 y.1.rest t.0.1 (took tag opaque after) q.1, q.2)

pub element_reader : (tag : ℕ) → IsReader (element_at tag) (λ x. x) (IsWhole tag) (one tag opaque) Always Anything
element_reader tag = record {
  plain = λ after. refl;
  takes = element_takes tag;
  again = λ x n r h l. element_again tag x n r h;
  faults = λ s f fits e after b. element_fault tag s f fits e after;
  goes = element_goes tag;
  encodes = λ x r after h m.
      next tag h.0 r (ap (λ (y : List ℕ). y ++ r) h.2) h.1 (took tag opaque after) refl refl anything m;
}

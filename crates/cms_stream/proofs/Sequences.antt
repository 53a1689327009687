-- Parts one after the other.
use Rattle.std.proofs.Common.{◌≡◌, ℕ, Bool, true, false, List, Option, Result, Ok, refl, sym, ap, subst, ◌∙◌}
use Rattle.der_core.specs.declared.fault.Fault.{Fault}
use Rattle.std.specs.Prelude.{if◌then◌else◌}
use Rattle.der_core.specs.Lists.{is_same}
use Rattle.der_grammar.specs.Table.{id_signed_data}
use Rattle.der_core.specs.Reading.{oid_in}
use Rattle.der_core.specs.Results.{◌>>=◌}
use Rattle.der_core.specs.Values.{AlgorithmValue}
use Rattle.der_core.specs.AlgorithmReading.{algorithm_from}
use Rattle.cms_types.specs.SignerValue.{SignerValue}
use Rattle.cms_types.specs.SignedDataReading.{encapsulated_from, signers_in}
use Rattle.cms_types.specs.SignedDataValue.{EncapsulatedValue, SignedDataValue, ContentInfoValue, SignedContent}
use Rattle.cms_types.specs.SignedDataValue.{OtherContent}
use Rattle.cms_stream_laws.specs.OpenReading.{OpenSpot, OpenReader, end_openly, within_openly, ◌then_openly◌}
use Rattle.cms_stream_laws.specs.OpenReading.{whole_openly, maybe_openly, last_openly}
use Rattle.cms_stream_laws.specs.OpenReading.{opaque_openly, optional_opaque_openly, kept}
use Rattle.cms_stream_laws.specs.OpenContentInfo.{explicit_octets_openly, encapsulated_openly, algorithm_openly}
use Rattle.cms_stream_laws.specs.OpenContentInfo.{certificates_openly, crls_openly}
use Rattle.cms_stream_laws.specs.OpenContentInfo.{explicit_opaque_openly, other_content_openly}
use Rattle.cms_stream_laws.specs.Laws.{before_content}
use Rattle.cms_stream.specs.Passing.{Carries}
use Rattle.cms_stream.specs.Stages.{HeadParts, signed_head_in, signed_from, signed_in, signed_content_in, content_in}

abbrev pub found : {A : Type 0} → A → OpenSpot → Result (A × OpenSpot) Fault
found x w = Ok (x, w)

abbrev pub given : {A : Type 0} → A → Result A Fault
given x = Ok x

-- what a call found, at the spot where it stands
pub found_at : {A : Type 0} (read : Result (A × OpenSpot) Fault) (y : A × OpenSpot) (v : OpenSpot) → read ≡ Ok y
    → y.1 ≡ v → read ≡ found y.0 v
found_at {A} read y v e h = e ∙ ap (found y.0) h

pub then_at : {A B : Type 0} (first : OpenReader A) (second : OpenReader B) (w v z : OpenSpot) (x : A) (y : B)
    → first w ≡ found x v → second v ≡ found y z
    → (first then_openly second) w ≡ found (x, y) z
then_at first second w v z x y e f = rw (e, f) refl

pub two_parts : {A B : Type 0} (first : OpenReader A) (second : OpenReader B) (w v z : OpenSpot) (x : A) (y : B)
    → first w ≡ found x v → second v ≡ found y z
    → end_openly z ≡ Ok tt → whole_openly (first then_openly second) w ≡ given (x, y)
two_parts first second w v z x y e f g = rw (e, f, g) refl

abbrev algorithm : List ℕ × Option (List ℕ) → Result AlgorithmValue Fault
algorithm p = Ok (algorithm_from p)

pub algorithm_is : (w v z : OpenSpot) (id : List ℕ) (parameters : Option (List ℕ))
    → within_openly 0x06 (kept oid_in) w ≡ found id v
    → optional_opaque_openly v ≡ found parameters z → end_openly z ≡ Ok tt
    → algorithm_openly w ≡ algorithm (id, parameters)
unfolding algorithm_openly
algorithm_is w v z id parameters e f g =
    ap (λ (r : Result (List ℕ × Option (List ℕ)) Fault). r >>= algorithm)
    (two_parts (within_openly 0x06 (kept oid_in)) optional_opaque_openly w v z id parameters e f g)

abbrev encapsulated : List ℕ × Option (List ℕ) → Result EncapsulatedValue Fault
encapsulated p = Ok (encapsulated_from p)

pub encapsulated_is : (w v z : OpenSpot) (id : List ℕ) (content : Option (List ℕ))
    → within_openly 0x06 (kept oid_in) w ≡ found id v
    → last_openly 0xa0 explicit_octets_openly v ≡ found content z → end_openly z ≡ Ok tt
    → encapsulated_openly w ≡ encapsulated (id, content)
unfolding encapsulated_openly
encapsulated_is w v z id content e f g =
    ap (λ (r : Result (List ℕ × Option (List ℕ)) Fault). r >>= encapsulated)
    (two_parts (within_openly 0x06 (kept oid_in)) (last_openly 0xa0 explicit_octets_openly) w v z id content e f g)

module _ {A B C D Z : Type 0} (a : OpenReader A) (b : OpenReader B) (c : OpenReader C) (d : OpenReader D)
    (into : A → B → C → D → Z)
    (w v1 v2 v3 v4 : OpenSpot) (x : A) (y : B) (z : C) (u : D) where
  four_at : a w ≡ found x v1 → b v1 ≡ found y v2 → c v2 ≡ found z v3 → d v3 ≡ found u v4
      → (a w >>= λ p. b p.1 >>= λ q. c q.1 >>= λ r. d r.1 >>= λ s. found (into p.0 q.0 r.0 s.0) s.1)
      ≡ found (into x y z u) v4
  four_at e f g h = rw (e, f, g, h) refl

-- the parts of a SignedData before its signers, one after the other
pub record HeadFound (w end : OpenSpot) (before : List ℕ × List AlgorithmValue) (content : EncapsulatedValue)
    (certificates crls : Option (List (List ℕ)))
    : Type 0 where
  pub after : OpenSpot
  pub first : before_content w ≡ found before after
  pub behind : OpenSpot
  pub second : within_openly 0x30 encapsulated_openly after ≡ found content behind
  pub last : OpenSpot
  pub third : maybe_openly 0xa0 certificates_openly behind ≡ found certificates last
  pub fourth : maybe_openly 0xa1 crls_openly last ≡ found crls end

pub head_at : (w end : OpenSpot) (x : List ℕ × List AlgorithmValue) (y : EncapsulatedValue)
    (z u : Option (List (List ℕ))) → HeadFound w end x y z u
    → signed_head_in w ≡ found (x.0, (x.1, (y, (z, u)))) end
unfolding signed_head_in
head_at w end x y z u h =
    four_at (λ r. before_content r) (within_openly 0x30 encapsulated_openly) (maybe_openly 0xa0 certificates_openly)
    (maybe_openly 0xa1 crls_openly)
    (λ p q r s. (p.0, (p.1, (q, (r, s))))) w h.after h.behind h.last end x y z u h.first h.second h.third h.fourth

module _ {A B C : Type 0} (a : OpenReader A) (b : OpenReader B) (into : A → B → C) where
  two_at : (w v z : OpenSpot) (x : A) (y : B) → a w ≡ found x v → b v ≡ found y z → end_openly z ≡ Ok tt
      → (a w >>= λ p. b p.1 >>= λ q. end_openly q.1 >>= λ u. given (into p.0 q.0)) ≡ given (into x y)
  two_at w v z x y e f g = rw (e, f, g) refl

pub signed_at : (w v z : OpenSpot) (p : HeadParts) (ss : List SignerValue) → signed_head_in w ≡ found p v
    → within_openly 0x31 (kept signers_in) v ≡ found ss z
    → end_openly z ≡ Ok tt → signed_in w ≡ given (signed_from p ss)
unfolding signed_in
signed_at w v z p ss e f g = two_at signed_head_in (within_openly 0x31 (kept signers_in)) signed_from w v z p ss e f g

-- whether a content is there, under another name
pub carried : (gains : List ℕ → Type 0) (b d : Bool) (content : Option (List ℕ)) → b ≡ d → Carries gains d content
    → Carries gains b content
carried gains b d content e h = subst (λ (z : Bool). Carries gains z content) (sym e) h

pub opaque_is : (w z : OpenSpot) (x : List ℕ) → opaque_openly w ≡ found x z → end_openly z ≡ Ok tt
    → explicit_opaque_openly w ≡ given x
unfolding explicit_opaque_openly
opaque_is w z x e f = rw (e, f) refl

-- ---- a content, by its type

abbrev content : ContentInfoValue → Result ContentInfoValue Fault
content c = Ok c

abbrev signed_or : Bool → Result SignedDataValue Fault → List ℕ → Result (List ℕ) Fault → Result ContentInfoValue Fault
signed_or b signed id other =
    if b then (signed >>= λ v. content (SignedContent v)) else (other >>= λ x. content (OtherContent id x))

pub signed_content_at : (w v : OpenSpot) (id : List ℕ) (d : SignedDataValue)
    → within_openly 0x06 (kept oid_in) w ≡ found id v
    → is_same id_signed_data id ≡ true → signed_content_in v ≡ given d → content_in w ≡ content (SignedContent d)
unfolding content_in
signed_content_at w v id d e h f =
    ap (λ (r : Result (List ℕ × OpenSpot) Fault). r
    >>= λ x. signed_or (is_same id_signed_data x.0) (signed_content_in x.1) x.0 (other_content_openly x.1)) e
    ∙ ap (λ (b : Bool). signed_or b (signed_content_in v) id (other_content_openly v)) h
    ∙ ap (λ (r : Result SignedDataValue Fault). r >>= λ y. content (SignedContent y)) f

pub other_content_at : (w v : OpenSpot) (id x : List ℕ) → within_openly 0x06 (kept oid_in) w ≡ found id v
    → is_same id_signed_data id ≡ false
    → other_content_openly v ≡ given x → content_in w ≡ content (OtherContent id x)
unfolding content_in
other_content_at w v id x e h f =
    ap (λ (r : Result (List ℕ × OpenSpot) Fault). r
    >>= λ y. signed_or (is_same id_signed_data y.0) (signed_content_in y.1) y.0 (other_content_openly y.1)) e
    ∙ ap (λ (b : Bool). signed_or b (signed_content_in v) id (other_content_openly v)) h
    ∙ ap (λ (r : Result (List ℕ) Fault). r >>= λ y. content (OtherContent id y)) f

-- Elements that are left whole, by the header and the octets that pass.
use Rattle.std.proofs.Common.{◌≡◌, ℕ, ◌-◌, ◌<◌, Bool, true, false, cond, eqb, List, [], length, take, Some}
use Rattle.std.proofs.Common.{Result, Ok, Err, refl, sym, ap, ◌∙◌}
use Rattle.std.proofs.Common.{arith}
use Rattle.std.proofs.lemmas.Bool.{ne_eqb, eqb-true, lt-ltb}
use Rattle.std.proofs.lemmas.List.{nil_from_length}
use Rattle.der_core.specs.declared.fault.Fault.{Fault}
use Rattle.der_core.specs.declared.fault.Kind.TheVariants.{Tag}
use Rattle.der_core.specs.Reading.{fault, Spot, any_at}
use Rattle.der_core.specs.Results.{◌>>=◌}
use Rattle.cms_stream_laws.specs.OpenReading.{OpenSpot, body_of, is_short, lost, next_openly, kept, opaque_openly}
use Rattle.cms_stream_laws.specs.OpenReading.{optional_opaque_openly, is_none_of}
use Rattle.cms_stream_laws.specs.OpenReading.{tagged_openly}
use Rattle.cms_stream_laws.proofs.Switches.{MaybeWhole, some_whole, none_whole}
use Rattle.cms_stream.specs.Passing.{body_to, past, tag_fits}
use Rattle.cms_stream.proofs.Listing.{Misses, take_nothing}

abbrev Whole : Type 0
Whole = Result (List ℕ × OpenSpot) Fault

abbrev passing : OpenSpot → OpenSpot × OpenSpot → Whole
passing w x = kept any_at x.0 >>= λ u. Ok (take (x.1.pos - w.pos) w.rest, x.1)

opaque_read : (w : OpenSpot) → opaque_openly w ≡ (next_openly w >>= passing w)
unfolding opaque_openly
opaque_read w = by_header (next_openly w)
  where
    by_short : (x : OpenSpot × OpenSpot) (b : Bool)
        → cond {A = Whole} b (Err lost) (Ok (take (x.1.pos - w.pos) w.rest, x.1))
        ≡ (cond {A = Result (List ℕ) Fault} b (Err lost) (Ok (body_of x.0))
        >>= λ u. Ok (take (x.1.pos - w.pos) w.rest, x.1))
    by_short x true = refl
    by_short x false = refl

    by_header : (r : Result (OpenSpot × OpenSpot) Fault)
        → (r >>= λ x. cond (is_short x.0) (Err lost) (Ok (take (x.1.pos - w.pos) w.rest, x.1))) ≡ (r >>= passing w)
    by_header (Err f) = refl
    by_header (Ok x) = by_short x (is_short x.0)

pub opaque_found : (end inner : ℕ) (s t u : Spot) (x : List ℕ)
    → next_openly (body_to end s) ≡ Ok (body_to inner t, body_to end (past inner t))
    → kept any_at (body_to inner t) ≡ Ok x → u ≡ past inner t
    → opaque_openly (body_to end s) ≡ Ok (take (inner - s.pos) s.rest, body_to end u)
opaque_found end inner s t u x e h moved = opaque_read (body_to end s) ∙ rw (e, h, moved) refl

pub opaque_not : (w : OpenSpot) (f : Fault) → next_openly w ≡ Err f → opaque_openly w ≡ Err f
opaque_not w f e = opaque_read w ∙ rw e refl

pub opaque_cut : (w a b : OpenSpot) (f : Fault) → next_openly w ≡ Ok (a, b) → kept any_at a ≡ Err f
    → opaque_openly w ≡ Err f
opaque_cut w a b f e h = opaque_read w ∙ rw (e, h) refl

-- ---- where none of the octets that are due are to come

pub opaque_misses : Misses opaque_openly
opaque_misses w some none =
    let gone : w.rest ≡ [] = nil_from_length w.rest none in
    let short : 0 < w.left = some in
    opaque_read w ∙ rw (take_nothing w.left w.rest gone, none, lt-ltb 0 w.left short) refl

-- ---- an element, unless the body ends

pub optional_absent : (w : OpenSpot) → w.left ≡ 0 → optional_opaque_openly w ≡ none_whole w
unfolding optional_opaque_openly
optional_absent w e = rw e refl

optional_stands : (w : OpenSpot) → 0 < w.left → optional_opaque_openly w ≡ (opaque_openly w >>= some_whole)
unfolding optional_opaque_openly
optional_stands w some = rw (ne_eqb w.left 0 (λ z. omega (arith, z, some))) (by_rest (eqb (length w.rest) 0) refl)
  where
    by_rest : (b : Bool) → eqb (length w.rest) 0 ≡ b
        → cond {A = MaybeWhole} b (Err lost) (opaque_openly w >>= some_whole) ≡ (opaque_openly w >>= some_whole)
    by_rest true h = sym (ap (λ (r : Whole). r >>= some_whole) (opaque_misses w some (eqb-true _ _ h)))
    by_rest false h = refl

pub optional_found : (w v : OpenSpot) (y : List ℕ × OpenSpot) → 0 < w.left → opaque_openly w ≡ Ok y → y.1 ≡ v
    → optional_opaque_openly w ≡ Ok (Some y.0, v)
optional_found w v y some e is = optional_stands w some ∙ rw (e, is) refl

pub optional_not : (w : OpenSpot) (f : Fault) → 0 < w.left → opaque_openly w ≡ Err f → optional_opaque_openly w ≡ Err f
optional_not w f some e = optional_stands w some ∙ rw e refl

-- ---- an element with one of some tags

tagged_read : (tags : List ℕ) (w : OpenSpot) → tagged_openly tags w ≡ (tag_fits tags w >>= λ u. opaque_openly w)
unfolding tagged_openly
tagged_read tags w = by_cases (eqb w.left 0) (eqb (length w.rest) 0) (is_none_of tags (body_of w))
  where
    by_cases : (a b c : Bool)
        → cond {A = Whole} a (cond c (Err (fault Tag w.pos)) (opaque_openly w))
        (cond b (Err lost) (cond c (Err (fault Tag w.pos)) (opaque_openly w)))
        ≡ (cond {A = Result (Unit {0}) Fault} a (cond c (Err (fault Tag w.pos)) (Ok tt))
        (cond b (Err lost) (cond c (Err (fault Tag w.pos)) (Ok tt)))
        >>= λ u. opaque_openly w)
    by_cases true b true = refl
    by_cases true b false = refl
    by_cases false true c = refl
    by_cases false false true = refl
    by_cases false false false = refl

pub tagged_found : (tags : List ℕ) (w : OpenSpot) (u : Unit {0}) (y : List ℕ × OpenSpot) → tag_fits tags w ≡ Ok u
    → opaque_openly w ≡ Ok y
    → tagged_openly tags w ≡ Ok y
tagged_found tags w u y e h = tagged_read tags w ∙ rw (e, h) refl

pub tagged_not : (tags : List ℕ) (w : OpenSpot) (f : Fault) → tag_fits tags w ≡ Err f → tagged_openly tags w ≡ Err f
tagged_not tags w f e = tagged_read tags w ∙ rw e refl

pub tagged_fails : (tags : List ℕ) (w : OpenSpot) (u : Unit {0}) (f : Fault) → tag_fits tags w ≡ Ok u
    → opaque_openly w ≡ Err f → tagged_openly tags w ≡ Err f
tagged_fails tags w u f e h = tagged_read tags w ∙ rw (e, h) refl

pub tagged_misses : (tags : List ℕ) → Misses (tagged_openly tags)
unfolding tagged_openly
tagged_misses tags w some none = rw (ne_eqb w.left 0 (λ z. omega (arith, z, some)), none) refl

-- The digest algorithm of a signer is the element behind its version and its identifier.
use Rattle.std.proofs.Common.{◌≡◌, ℕ, ◌-◌, List, ◌∷◌, [], length, Option, Result, Ok, Err, sym, ap, ◌∙◌, inl, inr}
use Rattle.der_core.specs.declared.fault.Fault.{Fault}
use Rattle.der_core.specs.declared.fault.Kind.TheVariants.{Tag}
use Rattle.der_core.specs.AlgorithmReading.{algorithm_in}
use Rattle.der_core.specs.Element.{has_tag}
use Rattle.der_core.specs.Reading.{fault, Spot, spot, Taken, is_other, next_at, expect_at, enter_at, within, either}
use Rattle.der_core.specs.Reading.{◌then◌, whole_of, any_at, version_in}
use Rattle.der_core.specs.Reading.{maybe_filled, last_filled}
use Rattle.der_core.specs.Results.{◌>>=◌}
use Rattle.der_core.proofs.ReadLengths.{ok_is, ok_snd, chosen}
use Rattle.der_core.proofs.Results.{bind_ok}
use Rattle.cms_types.specs.AttributeReading.{attributes_in, signed_attributes_in}
use Rattle.der_core.specs.Values.{AlgorithmValue}
use Rattle.cms_types.specs.AttributeValue.{AttributeValue}
use Rattle.cms_types.specs.SignerValue.{SidValue, SignerValue}
use Rattle.cms_types.specs.SignerReading.{issuer_and_serial_in, sid_from, sid_at, SignerParts, signer_from, signer_in}
use Rattle.cms_types.proofs.OfType.{whole_read, both_read, contents_read}

-- what is entered is taken
expected : (tag : ℕ) (s : Spot) (y : Spot × Spot) → enter_at tag s ≡ Ok y
    → (x : Taken) × (expect_at tag s ≡ Ok (x, y.1))
unfolding enter_at
expected tag s y e =
    let taken = bind_ok (expect_at tag s) (λ x. Ok (spot (x.1.pos - length x.0.body) x.0.body, x.1)) y e in
    let is : taken.0.1 ≡ y.1 =
    ok_snd (spot (taken.0.1.pos - length taken.0.0.body) taken.0.0.body, taken.0.1) y taken.2 in
    (taken.0.0, taken.1 ∙ ap (λ (r : Spot). Ok (taken.0.0, r)) is)

next_of : (tag : ℕ) (s : Spot) (y : Taken × Spot) → expect_at tag s ≡ Ok y → next_at s ≡ Ok y
unfolding expect_at
next_of tag s y e = elim (chosen (is_other tag s.rest) (Err (fault Tag s.pos)) (next_at s) (Ok y) e) [
  | inl h ↦ absurd (let z = h.1 in cc)
  | inr h ↦ h.1
]

-- what is read within an element is behind the heading of it
within_behind : {A : Type 0} (tag : ℕ) (inside : Spot → Result A Fault) (s : Spot) (y : A × Spot)
    → within tag inside s ≡ Ok y
    → (x : Taken) × (expect_at tag s ≡ Ok (x, y.1))
within_behind tag inside s y e =
    let read = contents_read tag inside s y e in
    let taken = expected tag s read.0 read.1 in
    (taken.0, taken.1 ∙ ap (λ (r : Spot). Ok (taken.0, r)) (sym read.3))

sid_behind : (s : Spot) (y : SidValue × Spot) → sid_at s ≡ Ok y → (x : Taken) × (next_at s ≡ Ok (x, y.1))
unfolding sid_at
sid_behind s y e =
    let made = bind_ok (either 0x30 issuer_and_serial_in 128 any_at s) (λ x. Ok (sid_from x.0, x.1)) y e in
    let same : made.0.1 ≡ y.1 = ok_snd (sid_from made.0.0, made.0.1) y made.2 in
    elim (chosen (has_tag 0x30 s.rest) (within 0x30 issuer_and_serial_in s >>= λ x. Ok (inl x.0, x.1))
    (within 128 any_at s >>= λ x. Ok (inr x.0, x.1)) (Ok made.0) made.1) [
      | inl h ↦
          let one = bind_ok (within 0x30 issuer_and_serial_in s) (λ x. Ok (inl x.0, x.1)) made.0 h.1 in
          let taken = within_behind 0x30 issuer_and_serial_in s one.0 one.1 in (
            taken.0,
            next_of 0x30 s (taken.0, one.0.1) taken.1
                ∙ ap (λ (r : Spot). Ok (taken.0, r)) (ok_snd (inl one.0.0, one.0.1) made.0 one.2 ∙ same),
          )
      | inr h ↦
          let one = bind_ok (within 128 any_at s) (λ x. Ok (inr x.0, x.1)) made.0 h.1 in
          let taken = within_behind 128 any_at s one.0 one.1 in (
            taken.0,
            next_of 128 s (taken.0, one.0.1) taken.1
                ∙ ap (λ (r : Spot). Ok (taken.0, r)) (ok_snd (inr one.0.0, one.0.1) made.0 one.2 ∙ same),
          )
    ]

-- where they are in a signer that is read
pub record Placed (c : Spot) (s : SignerValue) : Type 0 where
  pub version : Taken
  pub behind_version : Spot
  pub sid : Taken
  pub behind_sid : Spot
  pub behind : Spot
  pub version_at : expect_at 0x02 c ≡ Ok (version, behind_version)
  pub sid_is : next_at behind_version ≡ Ok (sid, behind_sid)
  pub algorithm : within 0x30 algorithm_in behind_sid ≡ Ok (s.digest_algorithm, behind)

abbrev Behind : Spot
    → Result ((Option (List AttributeValue) × (AlgorithmValue × (List ℕ × Option (List AttributeValue)))) × Spot) Fault
Behind s = (maybe_filled 0xa0 signed_attributes_in then within 0x30 algorithm_in then within 0x04 any_at
    then last_filled 0xa1 attributes_in) s

pub placed : (c : Spot) (s : SignerValue) → signer_in c ≡ Ok s → Placed c s
unfolding signer_in
placed c s e =
    let made = bind_ok
    (whole_of (within 0x02 (version_in (1 ∷ 3 ∷ [])) then sid_at then within 0x30 algorithm_in then Behind) c)
    (λ x. Ok (signer_from x)) s e in
    let all = whole_read
    (within 0x02 (version_in (1 ∷ 3 ∷ [])) then sid_at then within 0x30 algorithm_in then Behind) c made.0 made.1 in
    let version = both_read (within 0x02 (version_in (1 ∷ 3 ∷ [])))
    (sid_at then within 0x30 algorithm_in then Behind) c all.0 all.1 in
    let sid = both_read sid_at (within 0x30 algorithm_in then Behind) version.0.1 (all.0.0.1, all.0.1) version.3 in
    let algorithm = both_read (within 0x30 algorithm_in) Behind sid.0.1 (all.0.0.1.1, all.0.1) sid.3 in
    let front = within_behind 0x02 (version_in (1 ∷ 3 ∷ [])) c version.0 version.1 in
    let second = sid_behind version.0.1 sid.0 sid.1 in
    let is : algorithm.0.0 ≡ s.digest_algorithm = algorithm.2 ∙ ap (λ (p : SignerParts). p.1.1.0) all.2
    ∙ ap (λ (t : SignerValue). t.digest_algorithm) (ok_is (signer_from made.0) s made.2) in
    record {
      version = front.0;
      behind_version = version.0.1;
      sid = second.0;
      behind_sid = sid.0.1;
      behind = algorithm.0.1;
      version_at = front.1;
      sid_is = second.1;
      algorithm = algorithm.1 ∙ ap (λ (a : AlgorithmValue). Ok (a, algorithm.0.1)) is;
    }

pub no_version : (c : Spot) (s : SignerValue) (f : Fault) → signer_in c ≡ Ok s → expect_at 0x02 c ≡ Err f → ⊥
no_version c s f e k = let p = placed c s e in let z = sym k ∙ p.version_at in cc

behind_version_is : (c : Spot) (s : SignerValue) (p : Placed c s) (v : Taken × Spot) → expect_at 0x02 c ≡ Ok v
    → next_at v.1 ≡ Ok (p.sid, p.behind_sid)
behind_version_is c s p v k = ap next_at (ok_snd v (p.version, p.behind_version) (sym k ∙ p.version_at)) ∙ p.sid_is

pub no_sid : (c : Spot) (s : SignerValue) (v : Taken × Spot) (f : Fault) → signer_in c ≡ Ok s → expect_at 0x02 c ≡ Ok v
    → next_at v.1 ≡ Err f → ⊥
no_sid c s v f e k n = let p = placed c s e in let z = sym n ∙ behind_version_is c s p v k in cc

pub algorithm_there : (c : Spot) (s : SignerValue) (v i : Taken × Spot) → signer_in c ≡ Ok s → expect_at 0x02 c ≡ Ok v
    → next_at v.1 ≡ Ok i
    → (r : Spot) × (within 0x30 algorithm_in i.1 ≡ Ok (s.digest_algorithm, r))
algorithm_there c s v i e k n =
    let p = placed c s e in
    let is = ok_snd i (p.sid, p.behind_sid) (sym n ∙ behind_version_is c s p v k) in
    (p.behind, ap (λ (x : Spot). within 0x30 algorithm_in x) is ∙ p.algorithm)

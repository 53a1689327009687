-- Whether a stamp that fits lasts until the end of its use.
use Rattle.std.proofs.Common.{◌≡◌, ◌↔◌, ℕ, Bool, true, false, List, [], ◌∷◌, Option, Some, None, MatchOption, Result}
use Rattle.std.proofs.Common.{Ok}
use Rattle.std.proofs.Common.{Err, IfOk, IsTrue, refl, sym, ap, ◌∙◌, subst, unwrap_or, if◌then◌else◌}
use Rattle.der_time.specs.Moments.{generalized_moment}
use Rattle.digests.specs.Algorithms.{Names}
use Rattle.digests.specs.Named.{is_alg}
use Rattle.digests.specs.declared.algorithm.Alg.{Alg}
use Rattle.digests.proofs.Named.{alg_says}
use Rattle.cms_types.specs.AttributeValue.{AttributeValue}
use Rattle.cms_types.specs.SignerValue.{SignerValue}
use Rattle.cms_types.specs.SignedDataValue.{SignedDataValue}
use Rattle.check_fit.specs.declared.policy.Policy.{Policy}
use Rattle.check_fit.proofs.Readings.{one_value}
use Rattle.tsp_types.specs.ImprintValue.{ImprintValue}
use Rattle.trust_lists.specs.Asking.{Asked}
use Rattle.evidence_types.specs.StampValue.{StampValue}
use Rattle.check_verdict.specs.Trusted.{asked}
use Rattle.check_verdict.specs.Passing.{IsDue, IsImprint}
use Rattle.check_evidence.specs.declared.rules.StampRule.{StampRule}
use Rattle.check_evidence.specs.declared.rules.StampRule.TheVariants as rule
use Rattle.check_evidence.specs.Grounds.{Grounds, terms_of, of_root}
use Rattle.check_evidence.specs.Places.{Place}
use Rattle.check_evidence.specs.StampStates.{HasTime, IsUntil, IsUntilBy}
use Rattle.check_evidence.specs.Standing.{FitsIn, AlgsHold, Lasts, Stands}
use Rattle.check_evidence.specs.Failing.{FailsToLast}
use Rattle.evidence_stamps.specs.StateValue.{StateValue, IsState, IsStateOf}
use Rattle.evidence_stamps.specs.MayLast.{TokenLasts, MayLast, IsAskedToLast}
use Rattle.judge_evidence.specs.Asking.{IsAskedToLastAt}
use Rattle.judge_evidence.specs.Running.{ShowsTime, IsFound}
use Rattle.check_evidence.proofs.States.{some_is, imprint_alg, passing_time}

-- ---- until when

abbrev pub IsAheadBy : Option StampValue → (last : Bool) → Option StateValue → Type 0
IsAheadBy next last ahead = MatchOption next (last ≡ true) (λ s. (last ≡ false) × IsStateOf s.stamp ahead)

pub until_last : (next : Option StampValue) (at : Option ℕ) (its : StampValue) (last : Bool) (ahead : Option StateValue)
    (m until : ℕ) → IsAheadBy next last ahead → last ≡ true → until ≡ unwrap_or at m → HasTime its m
    → IsUntilBy next at its until
until_last (Some s) at its last ahead m until h e is time = absurd (let differ : true ≡ false = sym e ∙ h.0 in cc)
until_last None (Some n) its last ahead m until h e is time = is
until_last None None its last ahead m until h e is time = subst (λ (x : ℕ). HasTime its x) (sym is) time

pub until_ahead : (next : Option StampValue) (at : Option ℕ) (its : StampValue) (last : Bool) (st : StateValue)
    (until : ℕ) → IsAheadBy next last (Some st) → last ≡ false → until ≡ generalized_moment st.stated.time
    → IsUntilBy next at its until
until_ahead None at its last st until h e is = absurd (let differ : true ≡ false = sym h ∙ e in cc)
until_ahead (Some s) at its last st until h e is = (st.stated, h.1.states, sym is)

pub no_until : (next : Option StampValue) (last : Bool) → IsAheadBy next last None → last ≡ false
    → ((s : StampValue) → next ≡ Some s → ShowsTime s) → ⊥
no_until None last h e shows = let differ : true ≡ false = sym h ∙ e in cc
no_until (Some s) last h e shows = let time = (shows s refl).1 in h.1 time.0 time.1

pub false_not_true : (b : Bool) → b ≡ false → IsTrue b → ⊥
false_not_true true e h = cc
false_not_true false e h = cc

-- ---- what is kept of its token

first_one : (x y : SignerValue) → x ∷ [] ≡ y ∷ [] → x ≡ y
first_one x y e = cc

module _ (g : Grounds) (ds : List (List ℕ)) (p : Place) (alg : Alg) (m : ℕ) (f : FitsIn g ds p alg m) (st : StateValue)
    (is : IsState p.stamp.stamp st) where
  signed_is : f.imprints.passes.signed ≡ st.signed
  signed_is = one_value p.stamp.stamp f.imprints.passes.signed is.states.signed f.imprints.passes.encodes
      is.states.encodes ∙ is.signed

  signers_are : st.signed.signers ≡ f.imprints.passes.signer ∷ []
  signers_are = ap (λ (v : SignedDataValue). v.signers) (sym signed_is) ∙ f.imprints.passes.one_signer

  imprint_is : f.imprints.passes.imprint.alg ≡ alg
  imprint_is = imprint_alg (terms_of g).policy alg f.imprints.root _ f.imprints.passes.imprint

  to_algs : (until : ℕ) → AlgsHold g.ends alg alg f.imprints.passes.fits.alg until
      → AlgsHold g.ends alg f.imprints.passes.imprint.alg f.imprints.passes.fits.alg until
  to_algs until h = subst (λ (a : Alg). AlgsHold g.ends alg a f.imprints.passes.fits.alg until) (sym imprint_is) h

  from_algs : (until : ℕ) → AlgsHold g.ends alg f.imprints.passes.imprint.alg f.imprints.passes.fits.alg until
      → AlgsHold g.ends alg alg f.imprints.passes.fits.alg until
  from_algs until h = subst (λ (a : Alg). AlgsHold g.ends alg a f.imprints.passes.fits.alg until) imprint_is h

  from_lasts : (until : ℕ) → Lasts g f.imprints.passes.signer f.imprints.passes.attributes m until
      → TokenLasts g st.signed m until
  from_lasts until h = record {
    signer = f.imprints.passes.signer;
    one_signer = signers_are;
    attributes = f.imprints.passes.attributes;
    has = f.imprints.passes.has;
    lasts = h;
  }

  -- its one signer, with its signed attributes, is that under which it passes
  same_signer : (s : SignerValue) → st.signed.signers ≡ s ∷ [] → s ≡ f.imprints.passes.signer
  same_signer s one = first_one s f.imprints.passes.signer (sym one ∙ signers_are)

  same_attributes : (s : SignerValue) (attributes : List AttributeValue) → st.signed.signers ≡ s ∷ []
      → s.signed_attributes ≡ Some attributes → attributes ≡ f.imprints.passes.attributes
  same_attributes s attributes one has = some_is attributes f.imprints.passes.attributes
      f.imprints.passes.signer.signed_attributes
      (subst (λ (x : SignerValue). x.signed_attributes ≡ Some attributes) (same_signer s one) has)
      f.imprints.passes.has

  to_lasts : (until : ℕ) → TokenLasts g st.signed m until
      → Lasts g f.imprints.passes.signer f.imprints.passes.attributes m until
  to_lasts until h =
      subst (λ (a : List AttributeValue). Lasts g f.imprints.passes.signer a m until)
      (same_attributes h.signer h.attributes h.one_signer h.has)
      (subst (λ (s : SignerValue). Lasts g s h.attributes m until) (same_signer h.signer h.one_signer) h.lasts)

  -- the algorithm of its signer is known
  signer_known : (signer : Option Alg) → ((s : SignerValue) (a : Alg) → st.signed.signers ≡ s ∷ []
      → Names s.digest_algorithm.oid s.digest_algorithm.parameters a → signer ≡ Some a)
      → signer ≡ Some f.imprints.passes.fits.alg
  signer_known signer only = only f.imprints.passes.signer f.imprints.passes.fits.alg signers_are
      f.imprints.passes.fits.named

  module _ (signer : Option Alg) (until : ℕ) (u : IsUntil g.at p until)
      (only : (s : SignerValue) (a : Alg) → st.signed.signers ≡ s ∷ []
      → Names s.digest_algorithm.oid s.digest_algorithm.parameters a → signer ≡ Some a) (holds : Bool)
      (tells : (a : Alg) → signer ≡ Some a → IsTrue holds ↔ AlgsHold g.ends alg alg a until) where
    told : IsTrue holds ↔ AlgsHold g.ends alg alg f.imprints.passes.fits.alg until
    told = tells f.imprints.passes.fits.alg (signer_known signer only)

    pub is_weak : holds ≡ false → FailsToLast g ds p rule.Weak
    is_weak fails = record {
      alg = alg;
      moment = m;
      fits = f;
      until = until;
      is_until = u;
      not = λ h. absurd (false_not_true holds fails (told.1 (from_algs until h)));
    }

    module _ (succeeds : holds ≡ true) where
      strong : AlgsHold g.ends alg f.imprints.passes.imprint.alg f.imprints.passes.fits.alg until
      strong = to_algs until (told.0 (subst (λ (b : Bool). IsTrue b) (sym succeeds) refl))

      pub is_lapsed : (TokenLasts g st.signed m until → ⊥) → FailsToLast g ds p rule.Lapsed
      is_lapsed ends =
          let not : Lasts g f.imprints.passes.signer f.imprints.passes.attributes m until → ⊥
          = λ h. ends (from_lasts until h) in
          record { alg = alg; moment = m; fits = f; until = until; is_until = u; algs = strong; not = not }

      -- what is asked then is asked about the stamp
      pub asked_to_last : (q : Asked) → IsAskedToLast g.trust st.signed m until q → IsAskedToLastAt g ds p q
      asked_to_last q h =
          let signer = same_signer h.signer h.one_signer in
          let attributes = same_attributes h.signer h.attributes h.one_signer h.has in
          record {
            alg = alg;
            moment = m;
            fits = f;
            until = until;
            is_until = u;
            algs = strong;
            entry = h.entry;
            trusted = h.trusted;
            may = subst (λ (a : List AttributeValue). MayLast f.imprints.passes.signer a m until h.entry) attributes
                (subst (λ (s : SignerValue). MayLast s h.attributes m until h.entry) signer h.may);
            is = h.is ∙ (λ i. asked h.entry.certificate (signer i) (attributes i));
          }

      pub it_stands : TokenLasts g st.signed m until → Stands g ds p
      it_stands h = let lasts = to_lasts until h in
          record { alg = alg; moment = m; fits = f; until = until; is_until = u; algs = strong; lasts = lasts }

-- the moment with which it fits is the one that it states
pub fits_at : (g : Grounds) (ds : List (List ℕ)) (p : Place) (alg : Alg) (m : ℕ) → FitsIn g ds p alg m
    → HasTime p.stamp m
fits_at g ds p alg m f = passing_time (terms_of g) p.stamp (of_root alg f.imprints.root) m f.imprints.passes

-- what is found of it is found if it can be told until when it is used
pub found_if : {E : Type 0} (g : Grounds) (ds : List (List ℕ)) (p : Place) (r : Result (Option StampRule) E)
    → IfOk r (λ found. MatchOption found (Stands g ds p) (λ failed. FailsToLast g ds p failed))
    → IfOk r (λ found. IsFound g ds p found)
found_if g ds p (Ok found) h = λ until. h
found_if g ds p (Err e) h = tt

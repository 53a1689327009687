-- An archive time-stamp that fits is used until one moment, by the same algorithms and under the same signer.
use Rattle.std.proofs.Common.{◌≡◌, ℕ, List, sym, ◌∙◌, subst}
use Rattle.digests.specs.declared.algorithm.Alg.{Alg}
use Rattle.cms_types.specs.AttributeValue.{AttributeValue}
use Rattle.cms_types.specs.SignerValue.{SignerValue}
use Rattle.check_evidence.specs.Grounds.{AlgEnd, Grounds, terms_of, of_root}
use Rattle.check_evidence.specs.Places.{Place, following}
use Rattle.check_evidence.specs.StampStates.{IsUntil}
use Rattle.check_evidence.specs.Ends.{AlgHolds}
use Rattle.check_evidence.specs.Standing.{Imprints, FitsIn, AlgsHold, Lasts, Stands}
use Rattle.check_evidence.specs.Failing.{IsWeak, IsLapsed}
use Rattle.check_evidence.proofs.States.{one_time, one_alg, one_until, imprint_alg, same_signer, same_attributes}
use Rattle.check_evidence.proofs.States.{same_alg, passing_time}

pub moments_same : (g : Grounds) (ds : List (List ℕ)) (p : Place) (a b : Alg) (m n : ℕ) → Imprints g ds p a m
    → Imprints g ds p b n → m ≡ n
moments_same g ds p a b m n i j = one_time p.stamp m n
    (passing_time (terms_of g) p.stamp (of_root a i.root) m i.passes)
    (passing_time (terms_of g) p.stamp (of_root b j.root) n j.passes)

-- it fits, and is used until this moment
pub record EndOfUse (g : Grounds) (ds : List (List ℕ)) (p : Place) : Type 0 where
  pub alg : Alg
  pub moment : ℕ
  pub fits : FitsIn g ds p alg moment
  pub until : ℕ
  pub is_until : IsUntil g.at p until

abbrev pub Strong : (g : Grounds) (ds : List (List ℕ)) (p : Place) → EndOfUse g ds p → Type 0
Strong g ds p e =
    AlgsHold g.ends e.alg e.fits.imprints.passes.imprint.alg e.fits.imprints.passes.fits.alg e.until

abbrev pub Lasting : (g : Grounds) (ds : List (List ℕ)) (p : Place) → EndOfUse g ds p → Type 0
Lasting g ds p e =
    Lasts g e.fits.imprints.passes.signer e.fits.imprints.passes.attributes e.moment e.until

-- that of one that stands, and of one that fails W6 or W7
module _ (g : Grounds) (ds : List (List ℕ)) (p : Place) where
  abbrev pub end_of : Stands g ds p → EndOfUse g ds p
  end_of h = record { alg = h.alg; moment = h.moment; fits = h.fits; until = h.until; is_until = h.is_until }

  abbrev pub end_of_weak : IsWeak g ds p → EndOfUse g ds p
  end_of_weak h = record { alg = h.alg; moment = h.moment; fits = h.fits; until = h.until; is_until = h.is_until }

  abbrev pub end_of_lapsed : IsLapsed g ds p → EndOfUse g ds p
  end_of_lapsed h = record { alg = h.alg; moment = h.moment; fits = h.fits; until = h.until; is_until = h.is_until }

still_holds : (ends : List AlgEnd) (a b : Alg) (u v : ℕ) → a ≡ b → u ≡ v → AlgHolds ends a u → AlgHolds ends b v
still_holds ends a b u v e f h = subst (λ (n : ℕ). AlgHolds ends b n) f (subst (λ (x : Alg). AlgHolds ends x u) e h)

still_lasts : (g : Grounds) (s t : SignerValue) (a b : List AttributeValue) (m n u v : ℕ) → s ≡ t → a ≡ b → m ≡ n
    → u ≡ v → Lasts g s a m u → Lasts g t b n v
still_lasts g s t a b m n u v is-s is-a is-m is-u h =
    subst (λ (x : ℕ). Lasts g t b n x) is-u
    (subst (λ (x : ℕ). Lasts g t b x u) is-m
    (subst (λ (x : List AttributeValue). Lasts g t x m u) is-a
    (subst (λ (x : SignerValue). Lasts g x a m u) is-s h)))

module _ (g : Grounds) (ds : List (List ℕ)) (p : Place) (e f : EndOfUse g ds p) where
  algs : e.alg ≡ f.alg
  algs = one_alg p.stamp e.alg f.alg e.fits.is_alg.its f.fits.is_alg.its

  untils : e.until ≡ f.until
  untils = one_until (following p) g.at p.stamp e.until f.until e.is_until f.is_until

  imprints : e.fits.imprints.passes.imprint.alg ≡ f.fits.imprints.passes.imprint.alg
  imprints = imprint_alg (terms_of g).policy e.alg e.fits.imprints.root _ e.fits.imprints.passes.imprint ∙ algs
      ∙ sym (imprint_alg (terms_of g).policy f.alg f.fits.imprints.root _ f.fits.imprints.passes.imprint)

  pub strong_too : Strong g ds p e → Strong g ds p f
  strong_too h = record {
    by_lists = still_holds g.ends e.alg f.alg e.until f.until algs untils h.by_lists;
    by_imprint = still_holds g.ends _ _ e.until f.until imprints untils h.by_imprint;
    by_signer = still_holds g.ends _ _ e.until f.until
        (same_alg (terms_of g) p.stamp.stamp _ _ e.moment f.moment e.fits.imprints.passes f.fits.imprints.passes)
        untils h.by_signer;
  }

  pub lasting_too : Lasting g ds p e → Lasting g ds p f
  lasting_too h = still_lasts g _ _ _ _ e.moment f.moment e.until f.until
      (same_signer (terms_of g) p.stamp.stamp _ _ e.moment f.moment e.fits.imprints.passes f.fits.imprints.passes)
      (same_attributes (terms_of g) p.stamp.stamp _ _ e.moment f.moment e.fits.imprints.passes f.fits.imprints.passes)
      (moments_same g ds p e.alg f.alg e.moment f.moment e.fits.imprints f.fits.imprints)
      untils h

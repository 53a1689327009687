-- What a record shows, and how it is refused, rests on the questions of the record alone.
use Rattle.std.proofs.Common.{ℕ, Bool, List, ◌∷◌, refl, sym, ap, subst, ◌∙◌, arith, inl, inr}
use Rattle.std.specs.Prelude.{Contains}
use Rattle.std.proofs.lemmas.List.Concat.{flat_map-cons, flat_map-append}
use Rattle.std.proofs.lemmas.List.Elements.{Contains-append_left, Contains-append_right}
use Rattle.digests.specs.declared.algorithm.Alg.{Alg}
use Rattle.trust_lists.specs.Asking.{Asked}
use Rattle.evidence_types.specs.StampValue.{StampValue}
use Rattle.evidence_types.specs.EvidenceValue.{EvidenceValue}
use Rattle.check_evidence.specs.Grounds.{Grounds, of_root, of_none}
use Rattle.check_evidence.specs.Places.{Place, IsIn, chain_of, stamps_of}
use Rattle.check_evidence.specs.Standing.{Imprints, IsOrdered, FitsIn, Stands}
use Rattle.check_evidence.specs.Showing.{Shows}
use Rattle.check_evidence.specs.Failing.{FailsToFit}
use Rattle.check_evidence.specs.Failing.{FailsToLast}
use Rattle.check_evidence.specs.Refusing.{Fits, FirstUnfit, FirstLapsed, StampFails, Refuses}
use Rattle.check_evidence.specs.declared.rules.StampRule.{StampRule}
use Rattle.check_evidence.specs.declared.rules.StampRule.TheVariants as rule
use Rattle.check_evidence.specs.declared.rules.EvidenceRefused.{EvidenceRefused}
use Rattle.check_evidence.specs.declared.rules.EvidenceRefused.TheVariants as refused
use Rattle.evidence_questions.specs.Laws.{IsStampOf, RecordAnswers, by_answers, RecordsShowAlike, RecordsRefusedAlike}
use Rattle.evidence_questions.proofs.Alike.{back_again, SignedStamp, lasts_along, passes_along, fail_alike}

-- the stamp at a place is one of the stamps
pub at_place : (chains : List (List StampValue)) (p : Place) → IsIn chains p → Contains (stamps_of chains) p.stamp
at_place chains p is =
    let here : Contains (chain_of p) p.stamp =
    Contains-append_right p.before (p.stamp ∷ p.after) p.stamp (0, omega arith, refl) in
    let behind : Contains (stamps_of (chain_of p ∷ p.later)) p.stamp =
    subst (λ (l : List StampValue). Contains l p.stamp)
    (sym (flat_map-cons (λ (c : List StampValue). c) (chain_of p) p.later))
    (Contains-append_left (chain_of p) (stamps_of p.later) p.stamp here) in
    subst (λ (l : List StampValue). Contains l p.stamp)
    (sym (ap stamps_of is ∙ flat_map-append (λ (c : List StampValue). c) p.earlier (chain_of p ∷ p.later)))
    (Contains-append_right (stamps_of p.earlier) (stamps_of (chain_of p ∷ p.later)) p.stamp behind)

-- whether it is in order doesn't rest on answers
ordered : (g : Grounds) (w : Asked → Bool) (p : Place) (m : ℕ) → IsOrdered g p m → IsOrdered (by_answers g w) p m
ordered g w p m o = record { later = o.later; in_time = o.in_time }

-- ---- a stamp

module _ (g : Grounds) (octets : List ℕ) (w : Asked → Bool) (agree : RecordAnswers g octets w)
    (ds : List (List ℕ)) (p : Place) (of : IsStampOf octets p.stamp) where
  abbrev imprints : (alg : Alg) (m : ℕ) → Imprints g ds p alg m → Imprints (by_answers g w) ds p alg m
  imprints alg m i = record {
    root = i.root;
    is_root = i.is_root;
    passes = passes_along g octets w agree p.stamp of (of_root alg i.root) m i.passes;
  }

  abbrev fits : (alg : Alg) (m : ℕ) → FitsIn g ds p alg m → FitsIn (by_answers g w) ds p alg m
  fits alg m f = record {
    is_alg = f.is_alg;
    lengths = f.lengths;
    covers = f.covers;
    imprints = imprints alg m f.imprints;
    ordered = ordered g w p m f.ordered;
  }

  signed_by : (alg : Alg) (m : ℕ) (f : FitsIn g ds p alg m)
      → SignedStamp octets p.stamp f.imprints.passes.signer f.imprints.passes.attributes
  signed_by alg m f = record {
    of = of;
    signed = record {
      signed = f.imprints.passes.signed;
      encodes = f.imprints.passes.encodes;
      one_signer = f.imprints.passes.one_signer;
    };
    has = f.imprints.passes.has;
  }

  stands : Stands g ds p → Stands (by_answers g w) ds p
  stands s = record {
    alg = s.alg;
    moment = s.moment;
    fits = fits s.alg s.moment s.fits;
    until = s.until;
    is_until = s.is_until;
    algs = s.algs;
    lasts = lasts_along g octets w agree p.stamp s.fits.imprints.passes.signer s.fits.imprints.passes.attributes
        (signed_by s.alg s.moment s.fits) s.moment s.until s.lasts;
  }

  fails_to_fit : (failed : StampRule) → FailsToFit g ds p failed → FailsToFit (by_answers g w) ds p failed
  fails_to_fit rule.Algorithm f = f
  fails_to_fit rule.HashLength f = f
  fails_to_fit rule.NotCovered f = f
  fails_to_fit (rule.Token failed) (inl f) = inl (record {
    alg = f.alg;
    is_alg = f.is_alg;
    lengths = f.lengths;
    covers = f.covers;
    root = f.root;
    is_root = f.is_root;
    fails = (fail_alike g octets w agree p.stamp of (of_root f.alg f.root) failed).0 f.fails;
  })
  fails_to_fit (rule.Token failed) (inr f) = inr (record {
    unread = f.unread;
    fails = (fail_alike g octets w agree p.stamp of of_none failed).0 f.fails;
  })
  fails_to_fit rule.Order f = record {
    alg = f.alg;
    moment = f.moment;
    is_alg = f.is_alg;
    lengths = f.lengths;
    covers = f.covers;
    imprints = imprints f.alg f.moment f.imprints;
    not = λ o. f.not (ordered (by_answers g w) g.vouches p f.moment o);
  }
  fails_to_fit rule.Weak f = f
  fails_to_fit rule.Lapsed f = f
  fails_to_fit rule.Others f = f

  fails_to_last : (failed : StampRule) → FailsToLast g ds p failed → FailsToLast (by_answers g w) ds p failed
  fails_to_last rule.Algorithm f = f
  fails_to_last rule.HashLength f = f
  fails_to_last rule.NotCovered f = f
  fails_to_last (rule.Token failed) f = f
  fails_to_last rule.Order f = f
  fails_to_last rule.Weak f = record {
    alg = f.alg;
    moment = f.moment;
    fits = fits f.alg f.moment f.fits;
    until = f.until;
    is_until = f.is_until;
    not = f.not;
  }
  fails_to_last rule.Lapsed f = record {
    alg = f.alg;
    moment = f.moment;
    fits = fits f.alg f.moment f.fits;
    until = f.until;
    is_until = f.is_until;
    algs = f.algs;
    not = λ l. f.not (lasts_along (by_answers g w) octets g.vouches (back_again g octets w agree) p.stamp
        f.fits.imprints.passes.signer f.fits.imprints.passes.attributes (signed_by f.alg f.moment f.fits) f.moment
        f.until l);
  }
  fails_to_last rule.Others f = f

-- ---- a record

module _ (g : Grounds) (octets : List ℕ) (w : Asked → Bool) (agree : RecordAnswers g octets w)
    (ds : List (List ℕ)) (v : EvidenceValue) (of : (q : Place) → IsIn v.chains q → IsStampOf octets q.stamp) where
  fits_at : (q : Place) → IsIn v.chains q → Fits g ds q → Fits (by_answers g w) ds q
  fits_at q is (alg, m, f) = (alg, m, fits g octets w agree ds q (of q is) alg m f)

  stands_at : (q : Place) → IsIn v.chains q → Stands g ds q → Stands (by_answers g w) ds q
  stands_at q is s = stands g octets w agree ds q (of q is) s

  first_unfit : (p : Place) (failed : StampRule) → FirstUnfit g ds v.chains p failed
      → FirstUnfit (by_answers g w) ds v.chains p failed
  first_unfit p failed f = record {
    is_in = f.is_in;
    before = λ q is b. fits_at q is (f.before q is b);
    fails = fails_to_fit g octets w agree ds p (of p f.is_in) failed f.fails;
  }

  first_lapsed : (p : Place) (failed : StampRule) → FirstLapsed g ds v.chains p failed
      → FirstLapsed (by_answers g w) ds v.chains p failed
  first_lapsed p failed f = record {
    is_in = f.is_in;
    all_fit = λ q is. fits_at q is (f.all_fit q is);
    before = λ q is b. stands_at q is (f.before q is b);
    fails = fails_to_last g octets w agree ds p (of p f.is_in) failed f.fails;
  }

  stamp_fails : (p : Place) (failed : StampRule) → StampFails g ds v.chains p failed
      → StampFails (by_answers g w) ds v.chains p failed
  stamp_fails p rule.Algorithm f = first_unfit p rule.Algorithm f
  stamp_fails p rule.HashLength f = first_unfit p rule.HashLength f
  stamp_fails p rule.NotCovered f = first_unfit p rule.NotCovered f
  stamp_fails p (rule.Token failed) f = first_unfit p (rule.Token failed) f
  stamp_fails p rule.Order f = first_unfit p rule.Order f
  stamp_fails p rule.Weak f = first_lapsed p rule.Weak f
  stamp_fails p rule.Lapsed f = first_lapsed p rule.Lapsed f
  stamp_fails p rule.Others f = record {
    is_in = f.is_in;
    first_chain = f.first_chain;
    first_stamp = f.first_stamp;
    all_stand = λ q is. stands_at q is (f.all_stand q is);
    whole = f.whole;
    others = f.others;
    is = f.is;
  }

shows_along : (g : Grounds) (octets : List ℕ) (w : Asked → Bool) → RecordAnswers g octets w → (ds : List (List ℕ))
    (m : ℕ) → Shows g octets ds m → Shows (by_answers g w) octets ds m
shows_along g octets w agree ds m s = record {
  some_data = s.some_data;
  record_value = s.record_value;
  encodes = s.encodes;
  open_data = s.open_data;
  stands = λ q is. stands g octets w agree ds q (record {
    record_value = s.record_value;
    encodes = s.encodes;
    open_data = s.open_data;
    among = at_place s.record_value.chains q is;
  }) (s.stands q is);
  first = s.first;
  is_first = s.is_first;
  moment = s.moment;
  whole = s.whole;
}

pub show_alike : RecordsShowAlike
show_alike g octets w agree ds m = (
  shows_along g octets w agree ds m,
  shows_along (by_answers g w) octets g.vouches (back_again g octets w agree) ds m,
)

refused_along : (g : Grounds) (octets : List ℕ) (w : Asked → Bool) → RecordAnswers g octets w → (ds : List (List ℕ))
    (r : EvidenceRefused) → Refuses g octets ds r → Refuses (by_answers g w) octets ds r
refused_along g octets w agree ds (refused.Record failed) f = f
refused_along g octets w agree ds (refused.Device fault) f = f
refused_along g octets w agree ds (refused.Stamp chain stamp failed) f = record {
  some_data = f.some_data;
  record_value = f.record_value;
  encodes = f.encodes;
  open_data = f.open_data;
  place = f.place;
  is_chain = f.is_chain;
  is_stamp = f.is_stamp;
  fails = stamp_fails g octets w agree ds f.record_value (λ q is. record {
    record_value = f.record_value;
    encodes = f.encodes;
    open_data = f.open_data;
    among = at_place f.record_value.chains q is;
  }) f.place failed f.fails;
}

pub refused_alike : RecordsRefusedAlike
refused_alike g octets w agree ds r = (
  refused_along g octets w agree ds r,
  refused_along (by_answers g w) octets g.vouches (back_again g octets w agree) ds r,
)

-- A record is refused by one rule, of one time-stamp.
use Rattle.std.proofs.Common.{◌≡◌, ◌⊎◌, ℕ, List, Option, Some, None, IsSome, refl, sym, ap, ◌∙◌, subst, inl, inr}
use Rattle.std.proofs.Common.{length, ◌+◌}
use Rattle.der_core.specs.declared.fault.Fault.{Fault}
use Rattle.der_core.specs.Faults.{Faults}
use Rattle.der_core.specs.Grammar.{file}
use Rattle.der_core.proofs.Refuted.{refuted}
use Rattle.evidence_types.specs.EvidenceTable.{evidence_record}
use Rattle.evidence_types.specs.StampValue.{StampValue}
use Rattle.evidence_types.specs.EvidenceValue.{EncryptionValue, EvidenceValue, EncodesEvidence}
use Rattle.evidence_types.proofs.EvidenceReaders.{evidence_encodes, evidence_unique}
use Rattle.evidence_types.proofs.Clearness.{evidence_record_clear}
use Rattle.check_evidence.specs.declared.rules.RecordRule.{RecordRule}
use Rattle.check_evidence.specs.declared.rules.RecordRule.TheVariants as record_rule
use Rattle.check_evidence.specs.declared.rules.StampRule.{StampRule}
use Rattle.check_evidence.specs.declared.rules.StampRule.TheVariants as rule
use Rattle.check_evidence.specs.declared.rules.EvidenceRefused.TheVariants as refused
use Rattle.check_evidence.specs.Grounds.{Grounds}
use Rattle.check_evidence.specs.Places.{Place, IsIn, IsBefore, chain_number, stamp_number}
use Rattle.check_evidence.specs.Laws.{RootsAreUnique}
use Rattle.check_evidence.specs.Standing.{Stands}
use Rattle.check_evidence.specs.Failing.{FailsToFit, FailsToLast}
use Rattle.check_evidence.specs.Refusing.{Fits, RecordFails, FirstUnfit, FirstLapsed, HasOthers, StampFails, RefusedAt}
use Rattle.evidence_laws.specs.Alone.{record_alone, stamp_alone, evidence_alone}
use Rattle.evidence_laws.specs.Laws.{RecordsHaveOneRefusal}
use Rattle.check_evidence.proofs.Places.{same_place, places_ordered}
use Rattle.evidence_laws.proofs.Stages.{never_unfit, one_unfit}
use Rattle.evidence_laws.proofs.EndsOfUse.{never_ended, one_end}

abbrev Chains : Type 0
Chains = List (List StampValue)

-- ---- one time-stamp

abbrev Reason : Grounds → List (List ℕ) → Chains → Place → StampRule → Type 0
Reason g ds chains p failed = FirstUnfit g ds chains p failed
    ⊎ (FirstLapsed g ds chains p failed ⊎ HasOthers g ds chains p failed)

reason : (g : Grounds) (ds : List (List ℕ)) (chains : Chains) (p : Place) (failed : StampRule)
    → StampFails g ds chains p failed
    → Reason g ds chains p failed
reason g ds chains p rule.Algorithm h = inl h
reason g ds chains p rule.HashLength h = inl h
reason g ds chains p rule.NotCovered h = inl h
reason g ds chains p (rule.Token r) h = inl h
reason g ds chains p rule.Order h = inl h
reason g ds chains p rule.Weak h = inr (inl h)
reason g ds chains p rule.Lapsed h = inr (inl h)
reason g ds chains p rule.Others h = inr (inr h)

-- the same place, and the same rule up to its fault
abbrev Same : (p q : Place) (a b : StampRule) → Type 0
Same p q a b = (p ≡ q) × (stamp_alone a ≡ stamp_alone b)

module _ (one_root : RootsAreUnique) (g : Grounds) (ds : List (List ℕ)) (chains : Chains) where
  -- of two places at which something fails first, that passes at those before each, neither is before the other
  same_first : (Passes : Place → Type 0) (Fails : Place → StampRule → Type 0)
      → ((p : Place) → Passes p → (failed : StampRule) → Fails p failed → ⊥) → (p q : Place) (a b : StampRule)
      → IsIn chains p → IsIn chains q → ((r : Place) → IsIn chains r → IsBefore r p → Passes r)
      → ((r : Place) → IsIn chains r → IsBefore r q → Passes r) → Fails p a → Fails q b → p ≡ q
  same_first Passes Fails never p q a b in-p in-q before-p before-q fails-p fails-q =
      elim (places_ordered chains p q in-p in-q) [
        | inl lt ↦ absurd (never p (before-q p in-p lt) a fails-p)
        | inr (inl same) ↦ same
        | inr (inr lt) ↦ absurd (never q (before-p q in-q lt) b fails-q)
      ]

  fits_if_stands : (p : Place) → Stands g ds p → Fits g ds p
  fits_if_stands p st = (st.alg, st.moment, st.fits)

  both_unfit : (p q : Place) (a b : StampRule) → FirstUnfit g ds chains p a → FirstUnfit g ds chains q b
      → Same p q a b
  both_unfit p q a b h k =
      let same = same_first (Fits g ds) (FailsToFit g ds) (never_unfit one_root g ds) p q a b h.is_in k.is_in
      h.before k.before h.fails k.fails in
      (same, one_unfit one_root g ds q a b (subst (λ (x : Place). FailsToFit g ds x a) same h.fails) k.fails)

  both_lapsed : (p q : Place) (a b : StampRule) → FirstLapsed g ds chains p a → FirstLapsed g ds chains q b
      → Same p q a b
  both_lapsed p q a b h k =
      let same = same_first (Stands g ds) (FailsToLast g ds) (never_ended g ds) p q a b h.is_in k.is_in h.before
      k.before h.fails k.fails in (
        same,
        ap stamp_alone (one_end g ds q a b (subst (λ (x : Place). FailsToLast g ds x a) same h.fails) k.fails),
      )

  both_others : (p q : Place) (a b : StampRule) → HasOthers g ds chains p a → HasOthers g ds chains q b
      → Same p q a b
  both_others p q a b h k = (
    same_place chains p q h.is_in k.is_in
        (ap (λ (l : Chains). length l + 1) (h.first_chain ∙ sym k.first_chain))
        (ap (λ (l : List StampValue). length l + 1) (h.first_stamp ∙ sym k.first_stamp)),
    ap stamp_alone (h.is ∙ sym k.is),
  )

  fit_all : (p : Place) (a : StampRule) → FirstUnfit g ds chains p a
      → ((q : Place) → IsIn chains q → Fits g ds q) → ⊥
  fit_all p a h fit = never_unfit one_root g ds p (fit p h.is_in) a h.fails

  stand_all : (p : Place) (a : StampRule) → FirstLapsed g ds chains p a
      → ((q : Place) → IsIn chains q → Stands g ds q) → ⊥
  stand_all p a h stand = never_ended g ds p (stand p h.is_in) a h.fails

  one_reason : (p q : Place) (a b : StampRule) → Reason g ds chains p a → Reason g ds chains q b → Same p q a b
  one_reason p q a b (inl h) (inl k) = both_unfit p q a b h k
  one_reason p q a b (inl h) (inr (inl k)) = absurd (fit_all p a h k.all_fit)
  one_reason p q a b (inl h) (inr (inr k)) =
      absurd (fit_all p a h (λ r there. fits_if_stands r (k.all_stand r there)))
  one_reason p q a b (inr (inl h)) (inl k) = absurd (fit_all q b k h.all_fit)
  one_reason p q a b (inr (inl h)) (inr (inl k)) = both_lapsed p q a b h k
  one_reason p q a b (inr (inl h)) (inr (inr k)) = absurd (stand_all p a h k.all_stand)
  one_reason p q a b (inr (inr h)) (inl k) =
      absurd (fit_all q b k (λ r there. fits_if_stands r (h.all_stand r there)))
  one_reason p q a b (inr (inr h)) (inr (inl k)) = absurd (stand_all q b k h.all_stand)
  one_reason p q a b (inr (inr h)) (inr (inr k)) = both_others p q a b h k

  one_stamp : (p q : Place) (a b : StampRule) → StampFails g ds chains p a → StampFails g ds chains q b
      → Same p q a b
  one_stamp p q a b h k = one_reason p q a b (reason g ds chains p a h) (reason g ds chains q b k)

-- ---- one record

not_open : (o : Option EncryptionValue) → o ≡ None → IsSome o → ⊥
not_open None e h = absurd cc
not_open (Some x) e h = absurd cc

-- what encodes a record isn't malformed, and isn't both open and encrypted
well_formed : (octets : List ℕ) (v : EvidenceValue) (fault : Fault) → EncodesEvidence octets v
    → Faults (file evidence_record) octets fault
    → ⊥
well_formed octets v fault encodes h =
    refuted (file evidence_record) octets fault evidence_record_clear (evidence_encodes octets v encodes) h

open_closed : (octets : List ℕ) (v w : EvidenceValue) → EncodesEvidence octets v → v.encryption ≡ None
    → EncodesEvidence octets w → IsSome w.encryption → ⊥
open_closed octets v w encodes open_data encodes' closed = not_open v.encryption open_data
    (subst (λ (x : EvidenceValue). IsSome x.encryption) (evidence_unique octets w v encodes' encodes) closed)

one_record : (octets : List ℕ) (ds : List (List ℕ)) (a b : RecordRule) → RecordFails octets ds a
    → RecordFails octets ds b → record_alone a ≡ record_alone b
one_record octets ds (record_rule.Malformed f) (record_rule.Malformed f') h k = refl
one_record octets ds (record_rule.Malformed f) record_rule.Encrypted h k =
    absurd (well_formed octets k.record_value f k.encodes h)
one_record octets ds (record_rule.Malformed f) record_rule.NoData h k =
    absurd (well_formed octets k.record_value f k.encodes h)
one_record octets ds record_rule.Encrypted (record_rule.Malformed f) h k =
    absurd (well_formed octets h.record_value f h.encodes k)
one_record octets ds record_rule.Encrypted record_rule.Encrypted h k = refl
one_record octets ds record_rule.Encrypted record_rule.NoData h k =
    absurd (open_closed octets k.record_value h.record_value k.encodes k.open_data h.encodes h.encrypted)
one_record octets ds record_rule.NoData (record_rule.Malformed f) h k =
    absurd (well_formed octets h.record_value f h.encodes k)
one_record octets ds record_rule.NoData record_rule.Encrypted h k =
    absurd (open_closed octets h.record_value k.record_value h.encodes h.open_data k.encodes k.encrypted)
one_record octets ds record_rule.NoData record_rule.NoData h k = refl

-- a record whose time-stamp is the reason fails none of V1 to V3
no_record : (g : Grounds) (octets : List ℕ) (ds : List (List ℕ)) (chain stamp : ℕ) (failed : StampRule)
    (a : RecordRule) → RefusedAt g octets ds chain stamp failed → RecordFails octets ds a → ⊥
no_record g octets ds chain stamp failed (record_rule.Malformed f) h k =
    well_formed octets h.record_value f h.encodes k
no_record g octets ds chain stamp failed record_rule.Encrypted h k =
    open_closed octets h.record_value k.record_value h.encodes h.open_data k.encodes k.encrypted
no_record g octets ds chain stamp failed record_rule.NoData h k = h.some_data k.no_data

module _ (one_root : RootsAreUnique) (g : Grounds) (octets : List ℕ) (ds : List (List ℕ))
    (chain stamp chain' stamp' : ℕ) (a b : StampRule) (h : RefusedAt g octets ds chain stamp a)
    (k : RefusedAt g octets ds chain' stamp' b) where
  same_stamp : (h.place ≡ k.place) × (stamp_alone a ≡ stamp_alone b)
  same_stamp = one_stamp one_root g ds k.record_value.chains h.place k.place a b
      (subst (λ (v : EvidenceValue). StampFails g ds v.chains h.place a)
      (evidence_unique octets h.record_value k.record_value h.encodes k.encodes) h.fails) k.fails

  chains_same : chain ≡ chain'
  chains_same = h.is_chain ∙ ap chain_number same_stamp.0 ∙ sym k.is_chain

  stamps_same : stamp ≡ stamp'
  stamps_same = h.is_stamp ∙ ap stamp_number same_stamp.0 ∙ sym k.is_stamp

  one_refusal_at : evidence_alone (refused.Stamp chain stamp a) ≡ evidence_alone (refused.Stamp chain' stamp' b)
  one_refusal_at = λ i. refused.Stamp (chains_same i) (stamps_same i) (same_stamp.1 i)

pub records_have_one_refusal : RootsAreUnique → RecordsHaveOneRefusal
records_have_one_refusal one_root g octets ds (refused.Record a) (refused.Record b) h k =
    ap (λ (r : RecordRule). refused.Record r) (one_record octets ds a b h k)
records_have_one_refusal one_root g octets ds (refused.Record a) (refused.Stamp chain stamp b) h k =
    absurd (no_record g octets ds chain stamp b a k h)
records_have_one_refusal one_root g octets ds (refused.Record a) (refused.Device fault) h k = absurd k
records_have_one_refusal one_root g octets ds (refused.Stamp chain stamp a) (refused.Record b) h k =
    absurd (no_record g octets ds chain stamp a b h k)
records_have_one_refusal one_root g octets ds (refused.Stamp chain stamp a) (refused.Stamp chain' stamp' b) h k =
    one_refusal_at one_root g octets ds chain stamp chain' stamp' a b h k
records_have_one_refusal one_root g octets ds (refused.Stamp chain stamp a) (refused.Device fault) h k = absurd k
records_have_one_refusal one_root g octets ds (refused.Device fault) b h k = absurd h

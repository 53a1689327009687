-- Each record shows a moment or is refused.
use Rattle.std.proofs.Common.{◌≡◌, ◌≢◌, ℕ, Bool, true, false, List, [], ◌∷◌, Option, Some, None, Result, Ok, Err}
use Rattle.std.proofs.Common.{refl, sym, ap, ◌∙◌, subst, inl, inr, ◌⊎◌, map, is_some}
use Rattle.std.specs.List.{AllByRecursion}
use Rattle.der_core.specs.declared.fault.Fault.{Fault}
use Rattle.der_core.specs.Element.{IsBytes}
use Rattle.digests.specs.declared.algorithm.Alg.{Alg}
use Rattle.evidence_types.specs.StampValue.{StampValue}
use Rattle.evidence_types.specs.EvidenceValue.{EncryptionValue, EvidenceValue, EncodesEvidence, GoodChain}
use Rattle.evidence_types.specs.EvidenceReading.{evidence_at}
use Rattle.evidence_types.proofs.EvidenceReaders.{evidence_takes, evidence_fault}
use Rattle.check_names.proofs.Deciding.{Decided, in_words}
use Rattle.check_evidence.specs.declared.rules.RecordRule.TheVariants as record_rule
use Rattle.check_evidence.specs.declared.rules.StampRule.{StampRule}
use Rattle.check_evidence.specs.declared.rules.StampRule.TheVariants as rule
use Rattle.check_evidence.specs.declared.rules.EvidenceRefused.{EvidenceRefused}
use Rattle.check_evidence.specs.declared.rules.EvidenceRefused.TheVariants as refused
use Rattle.check_evidence.specs.Grounds.{Grounds}
use Rattle.check_evidence.specs.Roots.{HasNoOthers}
use Rattle.check_evidence.specs.Places.{Place, IsIn, chain_number, stamp_number, first_of, stamps_of}
use Rattle.check_evidence.specs.Covering.{covered_of}
use Rattle.check_evidence.specs.Standing.{Stands}
use Rattle.check_evidence.specs.Showing.{IsWhole, Shows}
use Rattle.check_evidence.specs.Failing.{FailsToFit, FailsToLast}
use Rattle.check_evidence.specs.Refusing.{Fits, StampFails, Refuses}
use Rattle.evidence_laws.specs.Laws.{RecordsAreJudged}
use Rattle.evidence_laws.proofs.Octets.{StampOctets, chains_octets}
use Rattle.check_evidence.proofs.States.{one_alg}
use Rattle.evidence_laws.proofs.Places.{FirstFails, all_or_first}
use Rattle.evidence_laws.proofs.Beside.{Known, known, of_each}
use Rattle.evidence_laws.proofs.Stated.{has_alg}
use Rattle.evidence_laws.proofs.Lists.{no_others, not_empty}
use Rattle.evidence_laws.proofs.Fitting.{fits_or_fails}
use Rattle.evidence_laws.proofs.Lasting.{StatesTime, stands_or_fails, fits_at}

abbrev Chains : Type 0
Chains = List (List StampValue)

-- ---- W8

whole : (ds : List (List ℕ)) (s : StampValue) → StampOctets s → Decided (IsWhole ds s)
whole ds s octets = elim (has_alg s octets) [
  | inr none ↦ inr (λ h. none (h.alg, h.its))
  | inl alg ↦ in_words (λ h. record { alg = alg.0; its = alg.1; no_others = h })
      (λ h. subst (λ (a : Alg). HasNoOthers s.lists (map (covered_of a []) ds))
      (one_alg s h.alg alg.0 h.its alg.1) h.no_others)
      (no_others s.lists (map (covered_of alg.0 []) ds))
]

-- ---- the chains

-- a rule that a stamp fails to fit by is one of W1 to W5, and so on
unfit : (g : Grounds) (ds : List (List ℕ)) (chains : Chains) (failed : StampRule)
    (f : FirstFails chains (Fits g ds) (λ p. FailsToFit g ds p failed)) → StampFails g ds chains f.place failed
unfit g ds chains rule.Algorithm f =
    record { is_in = f.is_in; before = f.before; fails = f.fails }
unfit g ds chains rule.HashLength f =
    record { is_in = f.is_in; before = f.before; fails = f.fails }
unfit g ds chains rule.NotCovered f =
    record { is_in = f.is_in; before = f.before; fails = f.fails }
unfit g ds chains (rule.Token r) f =
    record { is_in = f.is_in; before = f.before; fails = f.fails }
unfit g ds chains rule.Order f =
    record { is_in = f.is_in; before = f.before; fails = f.fails }
unfit g ds chains rule.Weak f = absurd f.fails
unfit g ds chains rule.Lapsed f = absurd f.fails
unfit g ds chains rule.Others f = absurd f.fails

lapsed : (g : Grounds) (ds : List (List ℕ)) (chains : Chains) (failed : StampRule)
    → ((p : Place) → IsIn chains p → Fits g ds p)
    → (f : FirstFails chains (Stands g ds) (λ p. FailsToLast g ds p failed)) → StampFails g ds chains f.place failed
lapsed g ds chains rule.Algorithm fit f = absurd f.fails
lapsed g ds chains rule.HashLength fit f = absurd f.fails
lapsed g ds chains rule.NotCovered fit f = absurd f.fails
lapsed g ds chains (rule.Token r) fit f = absurd f.fails
lapsed g ds chains rule.Order fit f = absurd f.fails
lapsed g ds chains rule.Weak fit f =
    record { is_in = f.is_in; all_fit = fit; before = f.before; fails = f.fails }
lapsed g ds chains rule.Lapsed fit f =
    record { is_in = f.is_in; all_fit = fit; before = f.before; fails = f.fails }
lapsed g ds chains rule.Others fit f = absurd f.fails

-- a first that fails some rule fails a rule
pub one_failing : (chains : Chains) (Passes : Place → Type 0) (Fails : Place → StampRule → Type 0)
    → FirstFails chains Passes (λ p. (failed : StampRule) × Fails p failed)
    → (failed : StampRule) × FirstFails chains Passes (λ p. Fails p failed)
one_failing chains Passes Fails f =
    (f.fails.0, record { place = f.place; is_in = f.is_in; before = f.before; fails = f.fails.1 })

-- the first place
abbrev at_first : StampValue → List StampValue → Chains → Place
at_first first after later =
    record { earlier = []; before = []; stamp = first; after = after; later = later }

abbrev Judged : Grounds → List ℕ → List (List ℕ) → Type 0
Judged g octets ds = ((m : ℕ) × Shows g octets ds m) ⊎ ((r : EvidenceRefused) × Refuses g octets ds r)

module _ (g : Grounds) (octets : List ℕ) (ds : List (List ℕ)) (some : ds ≢ []) (v : EvidenceValue)
    (encodes : EncodesEvidence octets v) (open_data : v.encryption ≡ None)
    (stamps : AllByRecursion (AllByRecursion StampOctets) v.chains) where
  refused_at : (p : Place) (failed : StampRule) → StampFails g ds v.chains p failed → Judged g octets ds
  refused_at p failed h = inr (
    refused.Stamp (chain_number p) (stamp_number p) failed,
    record {
      some_data = some;
      record_value = v;
      encodes = encodes;
      open_data = open_data;
      place = p;
      is_chain = refl;
      is_stamp = refl;
      fails = h;
    },
  )

  octets_at : (p : Place) → IsIn v.chains p → Known StampOctets p
  octets_at p there = known StampOctets v.chains p stamps there

  module _ (fit : (p : Place) → IsIn v.chains p → Fits g ds p)
      (stand : (p : Place) → IsIn v.chains p → Stands g ds p) (first : StampValue) (after : List StampValue)
      (later : Chains) (begins : v.chains ≡ (first ∷ after) ∷ later) where
    shown : (g.whole ≡ true → IsWhole ds first) → Judged g octets ds
    shown is_whole =
        let f = fit (at_first first after later) begins in
        let time = fits_at g ds (at_first first after later) f.0 f.1 f.2 in inl (
          time.0,
          record {
            some_data = some;
            record_value = v;
            encodes = encodes;
            open_data = open_data;
            stands = stand;
            first = first;
            is_first = ap (λ (c : Chains). first_of (stamps_of c)) begins;
            moment = time.1;
            whole = is_whole;
          },
        )

    by_others : (b : Bool) → g.whole ≡ b → Decided (IsWhole ds first) → Judged g octets ds
    by_others false e d = shown (λ t. absurd (let z = sym e ∙ t in cc))
    by_others true e (inl is) = shown (λ t. is)
    by_others true e (inr others) = refused_at (at_first first after later) rule.Others (record {
      is_in = begins;
      first_chain = refl;
      first_stamp = refl;
      all_stand = stand;
      whole = e;
      others = others;
      is = refl;
    })

  -- all stand
  by_first : ((p : Place) → IsIn v.chains p → Fits g ds p) → ((p : Place) → IsIn v.chains p → Stands g ds p)
      → (chains : Chains) → v.chains ≡ chains → chains ≢ [] → AllByRecursion GoodChain chains → Judged g octets ds
  by_first fit stand [] e begin good = absurd (begin refl)
  by_first fit stand ([] ∷ later) e begin good = absurd (good.0.some refl)
  by_first fit stand ((first ∷ after) ∷ later) e begin good =
      by_others fit stand first after later e g.whole refl
      (whole ds first (octets_at (at_first first after later) e).its)

  -- all fit
  by_lasting : ((p : Place) → IsIn v.chains p → Fits g ds p) → Judged g octets ds
  by_lasting fit = go (all_or_first v.chains (Stands g ds) (λ p. (failed : StampRule) × FailsToLast g ds p failed) at)
    where
      times : AllByRecursion (AllByRecursion StatesTime) v.chains
      times = of_each StatesTime v.chains
          (λ p there. let f = fit p there in fits_at g ds p f.0 f.1 f.2)

      at : (p : Place) → IsIn v.chains p → Stands g ds p ⊎ ((failed : StampRule) × FailsToLast g ds p failed)
      at p there =
          let f = fit p there in
          stands_or_fails g ds p (octets_at p there).its (known StatesTime v.chains p times there) f.0 f.1 f.2

      go : ((p : Place) → IsIn v.chains p → Stands g ds p)
          ⊎ FirstFails v.chains (Stands g ds) (λ p. (failed : StampRule) × FailsToLast g ds p failed)
          → Judged g octets ds
      go (inl stand) = by_first fit stand v.chains refl encodes.1.chains.some encodes.1.chains.each
      go (inr fails) = let f = one_failing v.chains (Stands g ds) (FailsToLast g ds) fails in
          refused_at f.1.place f.0 (lapsed g ds v.chains f.0 fit f.1)

  by_fitting : Judged g octets ds
  by_fitting = go (all_or_first v.chains (Fits g ds) (λ p. (failed : StampRule) × FailsToFit g ds p failed)
      (λ p there. fits_or_fails g ds some p (octets_at p there)))
    where
      go : ((p : Place) → IsIn v.chains p → Fits g ds p)
          ⊎ FirstFails v.chains (Fits g ds) (λ p. (failed : StampRule) × FailsToFit g ds p failed)
          → Judged g octets ds
      go (inl fit) = by_lasting fit
      go (inr fails) = let f = one_failing v.chains (Fits g ds) (FailsToFit g ds) fails in
          refused_at f.1.place f.0 (unfit g ds v.chains f.0 f.1)

-- ---- the record

by_record : (g : Grounds) (octets : List ℕ) (ds : List (List ℕ)) → IsBytes octets → (v : EvidenceValue)
    → EncodesEvidence octets v → (o : Option EncryptionValue) → v.encryption ≡ o → Judged g octets ds
by_record g octets ds fits v encodes (Some x) e = inr (
  refused.Record record_rule.Encrypted,
  record { record_value = v; encodes = encodes; encrypted = ap is_some e },
)
by_record g octets [] fits v encodes None e = inr (
  refused.Record record_rule.NoData,
  record { record_value = v; encodes = encodes; open_data = e; no_data = refl },
)
by_record g octets (d ∷ ds) fits v encodes None e =
    by_fitting g octets (d ∷ ds) (not_empty d ds) v encodes e (chains_octets octets v encodes fits)

pub records_are_judged : RecordsAreJudged
records_are_judged g octets ds fits = go (evidence_at octets) refl
  where
    go : (r : Result EvidenceValue Fault) → evidence_at octets ≡ r → Judged g octets ds
    go (Ok v) e = by_record g octets ds fits v (evidence_takes octets v fits e) v.encryption refl
    go (Err f) e = inr (refused.Record (record_rule.Malformed f), evidence_fault octets f fits e)

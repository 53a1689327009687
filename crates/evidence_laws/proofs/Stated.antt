-- What a time-stamp of octets states can be decided: a moment, an algorithm.
use Rattle.std.proofs.Common.{◌≡◌, ℕ, List, Option, Some, None, Result, Ok, Err, refl, sym, ◌∙◌, subst, inl, inr}
use Rattle.std.specs.Prelude.{IfSome}
use Rattle.der_core.specs.declared.fault.Fault.{Fault}
use Rattle.der_core.specs.Element.{IsBytes}
use Rattle.der_core.specs.Values.{AlgorithmValue}
use Rattle.der_time.specs.Moments.{generalized_moment}
use Rattle.digests.specs.Algorithms.{Names}
use Rattle.digests.specs.Named.{alg_named, is_alg}
use Rattle.digests.specs.declared.algorithm.Alg.{Alg}
use Rattle.digests.proofs.Named.{named_is, named_says, alg_says, alg_is}
use Rattle.cms_types.specs.SignedDataValue.{SignedDataValue}
use Rattle.cms_types.specs.declared.fault.CmsFault.{CmsFault}
use Rattle.check_fit.specs.FileFitting.{IsReading}
use Rattle.check_fit.proofs.Readings.{one_value, reads_it, reading_of}
use Rattle.tsp_types.specs.TstValue.{TstValue, EncodesTst, id_tst_info}
use Rattle.evidence_types.specs.StampValue.{StampValue}
use Rattle.check_names.proofs.Deciding.{Decided, in_words, is_true, octets_same}
use Rattle.check_verdict.specs.TokenRules.{IsTstReading}
use Rattle.check_verdict.proofs.Readings.{reads_tst}
use Rattle.check_verdict.proofs.TokensGiven.{looks_at}
use Rattle.check_evidence.specs.Places.{Place, first_beside}
use Rattle.check_evidence.specs.StampStates.{States, HasTime, NamedBy, HasAlg, ShowsAlg}
use Rattle.check_evidence.specs.Standing.{IsAlgOf}
use Rattle.evidence_laws.proofs.Octets.{StampOctets}
use Rattle.check_evidence.proofs.States.{some_is, one_stated, one_alg}
use Rattle.evidence_laws.proofs.Beside.{Known}

none_some : {A : Type 0} (x : A) (o : Option A) → o ≡ None → o ≡ Some x → ⊥
none_some x o e h = let z = sym e ∙ h in cc

-- ---- what octets state

abbrev Stated : List ℕ → Type 0
Stated token = (stated : TstValue) × States token stated

module _ (token : List ℕ) (fits : IsBytes token) (v : SignedDataValue) (reads : IsReading token (Ok v)) where
  its_value : (x : TstValue) (s : States token x) → s.signed ≡ v
  its_value x s = one_value token s.signed v s.encodes reads

  by_content : v.encapsulated.content_type ≡ id_tst_info → (content : List ℕ)
      → v.encapsulated.content ≡ Some content → (r : Result TstValue Fault) → IsTstReading content r
      → Decided (Stated token)
  by_content is_type content present (Ok x) is = inl (
    x,
    record {
      signed = v;
      encodes = reads;
      econtent_type = is_type;
      content = content;
      present = present;
      encodes_stamp = is;
    },
  )
  by_content is_type content present (Err f) is = inr (λ (x, s).
      let same : s.content ≡ content = some_is s.content content v.encapsulated.content
      (subst (λ (w : SignedDataValue). w.encapsulated.content ≡ Some s.content) (its_value x s) s.present) present in
      let z = reads_tst content (Err f) x is (subst (λ (c : List ℕ). EncodesTst c x) same s.encodes_stamp) in
      cc)

  by_value : Decided (Stated token)
  by_value = by_type (octets_same v.encapsulated.content_type id_tst_info)
    where
      by_presence : v.encapsulated.content_type ≡ id_tst_info → (o : Option (List ℕ))
          → v.encapsulated.content ≡ o
          → Decided (Stated token)
      by_presence is_type None e = inr (λ (x, s). none_some s.content v.encapsulated.content e
          (subst (λ (w : SignedDataValue). w.encapsulated.content ≡ Some s.content) (its_value x s) s.present))
      by_presence is_type (Some content) e =
          let l = looks_at token v fits reads in by_content is_type content e l.0 (l.1.is_stamp v content refl e)

      by_type : Decided (v.encapsulated.content_type ≡ id_tst_info) → Decided (Stated token)
      by_type (inl is_type) = by_presence is_type v.encapsulated.content refl
      by_type (inr other) = inr (λ (x, s). other
          (subst (λ (w : SignedDataValue). w.encapsulated.content_type ≡ id_tst_info) (its_value x s)
          s.econtent_type))

stated : (token : List ℕ) → IsBytes token → Decided (Stated token)
stated token fits = let r = reading_of token fits in go r.0 r.1
  where
    go : (r : Result SignedDataValue CmsFault) → IsReading token r → Decided (Stated token)
    go (Ok v) is = by_value token fits v is
    go (Err f) is = inr (λ (x, s). let z = reads_it token (Err f) s.signed is s.encodes in cc)

-- ---- a moment, an algorithm

pub has_time : (s : StampValue) → StampOctets s → Decided ((m : ℕ) × HasTime s m)
has_time s octets = in_words (λ h. (generalized_moment h.0.time, (h.0, h.1, refl))) (λ h. (h.1.0, h.1.1))
    (stated s.stamp octets)

pub shows : (named : Option AlgorithmValue) (s : StampValue) → StampOctets s → Decided (ShowsAlg named s)
shows None s octets = stated s.stamp octets
shows (Some named) s octets = inl tt

names : (a : AlgorithmValue) → Decided ((alg : Alg) × Names a.oid a.parameters alg)
names a = go (alg_named a) refl
  where
    go : (o : Option Alg) → alg_named a ≡ o → Decided ((alg : Alg) × Names a.oid a.parameters alg)
    go (Some alg) e = inl (alg, named_says a alg e)
    go None e = inr (λ h. none_some h.0 (alg_named a) e (named_is a h.0 h.1))

named_by : (named : Option AlgorithmValue) (s : StampValue) → StampOctets s
    → Decided ((alg : Alg) × NamedBy named s alg)
named_by (Some named) s octets = names named
named_by None s octets = elim (stated s.stamp octets) [
  | inr never ↦ inr (λ h. never (h.1.0, h.1.1))
  | inl x ↦ in_words (λ h. (h.0, (x.0, x.1, h.1)))
      (λ h. (
        h.0,
        subst (λ (y : TstValue). Names y.imprint.algorithm.oid y.imprint.algorithm.parameters h.0)
            (one_stated s.stamp h.1.0 x.0 h.1.1 x.1) h.1.2,
      ))
      (names x.0.imprint.algorithm)
]

pub has_alg : (s : StampValue) → StampOctets s → Decided ((alg : Alg) × HasAlg s alg)
has_alg s octets = named_by s.algorithm s octets

pub same_algs : (a b : Alg) → Decided (a ≡ b)
same_algs a b = in_words (alg_says a b) (alg_is a b) (is_true (is_alg a b))

-- the one of a place, which is also that of the first of its chain
pub alg_of_place : (p : Place) → Known StampOctets p → Decided ((alg : Alg) × IsAlgOf p alg)
alg_of_place p octets = go (first_beside p) refl octets.first
  where
    by_first : (f : StampValue) → first_beside p ≡ Some f → (a b : Alg) → HasAlg p.stamp a → HasAlg f b
        → Decided (a ≡ b) → Decided ((alg : Alg) × IsAlgOf p alg)
    by_first f e a b its first (inl same) = inl (
      a,
      record { its = its; first = f; is_first = e; same = subst (λ (x : Alg). HasAlg f x) (sym same) first },
    )
    by_first f e a b its first (inr other) = inr (λ h.
        let is : h.1.first ≡ f = some_is h.1.first f (first_beside p) h.1.is_first e in
        other (one_alg p.stamp a h.0 its h.1.its
        ∙ one_alg f h.0 b (subst (λ (s : StampValue). HasAlg s h.0) is h.1.same) first))

    with_first : (f : StampValue) → first_beside p ≡ Some f → Decided ((a : Alg) × HasAlg p.stamp a)
        → Decided ((b : Alg) × HasAlg f b) → Decided ((alg : Alg) × IsAlgOf p alg)
    with_first f e (inr none) d = inr (λ h. none (h.0, h.1.its))
    with_first f e (inl a) (inr none) = inr (λ h.
        let is : h.1.first ≡ f = some_is h.1.first f (first_beside p) h.1.is_first e in
        none (h.0, subst (λ (s : StampValue). HasAlg s h.0) is h.1.same))
    with_first f e (inl a) (inl b) = by_first f e a.0 b.0 a.1 b.1 (same_algs a.0 b.0)

    go : (o : Option StampValue) → first_beside p ≡ o → IfSome o StampOctets → Decided ((alg : Alg) × IsAlgOf p alg)
    go None e h = inr (λ k. none_some k.1.first (first_beside p) e k.1.is_first)
    go (Some f) e h = with_first f e (has_alg p.stamp octets.its) (has_alg f h)

-- A record shows one moment, and none if it is refused.
use Rattle.std.proofs.Common.{◌≡◌, ℕ, true, List, [], ◌∷◌, ◌++◌, Option, Some, None, IsSome, ap, ◌∙◌, subst}
use Rattle.std.proofs.Common.{inl, inr}
use Rattle.der_core.specs.Grammar.{file}
use Rattle.der_core.proofs.Refuted.{refuted}
use Rattle.digests.specs.declared.algorithm.Alg.{Alg}
use Rattle.evidence_types.specs.EvidenceTable.{evidence_record}
use Rattle.evidence_types.specs.StampValue.{StampValue}
use Rattle.evidence_types.specs.EvidenceValue.{EncryptionValue, EvidenceValue}
use Rattle.evidence_types.proofs.EvidenceReaders.{evidence_encodes, evidence_unique}
use Rattle.evidence_types.proofs.Clearness.{evidence_record_clear}
use Rattle.check_fit.specs.declared.rules.TokenRule.{TokenRule}
use Rattle.check_verdict.specs.Passing.{PassesFor}
use Rattle.check_verdict.proofs.Tokens as token
use Rattle.check_evidence.specs.declared.rules.RecordRule.TheVariants as record_rule
use Rattle.check_evidence.specs.declared.rules.StampRule.{StampRule}
use Rattle.check_evidence.specs.declared.rules.StampRule.TheVariants as rule
use Rattle.check_evidence.specs.declared.rules.EvidenceRefused.TheVariants as refused
use Rattle.check_evidence.specs.Grounds.{Grounds, terms_of, of_root}
use Rattle.check_evidence.specs.Roots.{IsRoot}
use Rattle.check_evidence.specs.Places.{Place, IsIn, first_of, stamps_of}
use Rattle.check_evidence.specs.Covering.{covered_at}
use Rattle.check_evidence.specs.Standing.{IsAlgOf, HasLengths, Covers, IsOrdered, FitsIn, Stands}
use Rattle.check_evidence.specs.StampStates.{HasTime}
use Rattle.check_evidence.specs.Showing.{IsFirst, IsWhole}
use Rattle.check_evidence.specs.Failing.{HasOtherLength, CoversNot, TokenFailsAt, TokenUnread, IsDisordered, IsWeak}
use Rattle.check_evidence.specs.Failing.{IsLapsed, FailsToFit}
use Rattle.check_evidence.specs.Refusing.{StampFails}
use Rattle.check_evidence.specs.Laws.{RecordsShowOneMoment, RecordsNeverBoth}
use Rattle.check_evidence.proofs.Roots.{one_root}
use Rattle.check_evidence.proofs.States.{some_is, one_time, one_alg, shows_alg}
use Rattle.check_evidence.proofs.Uses.{moments_same, end_of, end_of_weak, end_of_lapsed, strong_too, lasting_too}

-- ---- a stamp that fits fails none of W1 to W5

module _ (g : Grounds) (ds : List (List ℕ)) (p : Place) (alg : Alg) (m : ℕ) (f : FitsIn g ds p alg m) where
  alg_is : (b : Alg) → IsAlgOf p b → alg ≡ b
  alg_is b k = one_alg p.stamp alg b f.is_alg.its k.its

  root_is : (b : Alg) (root : List ℕ) → alg ≡ b → IsRoot b p.stamp.lists (covered_at b ds p) root
      → f.imprints.root ≡ root
  root_is b root e h = one_root b p.stamp.lists (covered_at b ds p) f.imprints.root root
      (subst (λ (a : Alg). IsRoot a p.stamp.lists (covered_at a ds p) f.imprints.root) e f.imprints.is_root) h

  passes_by : (b : Alg) (root : List ℕ) → alg ≡ b → f.imprints.root ≡ root
      → PassesFor (terms_of g) p.stamp.stamp (of_root b root) m
  passes_by b root e r = subst (λ (x : List ℕ). PassesFor (terms_of g) p.stamp.stamp (of_root b x) m) r
      (subst (λ (a : Alg). PassesFor (terms_of g) p.stamp.stamp (of_root a f.imprints.root) m) e f.imprints.passes)

  never_length : HasOtherLength p → ⊥
  never_length h =
      h.other (subst (λ (a : Alg). HasLengths p.stamp.lists a) (alg_is h.alg h.is_alg) f.lengths)

  never_uncovered : CoversNot ds p → ⊥
  never_uncovered h = h.not (subst (λ (a : Alg). Covers ds p a) (alg_is h.alg h.is_alg) f.covers)

  never_token : (failed : TokenRule) → TokenFailsAt g ds p failed → ⊥
  never_token failed h =
      let e = alg_is h.alg h.is_alg in
      token.never_both (terms_of g) p.stamp.stamp (of_root h.alg h.root) m failed
      (passes_by h.alg h.root e (root_is h.alg h.root e h.is_root)) h.fails

  never_unread : (failed : TokenRule) → TokenUnread g p failed → ⊥
  never_unread failed h = h.unread (shows_alg p.stamp.algorithm p.stamp alg f.is_alg.its)

  never_disordered : IsDisordered g ds p → ⊥
  never_disordered h =
      h.not (subst (λ (n : ℕ). IsOrdered g p n)
      (moments_same g ds p alg h.alg m h.moment f.imprints h.imprints) f.ordered)

  never_unfit : (failed : StampRule) → FailsToFit g ds p failed → ⊥
  never_unfit rule.Algorithm h = h.none alg f.is_alg
  never_unfit rule.HashLength h = never_length h
  never_unfit rule.NotCovered h = never_uncovered h
  never_unfit (rule.Token failed) (inl h) = never_token failed h
  never_unfit (rule.Token failed) (inr h) = never_unread failed h
  never_unfit rule.Order h = never_disordered h
  never_unfit rule.Weak h = absurd h
  never_unfit rule.Lapsed h = absurd h
  never_unfit rule.Others h = absurd h

-- ---- one that stands fails neither W6 nor W7

never_weak : (g : Grounds) (ds : List (List ℕ)) (p : Place) → Stands g ds p → IsWeak g ds p → ⊥
never_weak g ds p st h = h.not (strong_too g ds p (end_of g ds p st) (end_of_weak g ds p h) st.algs)

never_lapsed : (g : Grounds) (ds : List (List ℕ)) (p : Place) → Stands g ds p → IsLapsed g ds p → ⊥
never_lapsed g ds p st h = h.not (lasting_too g ds p (end_of g ds p st) (end_of_lapsed g ds p h) st.lasts)

-- ---- a record

-- the stamp at the first place is the first
first_is : (chains earlier : List (List StampValue)) (before : List StampValue) (s : StampValue)
    (after : List StampValue) (later : List (List StampValue)) → earlier ≡ [] → before ≡ []
    → chains ≡ earlier ++ (before ++ s ∷ after) ∷ later → IsFirst chains s
first_is chains earlier before s after later e b h =
    ap (λ (c : List (List StampValue)). first_of (stamps_of c)) h
    ∙ (λ i. first_of (stamps_of (e i ++ (b i ++ s ∷ after) ∷ later)))

module _ (g : Grounds) (ds : List (List ℕ)) (chains : List (List StampValue))
    (stands : (p : Place) → IsIn chains p → Stands g ds p) (first : StampValue) (is_first : IsFirst chains first)
    (whole : g.whole ≡ true → IsWhole ds first) where
  fits_there : (p : Place) (failed : StampRule) → IsIn chains p → FailsToFit g ds p failed → ⊥
  fits_there p failed there h =
      let st = stands p there in never_unfit g ds p st.alg st.moment st.fits failed h

  never_stamp : (p : Place) (failed : StampRule) → StampFails g ds chains p failed → ⊥
  never_stamp p rule.Algorithm h = fits_there p rule.Algorithm h.is_in h.fails
  never_stamp p rule.HashLength h = fits_there p rule.HashLength h.is_in h.fails
  never_stamp p rule.NotCovered h = fits_there p rule.NotCovered h.is_in h.fails
  never_stamp p (rule.Token failed) h = fits_there p (rule.Token failed) h.is_in h.fails
  never_stamp p rule.Order h = fits_there p rule.Order h.is_in h.fails
  never_stamp p rule.Weak h = never_weak g ds p (stands p h.is_in) h.fails
  never_stamp p rule.Lapsed h = never_lapsed g ds p (stands p h.is_in) h.fails
  never_stamp p rule.Others h =
      let its = first_is chains p.earlier p.before p.stamp p.after p.later h.first_chain h.first_stamp h.is_in in
      let same : first ≡ p.stamp = some_is first p.stamp (first_of (stamps_of chains)) is_first its in
      h.others (subst (λ (s : StampValue). IsWhole ds s) same (whole h.whole))

not_open : (o : Option EncryptionValue) → o ≡ None → IsSome o → ⊥
not_open None e h = absurd cc
not_open (Some x) e h = absurd cc

pub records_never_both : RecordsNeverBoth
records_never_both g octets ds m (refused.Record (record_rule.Malformed fault)) s r =
    refuted (file evidence_record) octets fault evidence_record_clear
    (evidence_encodes octets s.record_value s.encodes) r
records_never_both g octets ds m (refused.Record record_rule.Encrypted) s r =
    let same = evidence_unique octets r.record_value s.record_value r.encodes s.encodes in
    not_open s.record_value.encryption s.open_data
    (subst (λ (v : EvidenceValue). IsSome v.encryption) same r.encrypted)
records_never_both g octets ds m (refused.Record record_rule.NoData) s r = s.some_data r.no_data
records_never_both g octets ds m (refused.Stamp chain stamp failed) s r =
    let same = evidence_unique octets r.record_value s.record_value r.encodes s.encodes in
    never_stamp g ds s.record_value.chains s.stands s.first s.is_first s.whole r.place failed
    (subst (λ (v : EvidenceValue). StampFails g ds v.chains r.place failed) same r.fails)
records_never_both g octets ds m (refused.Device fault) s r = absurd r

pub records_show_one_moment : RecordsShowOneMoment
records_show_one_moment g octets ds m n s k =
    let same = evidence_unique octets s.record_value k.record_value s.encodes k.encodes in
    let first : s.first ≡ k.first = some_is s.first k.first (first_of (stamps_of k.record_value.chains))
    (subst (λ (v : EvidenceValue). IsFirst v.chains s.first) same s.is_first) k.is_first in
    one_time k.first m n (subst (λ (x : StampValue). HasTime x m) first s.moment) k.moment

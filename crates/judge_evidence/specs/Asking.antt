-- What the verifier is asked while an evidence record is judged (RFC 4998, 5.3).
use Rattle.std.specs.Prelude.{◌≡◌, ◌≢◌, ◌⊎◌, ℕ, List, [], None, Contains}
use Rattle.digests.specs.declared.algorithm.Alg.{Alg}
use Rattle.trust_lists.specs.Asking.{Asked}
use Rattle.trust_lists.specs.Entries.{EntryValue}
use Rattle.evidence_types.specs.StampValue.{StampValue}
use Rattle.evidence_types.specs.EvidenceValue.{EvidenceValue, EncodesEvidence}
use Rattle.check_verdict.specs.Trusted.{asked}
use Rattle.check_verdict.specs.Asks.{IsAskedFor}
use Rattle.check_evidence.specs.Grounds.{Grounds, terms_of, of_root}
use Rattle.check_evidence.specs.Roots.{IsRoot}
use Rattle.check_evidence.specs.Places.{Place, IsIn, IsBefore}
use Rattle.check_evidence.specs.StampStates.{IsUntil}
use Rattle.check_evidence.specs.Covering.{covered_at}
use Rattle.check_evidence.specs.Standing.{IsAlgOf, HasLengths, Covers, FitsIn, AlgsHold, Stands}
use Rattle.check_evidence.specs.Refusing.{Fits}
use Rattle.evidence_stamps.specs.MayLast.{MayLast}

-- whether the token at a place passes: W1 to W3 hold, K1 to K9 hold on the root, and the entry passed K10 to K13
pub record IsAskedToPassAt (g : Grounds) (data_objects : List (List ℕ)) (p : Place) (q : Asked) : Type 0 where
  pub alg : Alg
  pub is_alg : IsAlgOf p alg
  pub lengths : HasLengths p.stamp.lists alg
  pub covers : Covers data_objects p alg
  pub root : List ℕ
  pub is_root : IsRoot alg p.stamp.lists (covered_at alg data_objects p) root
  pub about : IsAskedFor (terms_of g).policy g.trust (of_root alg root) p.stamp.stamp q

-- whether it lasts: it fits, its algorithms hold at the end of its use, and all that needs no question holds of the
-- entry, then too
pub record IsAskedToLastAt (g : Grounds) (data_objects : List (List ℕ)) (p : Place) (q : Asked) : Type 0 where
  pub alg : Alg
  pub moment : ℕ
  pub fits : FitsIn g data_objects p alg moment
  pub until : ℕ
  pub is_until : IsUntil g.at p until
  pub algs : AlgsHold g.ends alg fits.imprints.passes.imprint.alg fits.imprints.passes.fits.alg until
  pub entry : EntryValue
  pub trusted : Contains g.trust entry
  pub may : MayLast fits.imprints.passes.signer fits.imprints.passes.attributes moment until entry
  pub is : q ≡ asked entry.certificate fits.imprints.passes.signer fits.imprints.passes.attributes

-- about the stamp at a place: whether its token passes, if those before it fit; or whether it lasts, if they stand
abbrev pub IsAskedAt : Grounds → (data_objects : List (List ℕ)) → (chains : List (List StampValue)) → Place → Asked
    → Type 0
IsAskedAt g data_objects chains p q =
    (((r : Place) → IsIn chains r → IsBefore r p → Fits g data_objects r) × IsAskedToPassAt g data_objects p q)
    ⊎ (((r : Place) → IsIn chains r → IsBefore r p → Stands g data_objects r) × IsAskedToLastAt g data_objects p q)

-- about a stamp of these chains
pub record IsAskedOfChains (g : Grounds) (data_objects : List (List ℕ)) (chains : List (List StampValue)) (q : Asked)
    : Type 0 where
  pub place : Place
  pub there : IsIn chains place
  pub about : IsAskedAt g data_objects chains place q

-- about a stamp of a record whose data are open, if there are data
pub record IsAskedOfRecord (g : Grounds) (octets : List ℕ) (data_objects : List (List ℕ)) (q : Asked) : Type 0 where
  pub some_data : data_objects ≢ []
  pub record_value : EvidenceValue
  pub encodes : EncodesEvidence octets record_value
  pub open_data : record_value.encryption ≡ None
  pub about : IsAskedOfChains g data_objects record_value.chains q

use Rattle.std.proofs.Common.{◌≡◌, ◌≤◌, ◌-◌, Bool, true, length}
use Rattle.std.specs.Prelude.{Contains}
use Rattle.trust_lists.specs.Asking.{Asked}
use Rattle.trust_lists.specs.Entries.{EntryValue}
use Rattle.trust_lists.specs.Marks.{NoneFrom}
use Rattle.check_verdict.specs.Trusted.{asked}
use Rattle.check_evidence.specs.Grounds.{Grounds}
use Rattle.check_evidence.specs.Standing.{LastsUnder}
use Rattle.evidence_stamps.specs.MayLast.{MayLast}
use Rattle.evidence_stamps.proofs.Entries.{attributes_of}
use Rattle.evidence_stamps.proofs.lasting.lasts_by.Given as goal

-- it lasts under none of the entries so far, and the verifier answered each question
abbrev pub invariant-loop-at : goal.invariant-loop-at
invariant-loop-at g l = record {
  within : l.from ≤ length l.trust;
  none : (h : Grounds) → h.vouches ≡ g.V.Verifier.vouches l.initial.verifier
      → NoneFrom (LastsUnder h l.signer (attributes_of l.signer) l.moment l.until) l.trust 0 l.from;
  only : (test : Asked → Bool) → ((e : EntryValue) → Contains l.trust e
      → MayLast l.signer (attributes_of l.signer) l.moment l.until e
      → test (asked e.certificate l.signer (attributes_of l.signer)) ≡ true)
      → g.V.Verifier.asked_only test l.initial.verifier l.verifier;
  same : g.V.Verifier.vouches l.verifier ≡ g.V.Verifier.vouches l.initial.verifier;
  count : g.V.Verifier.failures l.verifier ≡ g.V.Verifier.failures l.initial.verifier;
}

abbrev pub decreases-loop-at : goal.decreases-loop-at
decreases-loop-at g l = length l.trust - l.from

-- What a record shows is what its chains show.
use Rattle.std.proofs.Common.{◌≡◌, ◌≢◌, ℕ, true, List, [], None, subst}
use Rattle.evidence_types.specs.StampValue.{StampValue}
use Rattle.evidence_types.specs.EvidenceValue.{EvidenceValue, EncodesEvidence}
use Rattle.evidence_types.proofs.EvidenceReaders.{evidence_unique}
use Rattle.check_evidence.specs.Grounds.{Grounds}
use Rattle.check_evidence.specs.Places.{first_of, stamps_of}
use Rattle.check_evidence.specs.Showing.{Shows, IsFirst, IsWhole}
use Rattle.judge_evidence.specs.ShowingChains.{ShowsChains}
use Rattle.judge_evidence.specs.ShowingLaws.{held_at, RecordsShowByChains, RecordsShowBefore}
use Rattle.check_evidence.proofs.States.{some_is}
use Rattle.judge_evidence.proofs.Before.{first_after, chains_show_before}

-- its chains show it, whatever value they are of
pub chains_of_record : (g : Grounds) (octets : List ℕ) (ds : List (List ℕ)) (m : ℕ) (v : EvidenceValue)
    → EncodesEvidence octets v → Shows g octets ds m → ShowsChains g v.chains ds m
chains_of_record g octets ds m v encodes s =
    subst (λ (w : EvidenceValue). ShowsChains g w.chains ds m)
    (evidence_unique octets s.record_value v s.encodes encodes) (record {
      stands = s.stands;
      first = s.first;
      is_first = s.is_first;
      moment = s.moment;
    })

pub record_of_chains : (g : Grounds) (octets : List ℕ) (ds : List (List ℕ)) (m : ℕ) (v : EvidenceValue)
    → ds ≢ [] → EncodesEvidence octets v → v.encryption ≡ None
    → (g.whole ≡ true → (first : StampValue) → IsFirst v.chains first → IsWhole ds first)
    → ShowsChains g v.chains ds m → Shows g octets ds m
record_of_chains g octets ds m v some encodes open_data whole h = record {
  some_data = some;
  record_value = v;
  encodes = encodes;
  open_data = open_data;
  stands = h.stands;
  first = h.first;
  is_first = h.is_first;
  moment = h.moment;
  whole = λ e. whole e h.first h.is_first;
}

pub shown_by_chains : RecordsShowByChains
shown_by_chains g octets ds m v some encodes open_data whole =
    (chains_of_record g octets ds m v encodes, record_of_chains g octets ds m v some encodes open_data whole)

-- of the record that shows it, the first is whole where it must be
whole_first : (g : Grounds) (octets : List ℕ) (ds : List (List ℕ)) (m : ℕ) (v : EvidenceValue) (first : StampValue)
    → EncodesEvidence octets v → Shows g octets ds m → IsFirst v.chains first → g.whole ≡ true → IsWhole ds first
whole_first g octets ds m v first encodes s is e =
    let same = evidence_unique octets s.record_value v s.encodes encodes in
    let its = subst (λ (w : EvidenceValue). IsFirst w.chains s.first) same s.is_first in
    subst (λ (x : StampValue). IsWhole ds x) (some_is s.first first (first_of (stamps_of v.chains)) its is) (s.whole e)

pub shown_before : RecordsShowBefore
shown_before g octets later before after s ds m n encodes open_data encodes_later r time h =
    record_of_chains (held_at n g) octets ds m before h.some_data encodes open_data whole
    (chains_show_before g before.chains after.chains s ds m n r time
    (chains_of_record g later ds m after encodes_later h))
  where
    first_is : (first : StampValue) → IsFirst before.chains first → IsFirst after.chains first
    first_is first is = first_after before.chains after.chains s first r is

    whole : (held_at n g).whole ≡ true → (first : StampValue) → IsFirst before.chains first → IsWhole ds first
    whole e first is = whole_first g later ds m after first encodes_later h (first_is first is) e

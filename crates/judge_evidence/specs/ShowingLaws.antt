-- What holds of what records show.
use Rattle.std.specs.Prelude.{◌≡◌, ◌≢◌, ◌↔◌, ℕ, true, false, List, [], ◌∷◌, Some, None, Contains}
use Rattle.trust_lists.specs.Entries.{EntryValue}
use Rattle.evidence_types.specs.StampValue.{StampValue}
use Rattle.evidence_types.specs.EvidenceValue.{EvidenceValue, EncodesEvidence}
use Rattle.check_evidence.specs.Grounds.{Grounds}
use Rattle.check_evidence.specs.StampStates.{HasTime}
use Rattle.check_evidence.specs.Showing.{Shows, IsFirst, IsWhole}
use Rattle.judge_evidence.specs.ShowingChains.{ShowsChains, IsRenewal}

-- the grounds of a user who trusts these entries
abbrev pub trusting : List EntryValue → Grounds → Grounds
trusting trust g = record {
  trust = trust;
  vouches = g.vouches;
  ends = g.ends;
  at = g.at;
  whole = g.whole;
}

-- those of a check for which the last time-stamp must hold at this moment
abbrev pub held_at : (m : ℕ) → Grounds → Grounds
held_at m g = record {
  trust = g.trust;
  vouches = g.vouches;
  ends = g.ends;
  at = Some m;
  whole = g.whole;
}

-- A record shows what its chains show, if there are data, its data are open, and, where no other hash value may stand
-- in the first list, none does.
abbrev pub RecordsShowByChains : Type 0
RecordsShowByChains = (g : Grounds) (octets : List ℕ) (data_objects : List (List ℕ)) (m : ℕ)
    (record_value : EvidenceValue) → data_objects ≢ [] → EncodesEvidence octets record_value
    → record_value.encryption ≡ None
    → (g.whole ≡ true → (first : StampValue) → IsFirst record_value.chains first → IsWhole data_objects first)
    → Shows g octets data_objects m ↔ ShowsChains g record_value.chains data_objects m

-- What is shown of a group of data is shown of each of them, unless no other hash value may stand beside.
abbrev pub MembersAreShown : Type 0
MembersAreShown = (g : Grounds) (octets : List ℕ) (data_objects : List (List ℕ)) (data_object : List ℕ) (m : ℕ)
    → g.whole ≡ false → Contains data_objects data_object → Shows g octets data_objects m
    → Shows g octets (data_object ∷ []) m

-- A record shows the same to whoever trusts more.
abbrev pub MoreTrustShows : Type 0
MoreTrustShows = (g : Grounds) (trust : List EntryValue) (octets : List ℕ) (data_objects : List (List ℕ)) (m : ℕ)
    → ((e : EntryValue) → Contains g.trust e → Contains trust e) → Shows g octets data_objects m
    → Shows (trusting trust g) octets data_objects m

-- Without their last time-stamp chains show the same at its moment, and so does a record.
abbrev pub ChainsShowBefore : Type 0
ChainsShowBefore = (g : Grounds) (chains renewed : List (List StampValue)) (s : StampValue)
    (data_objects : List (List ℕ)) (m n : ℕ) → IsRenewal chains s renewed → HasTime s n
    → ShowsChains g renewed data_objects m → ShowsChains (held_at n g) chains data_objects m

abbrev pub RecordsShowBefore : Type 0
RecordsShowBefore = (g : Grounds) (octets later : List ℕ) (before after : EvidenceValue) (s : StampValue)
    (data_objects : List (List ℕ)) (m n : ℕ) → EncodesEvidence octets before → before.encryption ≡ None
    → EncodesEvidence later after → IsRenewal before.chains s after.chains → HasTime s n
    → Shows g later data_objects m → Shows (held_at n g) octets data_objects m

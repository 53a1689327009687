-- Lists that are out of order, for which alone memory is asked.
use Rattle.std.proofs.Common.{◌≡◌, ℕ, false, true, List, [], ◌∷◌, ◌++◌, Result, IsOk, IsErr, Ok, Err, All, sym, ap, ◌∙◌}
use Rattle.std.proofs.Common.{subst}
use Rattle.std.specs.Prelude.{unwrap_or}
use Rattle.evidence_types.specs.StampValue.{StampValue}
use Rattle.evidence_types.specs.EvidenceValue.{EvidenceValue, EncodesEvidence}
use Rattle.check_evidence.specs.Roots.{IsAscending}
use Rattle.judge_evidence.specs.Ordering.{IsOutOfOrder, HasOutOfOrder, IsRecordOutOfOrder}
use Rattle.evidence_making.specs.DoneSteps.{AreLastTwo, AreTwo}
use Rattle.evidence_making.proofs.Already.{two_more}

abbrev Chains : Type 0
Chains = List (List StampValue)

-- what failed, and would not have with lists in order
pub not_in_order : {A E : Type 0} (s : StampValue) (r : Result A E) → IsErr r
    → (All IsAscending (unwrap_or s.lists []) → IsOk r) → IsOutOfOrder s
not_in_order s (Ok a) failed works = absurd cc
not_in_order s (Err e) failed works = λ all. absurd (let z : false ≡ true = works all in cc)

-- the last of two of the last chain
pub two_out : (chains : Chains) (first before last : StampValue) → AreLastTwo chains first before last
    → IsOutOfOrder last → HasOutOfOrder chains
two_out chains first before last h out = record {
  place = record {
    earlier = h.front;
    before = h.stamps ++ before ∷ [];
    stamp = last;
    after = [];
    later = [];
  };
  there = h.are ∙ ap (λ (c : List StampValue). h.front ++ c ∷ []) (sym (two_more h.stamps before last));
  its = out;
}

-- the only one of the last chain
pub only_out : (chains : Chains) (before last : List StampValue) (s : StampValue) → AreTwo chains before last
    → last ≡ s ∷ [] → IsOutOfOrder s → HasOutOfOrder chains
only_out chains before last s h is out = record {
  place = record { earlier = h.0 ++ before ∷ []; before = []; stamp = s; after = []; later = [] };
  there = h.1 ∙ (ap (λ (c : List StampValue). h.0 ++ before ∷ c ∷ []) is
      ∙ sym (two_more h.0 before (s ∷ [])));
  its = out;
}

pub record_out : (octets : List ℕ) (v : EvidenceValue) → EncodesEvidence octets v → (chains : Chains)
    → chains ≡ v.chains → HasOutOfOrder chains → IsRecordOutOfOrder octets
record_out octets v encodes chains is out = record {
  record_value = v;
  encodes = encodes;
  a_list = subst (λ (cs : Chains). HasOutOfOrder cs) is out;
}

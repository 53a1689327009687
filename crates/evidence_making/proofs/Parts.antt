-- Where what is kept of a record is.
use Rattle.std.proofs.Common.{◌≡◌, ℕ, ◌-◌, List, [], ◌∷◌, ◌++◌, length, take, sym, ap, ◌∙◌, append_assoc, append-nil}
use Rattle.std.proofs.Common.{arith, length-append}
use Rattle.std.proofs.lemmas.Grind.{flat_map-append}
use Rattle.std.proofs.Math.Seq.{take-append_seam}
use Rattle.der_core.specs.Element.{el}
use Rattle.cms_types.specs.AttributeValue.{optional_attributes}
use Rattle.cms_types.specs.SignedDataValue.{algorithms_parts}
use Rattle.evidence_types.specs.StampValue.{StampValue}
use Rattle.evidence_types.specs.EvidenceValue.{EvidenceValue, evidence_parts, optional_encryption}
use Rattle.evidence_types.specs.EvidenceValue.{chain_parts, chain_element, chains_parts}
use Rattle.judge_evidence.proofs.Ends.{same_end}

abbrev Chains : Type 0
Chains = List (List StampValue)

-- the elements between digestAlgorithms and the chains
abbrev pub others_of : EvidenceValue → List ℕ
others_of v = optional_attributes 0xa0 v.crypto_infos ++ optional_encryption 0xa1 v.encryption

-- all before the chains
abbrev pub front_of : EvidenceValue → List ℕ
front_of v = el 0x02 (1 ∷ []) ++ (el 0x30 (algorithms_parts v.algorithms) ++ others_of v)

pub parts_by_front : (v : EvidenceValue) → evidence_parts v ≡ front_of v ++ el 0x30 (chains_parts v.chains)
parts_by_front v =
    let version : List ℕ = el 0x02 (1 ∷ []) in
    let algorithms : List ℕ = el 0x30 (algorithms_parts v.algorithms) in
    let infos : List ℕ = optional_attributes 0xa0 v.crypto_infos in
    let encryption : List ℕ = optional_encryption 0xa1 v.encryption in
    let chains : List ℕ = el 0x30 (chains_parts v.chains) in
    sym (append_assoc version (algorithms ++ (infos ++ encryption)) chains
    ∙ ap (λ (x : List ℕ). version ++ x) (append_assoc algorithms (infos ++ encryption) chains
    ∙ ap (λ (x : List ℕ). algorithms ++ x) (append_assoc infos encryption chains)))

-- ---- the last chain

-- these are the octets of the chains before the last of those that are past, and of that one's time-stamps
abbrev pub IsEnd : (past : List (List StampValue)) → (before stamps : List ℕ) → Type 0
IsEnd past before stamps = (front : Chains) (last : List StampValue) → past ≡ front ++ last ∷ []
    → (before ≡ chains_parts front) × (stamps ≡ chain_parts last)

-- so many are left
pub record IsPast (chains left : List (List StampValue)) (before stamps : List ℕ) : Type 0 where
  pub past : List (List StampValue)
  pub are : chains ≡ past ++ left
  pub end : IsEnd past before stamps

none_end : (front : Chains) (last : List StampValue) → [] ≡ front ++ last ∷ [] → ⊥
none_end [] last e = absurd cc
none_end (c ∷ front) last e = absurd cc

pub none_past : (chains left : Chains) (before stamps : List ℕ) → chains ≡ left → IsPast chains left before stamps
none_past chains left before stamps e = record {
  past = [];
  are = e;
  end = λ front last h. absurd (none_end front last h);
}

-- what comes before the octets at the end
before_is : (all front back : List ℕ) → all ≡ front ++ back → take (length all - length back) all ≡ front
before_is all front back e =
    let n : length all - length back ≡ length front =
    omega (arith, ap (λ (l : List ℕ). length l) e, length-append front back) in
    ap (λ (m : ℕ). take m all) n ∙ ap (take (length front)) e ∙ take-append_seam front back

pub one_more_past : (chains left others : Chains) (chain : List StampValue) (before stamps all from octets : List ℕ)
    → IsPast chains left before stamps → left ≡ chain ∷ others → all ≡ chains_parts chains → from ≡ chains_parts left
    → octets ≡ chain_parts chain → IsPast chains others (take (length all - length from) all) octets
one_more_past chains left others chain before stamps all from octets h e all-is from-is octets-is =
    let more : chains ≡ h.past ++ chain ∷ others = h.are ∙ ap (λ (l : Chains). h.past ++ l) e in
    let split : all ≡ chains_parts h.past ++ from = all-is ∙ ap (λ (l : Chains). chains_parts l) h.are
    ∙ flat_map-append chain_element h.past left ∙ ap (λ (l : List ℕ). chains_parts h.past ++ l) (sym from-is) in
    let front_is : take (length all - length from) all ≡ chains_parts h.past =
    before_is all (chains_parts h.past) from split in
    record {
      past = h.past ++ chain ∷ [];
      are = more ∙ sym (append_assoc h.past (chain ∷ []) others);
      end = λ front last k. let same = same_end h.past front chain last k in (
        front_is ∙ ap (λ (l : Chains). chains_parts l) same.before,
        octets-is ∙ ap (λ (c : List StampValue). chain_parts c) same.at,
      );
    }

pub all_past : (chains left : Chains) (before stamps : List ℕ) → IsPast chains left before stamps → left ≡ []
    → IsEnd chains before stamps
all_past chains left before stamps h none front last e =
    h.end front last (sym (h.are ∙ ap (λ (l : Chains). h.past ++ l) none ∙ append-nil h.past) ∙ e)

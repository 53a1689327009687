-- Records that are renewed: what is made of them, and what they show.
use Rattle.std.proofs.Common.{◌≡◌, ℕ, ◌<◌, ◌≤◌, ◌^◌, Bool, true, false, not, List, [], ◌∷◌, ◌++◌, length, Option}
use Rattle.std.proofs.Common.{Some, None, Result, Ok, Err, Any, refl, sym, ap, ◌∙◌, subst, ◌⊎◌, inl, inr, append_assoc}
use Rattle.std.proofs.Common.{Vec, Global}
use Rattle.std.specs.Prelude.{IfOk, if◌then◌else◌}
use Rattle.std.specs.List.{AllByRecursion}
use Rattle.std.specs.Vec.{vec_items}
use Rattle.std.proofs.lemmas.List.Folds.{Any-from_list_any, list_any-from_Any}
use Rattle.der_core.specs.Element.{len, el}
use Rattle.der_core.specs.Values.{HasLength, AlgorithmValue}
use Rattle.digests.specs.Algorithms.{Names}
use Rattle.digests.specs.Named.{alg_named}
use Rattle.digests.specs.declared.algorithm.Alg.{Alg}
use Rattle.digests.proofs.Named.{alg_says, alg_itself, named_says, named_is}
use Rattle.evidence_types.specs.StampValue.{StampValue, IsSequence, stamp_element}
use Rattle.evidence_types.specs.EvidenceValue.{EvidenceValue, EncodesEvidence, evidence_parts, chain_parts}
use Rattle.evidence_types.specs.EvidenceValue.{chain_element, chains_parts, GoodEvidence, GoodChain}
use Rattle.evidence_types.proofs.EvidenceReaders.{evidence_unique}
use Rattle.check_evidence.specs.Places.{first_of, stamps_of}
use Rattle.check_evidence.specs.Showing.{IsFirst, IsWhole}
use Rattle.judge_evidence.specs.ShowingChains.{IsRenewal}
use Rattle.judge_evidence.specs.ShowingLaws.{held_at}
use Rattle.check_evidence.proofs.States.{some_is}
use Rattle.judge_evidence.proofs.Before.{first_before}
use Rattle.judge_evidence.proofs.Recorded.{chains_of_record, record_of_chains}
use Rattle.evidence_making.specs.declared.fault.RenewFault.{RenewFault}
use Rattle.evidence_making.specs.declared.fault.RenewFault.TheVariants.{Malformed, TooLong, OutOfMemory}
use Rattle.evidence_making.specs.Made.{group_lists, lists_of, plain, stamp_of, stamp_with}
use Rattle.evidence_making.specs.Frames.{Lists, record_inside}
use Rattle.evidence_making.specs.Renewed.{is_this, is_named, with_stamp, renewed, rehashed}
use Rattle.evidence_making.specs.Renewing.{IsAnswer, IsWritten, StandIn, ChainsStandIn}
use Rattle.evidence_making.specs.RenewalLaws.{NamesAreFound, ShowsStill, RenewedRecordsShow, RehashedRecordsShow}
use Rattle.judge_evidence.proofs.Ends.{HasEnd}
use Rattle.evidence_making.proofs.Ends.{end_of, all_parts}
use Rattle.evidence_making.proofs.Parts.{front_of, parts_by_front}
use Rattle.evidence_making.proofs.Placed.{PlacedValue, all_algorithms, value_of, frame_of, GoodPlaced, IsFilled}
use Rattle.evidence_making.proofs.Placed.{parts_are}
use Rattle.evidence_making.proofs.Placed.{encodes, parts_more}
use Rattle.evidence_making.proofs.Renewals.{chains_show_after}

abbrev Chains : Type 0
Chains = List (List StampValue)

-- ---- names

any_map : {A : Type 0} (P Q : A → Type 0) (xs : List A) → ((x : A) → P x → Q x) → Any P xs → Any Q xs
any_map P Q xs f h = (h.0, h.1, h.2, h.3, f h.1 h.4)

pub this_says : (alg : Alg) (o : Option Alg) → is_this alg o ≡ true → o ≡ Some alg
this_says alg None e = absurd cc
this_says alg (Some other) e = ap Some (alg_says other alg e)

pub names_are_found : NamesAreFound
names_are_found alg algorithms = (
  λ e. any_map (λ a. is_this alg (alg_named a) ≡ true) (λ a. Names a.oid a.parameters alg) algorithms
      (λ a h. named_says a alg (this_says alg (alg_named a) h))
      (Any-from_list_any (λ a. is_this alg (alg_named a)) algorithms e),
  λ h. list_any-from_Any (λ a. is_this alg (alg_named a)) algorithms
      (any_map (λ a. Names a.oid a.parameters alg) (λ a. is_this alg (alg_named a) ≡ true) algorithms
      (λ a n. ap (is_this alg) (named_is a alg n) ∙ alg_itself alg) h),
)

-- ---- the chains

pub with_stamp_end : (s : StampValue) (front : Chains) (last : List StampValue)
    → with_stamp s (front ++ last ∷ []) ≡ front ++ (last ++ s ∷ []) ∷ []
with_stamp_end s [] last = refl
with_stamp_end s (c ∷ []) last = refl
with_stamp_end s (c ∷ d ∷ front) last = ap (λ (l : Chains). c ∷ l) (with_stamp_end s (d ∷ front) last)

-- the last chain of a good record
pub last_of_good : (v : EvidenceValue) → GoodEvidence v → HasEnd v.chains
last_of_good v good = end_of v.chains good.chains.some

pub good_chains : (v : EvidenceValue) (front : Chains) (last : List StampValue) → GoodEvidence v
    → v.chains ≡ front ++ last ∷ [] → AllByRecursion GoodChain front × GoodChain last
good_chains v front last good e =
    all_parts GoodChain front last (subst (λ (l : Chains). AllByRecursion GoodChain l) e good.chains.each)

is_renewal : (v : EvidenceValue) (s : StampValue) (now : Chains) → GoodEvidence v
    → ((front : Chains) (last : List StampValue) → v.chains ≡ front ++ last ∷ []
    → (now ≡ front ++ (last ++ s ∷ []) ∷ []) ⊎ (now ≡ v.chains ++ (s ∷ []) ∷ [])) → IsRenewal v.chains s now
is_renewal v s now good more =
    let h = last_of_good v good in
    record {
      front = h.front;
      last = h.end;
      some = (good_chains v h.front h.end good h.is).1.some;
      is = h.is;
      more = more h.front h.end h.is;
    }

is_renewed : (v : EvidenceValue) (s : StampValue) → GoodEvidence v → IsRenewal v.chains s (with_stamp s v.chains)
is_renewed v s good = is_renewal v s (with_stamp s v.chains) good
    (λ front last e. inl (ap (with_stamp s) e ∙ with_stamp_end s front last))

is_rehashed : (v : EvidenceValue) (s : StampValue) → GoodEvidence v → IsRenewal v.chains s (v.chains ++ (s ∷ []) ∷ [])
is_rehashed v s good = is_renewal v s (v.chains ++ (s ∷ []) ∷ []) good (λ front last e. inr refl)

-- ---- what it shows

shows_still : (octets later : List ℕ) (v w : EvidenceValue) (s : StampValue) → EncodesEvidence octets v
    → EncodesEvidence later w → w.encryption ≡ v.encryption → IsRenewal v.chains s w.chains
    → ShowsStill octets s w.chains later
shows_still octets later v w s old new same r g ds m n time stands h =
    record_of_chains g later ds m w h.some_data new (same ∙ open_data) whole
    (chains_show_after g v.chains w.chains s ds m n r time stands
    (chains_of_record (held_at n g) octets ds m v old h))
  where
    is_v : h.record_value ≡ v
    is_v = evidence_unique octets h.record_value v h.encodes old

    open_data : v.encryption ≡ None
    open_data = subst (λ (x : EvidenceValue). x.encryption ≡ None) is_v h.open_data

    whole : g.whole ≡ true → (first : StampValue) → IsFirst w.chains first → IsWhole ds first
    whole e first is =
        let its = first_before v.chains w.chains s first r is in
        let was = subst (λ (x : EvidenceValue). IsFirst x.chains h.first) is_v h.is_first in
        subst (λ (x : StampValue). IsWhole ds x) (some_is h.first first (first_of (stamps_of v.chains)) was its)
        (h.whole e)

pub renewed_show : RenewedRecordsShow
renewed_show octets later v alg values token old new =
    let s = stamp_of alg values token in
    shows_still octets later v (renewed v alg values token) s old new refl (is_renewed v s old.1)

pub rehashed_show : RehashedRecordsShow
rehashed_show octets later v alg group values token old new =
    let s = stamp_with alg (group_lists group values) token in
    shows_still octets later v (rehashed v alg group values token) s old new refl (is_rehashed v s old.1)

-- ---- what is made

algorithms_are : (alg : Alg) (b : Bool) (xs : List AlgorithmValue)
    → all_algorithms alg (not b) xs ≡ (if b then xs else (xs ++ plain alg ∷ []))
algorithms_are alg true xs = refl
algorithms_are alg false xs = refl

-- the record with a token behind these chains and time-stamps
abbrev pub placed : Alg → EvidenceValue → (earlier : List (List StampValue)) → (before : List StampValue) → PlacedValue
placed alg v earlier before = record {
  algorithms = v.algorithms;
  adds = not (is_named alg v.algorithms);
  crypto_infos = v.crypto_infos;
  encryption = v.encryption;
  earlier = earlier;
  before = before;
}

pub value_renewed : (v : EvidenceValue) (alg : Alg) (values : List (List ℕ)) (token : List ℕ) (front : Chains)
    (last : List StampValue) → v.chains ≡ front ++ last ∷ []
    → value_of alg (placed alg v front last) (lists_of values) token ≡ renewed v alg values token
value_renewed v alg values token front last e =
    let s = stamp_of alg values token in
    let algorithms = algorithms_are alg (is_named alg v.algorithms) v.algorithms in
    let chains : front ++ (last ++ s ∷ []) ∷ [] ≡ with_stamp s v.chains =
    sym (ap (with_stamp s) e ∙ with_stamp_end s front last) in
    λ i. record {
      algorithms = algorithms i;
      crypto_infos = v.crypto_infos;
      encryption = v.encryption;
      chains = chains i;
    }

pub value_rehashed : (v : EvidenceValue) (alg : Alg) (group values : List (List ℕ)) (token : List ℕ)
    → value_of alg (placed alg v v.chains []) (group_lists group values) token ≡ rehashed v alg group values token
value_rehashed v alg group values token =
    let algorithms = algorithms_are alg (is_named alg v.algorithms) v.algorithms in
    λ i. record {
      algorithms = algorithms i;
      crypto_infos = v.crypto_infos;
      encryption = v.encryption;
      chains = v.chains ++ (stamp_with alg (group_lists group values) token ∷ []) ∷ [];
    }

pub good_renewed : (v : EvidenceValue) (alg : Alg) (front : Chains) (last : List StampValue) → GoodEvidence v
    → v.chains ≡ front ++ last ∷ [] → GoodPlaced (placed alg v front last)
good_renewed v alg front last good e =
    let k = good_chains v front last good e in
    record {
      algorithms = good.algorithms;
      crypto_infos = good.crypto_infos;
      encryption = good.encryption;
      earlier = k.0;
      before = k.1.each;
    }

pub good_rehashed : (v : EvidenceValue) (alg : Alg) → GoodEvidence v → GoodPlaced (placed alg v v.chains [])
good_rehashed v alg good = record {
  algorithms = good.algorithms;
  crypto_infos = good.crypto_infos;
  encryption = good.encryption;
  earlier = good.chains.each;
  before = tt;
}

module _ {A : Type 0} (renew : EvidenceValue → EvidenceValue) (octets : List ℕ) (octets_of : A → List ℕ)
    (v : EvidenceValue) (old : EncodesEvidence octets v) (alg : Alg) (p : PlacedValue) (lists : Lists)
    (token inside : List ℕ) (good : GoodPlaced p) (sequence : IsSequence token) (filled : IsFilled lists)
    (same : value_of alg p lists token ≡ renew v) (e : inside ≡ record_inside (frame_of alg p) lists token) where
  parts : inside ≡ evidence_parts (renew v)
  parts = e ∙ sym (parts_are alg p lists token) ∙ ap (λ (w : EvidenceValue). evidence_parts w) same

  pub written : (r : Result A RenewFault) → IsWritten inside octets_of r → IsAnswer renew octets octets_of r
  written (Ok made) w = (
    v,
    old,
    subst (λ (x : EvidenceValue). EncodesEvidence (octets_of made) x) same
        (encodes alg p lists token (octets_of made) good sequence filled (w.0 ∙ ap (λ (b : List ℕ). el 0x30 b) e)
        (subst HasLength e w.1)),
  )
  written (Err (Malformed fault)) w = absurd w
  written (Err TooLong) w = (v, old, subst (λ (b : List ℕ). 2 ^ 32 ≤ length b) parts w)
  written (Err OutOfMemory) w = (v, old, subst (λ (b : List ℕ). length b < 2 ^ 32) parts w)

-- what holds of each record that was renewed holds of the one that was made
pub of_answer : {A : Type 0} (renew : EvidenceValue → EvidenceValue) (octets : List ℕ) (octets_of : A → List ℕ)
    (P : A → EvidenceValue → Type 0) → ((made : A) (v : EvidenceValue) → EncodesEvidence octets v
    → EncodesEvidence (octets_of made) (renew v) → P made v) → (r : Result A RenewFault)
    → IsAnswer renew octets octets_of r → IfOk r (λ made. (v : EvidenceValue) → EncodesEvidence octets v → P made v)
of_answer renew octets octets_of P f (Ok made) a = λ v h.
    let same = evidence_unique octets a.0 v a.1 h in
    f made v h (subst (λ (x : EvidenceValue). EncodesEvidence (octets_of made) (renew x)) same a.2)
of_answer renew octets octets_of P f (Err fault) a = tt

abbrev pub Octets : Type 0
Octets = Vec ℕ Global

-- so does that it still shows what the old record showed
pub answer_shows : (renew : EvidenceValue → EvidenceValue) (octets : List ℕ) (s : StampValue)
    → ((later : List ℕ) (v : EvidenceValue) → EncodesEvidence octets v → EncodesEvidence later (renew v)
    → ShowsStill octets s (renew v).chains later) → (r : Result Octets RenewFault)
    → IsAnswer renew octets (λ (w : Octets). vec_items w) r
    → IfOk r (λ made. (v : EvidenceValue) → EncodesEvidence octets v
    → ShowsStill octets s (renew v).chains (vec_items made))
answer_shows renew octets s shows = of_answer renew octets (λ (w : Octets). vec_items w)
    (λ (made : Octets) v. ShowsStill octets s (renew v).chains (vec_items made))
    (λ (made : Octets) v. shows (vec_items made) v)

-- ---- what stands in it

abbrev begin : ℕ → List ℕ → List ℕ
begin t b = t ∷ len (length b)

-- what stands behind the front of the chains
behind : (octets : List ℕ) (w : EvidenceValue) (rest : List ℕ) → EncodesEvidence octets w
    → chains_parts w.chains ≡ rest
    → octets ≡ (begin 0x30 (evidence_parts w) ++ (front_of w ++ begin 0x30 (chains_parts w.chains))) ++ rest
behind octets w rest new e =
    let outer : List ℕ = begin 0x30 (evidence_parts w) in
    let inner : List ℕ = begin 0x30 (chains_parts w.chains) in
    new.0 ∙ ap (λ (b : List ℕ). outer ++ b) (parts_by_front w)
    ∙ ap (λ (b : List ℕ). outer ++ (front_of w ++ (inner ++ b))) e
    ∙ ap (λ (b : List ℕ). outer ++ b) (sym (append_assoc (front_of w) inner rest))
    ∙ sym (append_assoc outer (front_of w ++ inner) rest)

pub renewed_stand : (octets : List ℕ) (v : EvidenceValue) (alg : Alg) (values : List (List ℕ)) (token : List ℕ)
    → EncodesEvidence octets (renewed v alg values token) → ChainsStandIn v.chains octets
renewed_stand octets v alg values token new front last e =
    let w = renewed v alg values token in
    let s = stamp_of alg values token in
    let chain : List ℕ = chain_parts (last ++ s ∷ []) in
    let chains : chains_parts w.chains
    ≡ chains_parts front ++ (begin 0x30 chain ++ (chain_parts last ++ stamp_element s))
    = ap (λ (l : Chains). chains_parts l) (ap (with_stamp s) e ∙ with_stamp_end s front last)
    ∙ parts_more chain_element front (last ++ s ∷ [])
    ∙ ap (λ (b : List ℕ). chains_parts front ++ (begin 0x30 chain ++ b)) (parts_more stamp_element last s) in (
      begin 0x30 (evidence_parts w) ++ (front_of w ++ begin 0x30 (chains_parts w.chains)),
      begin 0x30 chain,
      stamp_element s,
      behind octets w _ new chains,
    )

pub rehashed_stand : (octets : List ℕ) (v : EvidenceValue) (alg : Alg) (group values : List (List ℕ)) (token : List ℕ)
    → EncodesEvidence octets (rehashed v alg group values token) → StandIn (chains_parts v.chains) octets
rehashed_stand octets v alg group values token new =
    let w = rehashed v alg group values token in
    let s = stamp_with alg (group_lists group values) token in (
      begin 0x30 (evidence_parts w) ++ (front_of w ++ begin 0x30 (chains_parts w.chains)),
      chain_element (s ∷ []),
      behind octets w _ new (parts_more chain_element v.chains (s ∷ [])),
    )

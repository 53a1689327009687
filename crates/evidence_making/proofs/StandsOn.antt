-- What a renewal stands on: that it is one thing, and what the new time-stamp must cover.
use Rattle.std.proofs.Common.{◌≡◌, ◌≢◌, ◌↔◌, ℕ, List, [], ◌∷◌, ◌++◌, Option, Some, None, IsSome, refl, sym, ap}
use Rattle.std.proofs.Common.{◌∙◌, subst, inl, inr, append_assoc, append-nil, Result, Ok, Err, IfSome, MatchOption}
use Rattle.std.specs.List.{last_or, AllByRecursion}
use Rattle.std.proofs.lemmas.Grind.{flat_map-append}
use Rattle.der_core.specs.declared.fault.Fault.{Fault}
use Rattle.der_core.specs.Element.{el}
use Rattle.der_core.specs.Faults.{Faults}
use Rattle.der_core.specs.Grammar.{file}
use Rattle.der_core.specs.Values.{HasLength}
use Rattle.der_core.proofs.Refuted.{refuted}
use Rattle.der_time.specs.Moments.{generalized_moment}
use Rattle.digests.specs.Digests.{alg_of, octets_of}
use Rattle.digests.specs.Messages.{digest_of}
use Rattle.digests.specs.declared.algorithm.Alg.{Alg}
use Rattle.digests.specs.declared.value.Digest.{Digest}
use Rattle.evidence_types.specs.StampValue.{StampValue}
use Rattle.evidence_types.specs.EvidenceValue.{EncryptionValue, EvidenceValue, EncodesEvidence, GoodChain, chains_parts}
use Rattle.evidence_types.specs.EvidenceTable.{evidence_record}
use Rattle.evidence_types.proofs.Clearness.{evidence_record_clear}
use Rattle.evidence_types.proofs.EvidenceReaders.{evidence_encodes, evidence_unique}
use Rattle.check_evidence.specs.Places.{Place, IsIn, chain_of, first_of, last_of, stamps_of, first_beside}
use Rattle.check_evidence.specs.StampStates.{States, HasTime, HasAlg}
use Rattle.check_evidence.specs.Covering.{covered_of, covered_at, covered_after}
use Rattle.evidence_stamps.specs.PlaceValues.{IsChainAlg}
use Rattle.evidence_stamps.specs.StateValue.{StateValue, IsState, IsStateOf}
use Rattle.check_evidence.proofs.States.{some_is}
use Rattle.judge_evidence.specs.Going.{IsLastPlace}
use Rattle.judge_evidence.proofs.Neighbours.{last_is}
use Rattle.evidence_trees.specs.HashTrees.{AreListsOf}
use Rattle.evidence_making.specs.declared.fault.LeafFault.{LeafFault}
use Rattle.evidence_making.specs.declared.fault.LeafFault.TheVariants.{Malformed, NoStamp, OutOfMemory, Unnamed}
use Rattle.evidence_making.specs.declared.leaves.LastStamp.{LastStamp}
use Rattle.evidence_making.specs.Made.{stamp_of}
use Rattle.evidence_making.specs.Renewed.{with_stamp}
use Rattle.evidence_making.specs.Leaves.{IsLastOf, IsRehashOf, EndsWithoutTime, EndsWithoutAlg, OfOpen, HasNoMoment}
use Rattle.evidence_making.specs.Leaves.{HasNoStamp, IsDueInChain, StandsInChain}
use Rattle.evidence_making.specs.Leaves.{IsLastStamp}
use Rattle.evidence_making.specs.LeafSteps.{AreEndsOf, IsNewLeafOf, IsOpened, EndWithoutEither}
use Rattle.judge_evidence.proofs.Ends.{HasEnd}
use Rattle.evidence_making.proofs.Ends.{end_of, all_parts}
use Rattle.evidence_making.proofs.Made.{last_place}
use Rattle.evidence_making.proofs.Renewed.{with_stamp_end}
use Rattle.evidence_making.proofs.Standing.{at_the_end, renewed_stamps_stand}

abbrev Stamps : Type 0
Stamps = List StampValue

abbrev Chains : Type 0
Chains = List (List StampValue)

-- ---- the last

pub last_end : {A : Type 0} (o : Option A) (front : List A) (x : A) → last_or o (front ++ x ∷ []) ≡ Some x
last_end o [] x = refl
last_end o (y ∷ front) x = last_end (Some y) front x

-- a last element that is found is at the end
pub found_end : {A : Type 0} (xs : List A) (x : A) (h : HasEnd xs) → last_or None xs ≡ Some x → x ≡ h.end
found_end {A} xs x h e =
    some_is x h.end (last_or None xs) e (ap (λ (l : List A). last_or None l) h.is ∙ last_end None h.front h.end)

-- no last chain is empty
pub last_filled : (chains : Chains) (chain : Stamps) → AllByRecursion GoodChain chains → chains ≢ []
    → last_or None chains ≡ Some chain → chain ≢ []
last_filled chains chain each some e none =
    let h = end_of chains some in
    let its = all_parts GoodChain h.front h.end (subst (λ (l : Chains). AllByRecursion GoodChain l) h.is each) in
    its.1.some (sym (found_end chains chain h e) ∙ none)

pub ends_are : (chains : Chains) (chain : Stamps) (first last : StampValue) → chain ≢ [] → chains ≢ []
    → last_or None chains ≡ Some chain → first_of chain ≡ Some first → last_or None chain ≡ Some last
    → AreEndsOf chains first last
ends_are chains chain first last filled some e begins f =
    let h = end_of chains some in
    let k = end_of chain filled in
    let its : chain ≡ k.front ++ last ∷ [] = k.is
    ∙ ap (λ (s : StampValue). k.front ++ s ∷ []) (sym (found_end chain last k f)) in
    record {
      place = last_place h.front k.front last;
      there = h.is ∙ ap (λ (c : Stamps). h.front ++ c ∷ []) (sym (found_end chains chain h e) ∙ its);
      is_last = record { no_stamp = refl; no_chain = refl };
      at = refl;
      is_first = ap first_of (sym its) ∙ begins;
    }

-- ---- what is asked of the ends

pub by_found : {A : Type 0} (o : Option A) (P : A → Type 0) → IfSome o P → ((a : A) → P a → o ≡ Some a)
    → MatchOption o ((a : A) → P a → ⊥) P
by_found None P found only = λ a h. let z = only a h in absurd cc
by_found (Some a) P found only = found

pub no_time : (s : StampValue) (token : List ℕ) → token ≡ s.stamp → IsStateOf token None → (m : ℕ) → HasTime s m → ⊥
no_time s token e none m h = none h.0 (subst (λ (x : List ℕ). States x h.0) (sym e) h.1)

pub has_time_by : (s : StampValue) (token : List ℕ) (state : StateValue) (m : ℕ) → token ≡ s.stamp
    → IsState token state → m ≡ generalized_moment state.stated.time → HasTime s m
has_time_by s token state m e h is =
    (state.stated, subst (λ (x : List ℕ). States x state.stated) e h.states, sym is)

module _ (chains : Chains) (first last : StampValue) (e : AreEndsOf chains first last) where
  pub end_without_time : ((m : ℕ) → HasTime last m → ⊥) → EndsWithoutTime chains
  end_without_time h = record {
    place = e.place;
    there = e.there;
    is_last = e.is_last;
    none = λ m time. h m (subst (λ (s : StampValue). HasTime s m) e.at time);
  }

  pub end_without_alg : ((alg : Alg) → HasAlg first alg → ⊥) → EndsWithoutAlg chains
  end_without_alg h = record {
    place = e.place;
    there = e.there;
    is_last = e.is_last;
    none = λ s alg is its. h alg (subst (λ (x : StampValue). HasAlg x alg)
        (some_is s first (first_beside e.place) is e.is_first) its);
  }

  pub is_last_of : (alg : Alg) (leaf : Digest) (m : ℕ) → HasTime last m → HasAlg first alg → alg_of leaf ≡ alg
      → octets_of leaf ≡ digest_of alg last.stamp
      → IsLastOf chains (record { alg = alg; leaf = leaf; moment = m })
  is_last_of alg leaf m time its by hashed = record {
    place = e.place;
    there = e.there;
    is_last = e.is_last;
    chain_alg = (first, e.is_first, its);
    by = by;
    hashed = hashed ∙ ap (λ (s : StampValue). digest_of alg s.stamp) (sym e.at);
    time = subst (λ (s : StampValue). HasTime s m) (sym e.at) time;
  }

  pub is_rehash_of : (alg : Alg) (digest leaf : Digest) (m : ℕ) → HasTime last m → alg_of digest ≡ alg
      → IsNewLeafOf alg (chains_parts chains) digest leaf → IsRehashOf chains digest leaf m
  is_rehash_of alg digest leaf m time by new = record {
    place = e.place;
    there = e.there;
    is_last = e.is_last;
    by = new.by ∙ sym by;
    hashed = new.hashed
        ∙ ap (λ (a : Alg). digest_of a (octets_of digest ++ digest_of a (el 0x30 (chains_parts chains)))) (sym by);
    time = subst (λ (s : StampValue). HasTime s m) (sym e.at) time;
  }

-- ---- there is one last place

-- the chains, by their last place
pub by_last : (chains : Chains) (p : Place) → IsIn chains p → IsLastPlace p
    → chains ≡ p.earlier ++ (p.before ++ p.stamp ∷ []) ∷ []
by_last chains p there last =
    there ∙ (λ i. p.earlier ++ (p.before ++ p.stamp ∷ last.no_stamp i) ∷ last.no_chain i)

pub one_last : (chains : Chains) (p q : Place) → IsIn chains p → IsLastPlace p → IsIn chains q → IsLastPlace q → p ≡ q
one_last chains p q there is_last there' is_last' =
    let e = by_last chains p there is_last in
    at_the_end p.earlier p.before p.stamp p (sym e ∙ there) is_last
    ∙ sym (at_the_end p.earlier p.before p.stamp q (sym e ∙ there') is_last')

module _ (chains : Chains) (p : Place) (there : IsIn chains p) (is_last : IsLastPlace p) where
  pub has_time : (m : ℕ) → HasTime p.stamp m → EndsWithoutTime chains → ⊥
  has_time m time h =
      let same = one_last chains p h.place there is_last h.there h.is_last in
      h.none m (subst (λ (q : Place). HasTime q.stamp m) same time)

  has_alg : (alg : Alg) → IsChainAlg p (Some alg) → EndsWithoutAlg chains → ⊥
  has_alg alg is h =
      let same = one_last chains p h.place there is_last h.there h.is_last in
      let its : IsChainAlg h.place (Some alg) = subst (λ (q : Place). IsChainAlg q (Some alg)) same is in
      h.none its.0 alg its.1 its.2

-- ---- refusals

pub not_open : (o : Option EncryptionValue) → o ≡ None → IsSome o → ⊥
not_open None e h = absurd cc
not_open (Some x) e h = absurd cc

module _ (octets : List ℕ) (v : EvidenceValue) (encodes : EncodesEvidence octets v) (open_data : v.encryption ≡ None)
  where
    -- what is of the chains of some value is of these
    pub of_these : (Is : Chains → Type 0) → OfOpen octets Is → Is v.chains
    of_these Is h = subst (λ (w : EvidenceValue). Is w.chains) (evidence_unique octets h.0 v h.1 encodes) h.3

    pub never_no_moment : (p : Place) (m : ℕ) → IsIn v.chains p → IsLastPlace p → HasTime p.stamp m → HasNoMoment octets
        → ⊥
    never_no_moment p m there is_last time (inl h) = not_open v.encryption open_data
        (subst (λ (w : EvidenceValue). IsSome w.encryption) (evidence_unique octets h.record_value v h.encodes encodes)
        h.encrypted)
    never_no_moment p m there is_last time (inr h) =
        has_time v.chains p there is_last m time (of_these EndsWithoutTime h)

    pub never_no_stamp : (last : LastStamp) → IsLastOf v.chains last → HasNoStamp octets → ⊥
    never_no_stamp last is (inl h) = never_no_moment is.place last.moment is.there is.is_last is.time h
    never_no_stamp last is (inr h) =
        has_alg v.chains is.place is.there is.is_last last.alg is.chain_alg (of_these EndsWithoutAlg h)

-- ---- what must be covered

-- the first of the chain of a last place, and the last of all
first_there : (p : Place) (first : StampValue) → IsLastPlace p → first_beside p ≡ Some first
    → first_of (p.before ++ p.stamp ∷ []) ≡ Some first
first_there p first last e = ap (λ (l : Stamps). first_of (p.before ++ p.stamp ∷ l)) (sym last.no_stamp) ∙ e

pub last_there : (front : Chains) (before : Stamps) (s : StampValue)
    → last_of (stamps_of (front ++ (before ++ s ∷ []) ∷ [])) ≡ Some s
last_there front before s = ap last_of (flat_map-append (λ (c : Stamps). c) front ((before ++ s ∷ []) ∷ [])
    ∙ ap (λ (l : Stamps). stamps_of front ++ l) (append-nil (before ++ s ∷ []))
    ∙ sym (append_assoc (stamps_of front) before (s ∷ [])))
    ∙ last_is (stamps_of front ++ before) s

pub some_chain : (chains : Chains) (p : Place) → IsIn chains p → chains ≢ []
some_chain chains p there none = go p.earlier (sym none ∙ there)
  where
    go : (front : Chains) → [] ≡ front ++ chain_of p ∷ p.later → ⊥
    go [] e = absurd cc
    go (c ∷ front) e = absurd cc

-- what a new chain must cover, by the digest of the data object
pub covered_is : (alg : Alg) (chains : Chains) (digest leaf data_object : List ℕ) → chains ≢ []
    → leaf ≡ digest_of alg (digest ++ digest_of alg (el 0x30 (chains_parts chains)))
    → digest ≡ digest_of alg data_object → leaf ≡ covered_of alg chains data_object
covered_is alg [] digest leaf data_object some e d = absurd (some refl)
covered_is alg (c ∷ chains) digest leaf data_object some e d = e
    ∙ ap (λ (x : List ℕ). digest_of alg (x ++ digest_of alg (el 0x30 (chains_parts (c ∷ chains))))) d

module _ (octets : List ℕ) (v : EvidenceValue) (encodes : EncodesEvidence octets v) where
  pub of_other : (w : EvidenceValue) (Is : Chains → Type 0) → EncodesEvidence octets w → Is v.chains → Is w.chains
  of_other w Is other = subst (λ (x : EvidenceValue). Is x.chains) (evidence_unique octets v w encodes other)

  pub due_in_chain : (last : LastStamp) → IsLastOf v.chains last → IsDueInChain octets last
  due_in_chain last is w values token ds p other there end =
      let h = of_other w (λ chains. IsLastOf chains last) other is in
      let s = stamp_of last.alg values token in
      let chain : Stamps = h.place.before ++ h.place.stamp ∷ [] in
      let chains : with_stamp s w.chains ≡ h.place.earlier ++ (chain ++ s ∷ []) ∷ [] =
      ap (with_stamp s) (by_last w.chains h.place h.there h.is_last) ∙ with_stamp_end s h.place.earlier chain in
      ap (λ (q : Place). covered_at last.alg ds q) (at_the_end h.place.earlier chain s p (sym chains ∙ there) end)
      ∙ ap (λ (o : Option StampValue). covered_after last.alg o h.place.earlier ds)
      (last_is h.place.before h.place.stamp)
      ∙ ap (λ (x : List ℕ). x ∷ []) (sym h.hashed)

  -- ---- where the new one stands

  pub stands_in_chain : (last : LastStamp) → IsLastOf v.chains last → StandsInChain octets last
  stands_in_chain last is g w tree values token ds m other by lists later stands =
      let h = of_other w (λ chains. IsLastOf chains last) other is in
      let leaf : octets_of last.leaf ≡ digest_of tree.algorithm h.place.stamp.stamp =
      h.hashed ∙ ap (λ (a : Alg). digest_of a h.place.stamp.stamp) (sym by) in
      renewed_stamps_stand g w tree values token ds m h.place.earlier h.place.before h.place.stamp h.chain_alg.0
      last.moment (by_last w.chains h.place h.there h.is_last)
      (subst (λ (x : List ℕ). AreListsOf tree x values) leaf lists)
      (first_there h.place h.chain_alg.0 h.is_last h.chain_alg.1)
      (subst (λ (a : Alg). HasAlg h.chain_alg.0 a) (sym by) h.chain_alg.2) h.time later stands

-- ---- what is answered

abbrev good : {A : Type 0} → A → Result A LeafFault
good a = Ok a

abbrev pub bad : (A : Type 0) → LeafFault → Result A LeafFault
bad A fault = Err fault

-- of a record that is open
module _ (octets : List ℕ) (v : EvidenceValue) (is : EncodesEvidence octets v × (v.encryption ≡ None)) (chains : Chains)
    (same : chains ≡ v.chains) where
  pub some_chains : chains ≢ []
  some_chains none = is.0.1.chains.some (sym same ∙ none)

  pub room_for_chains : HasLength (chains_parts chains)
  room_for_chains = subst (λ (l : Chains). HasLength (chains_parts l)) (sym same) is.0.1.chains.size

  pub to_record : (Is : Chains → Type 0) → Is chains → Is v.chains
  to_record Is h = subst (λ (l : Chains). Is l) same h

  pub of_record : (Is : Chains → Type 0) → Is chains → OfOpen octets Is
  of_record Is h = (v, is.0, is.1, to_record Is h)

  pub last_found : (last : LastStamp) → IsLastOf chains last → IsLastStamp octets last
  last_found last h = of_record (λ l. IsLastOf l last) h

  pub last_is_stamp : (last : LastStamp) → IsLastOf chains last
      → (good last ≡ bad LastStamp NoStamp) ↔ HasNoStamp octets
  last_is_stamp last h = (
    λ e. absurd (let z = e in cc),
    λ none. absurd (never_no_stamp octets v is.0 is.1 last (to_record (λ l. IsLastOf l last) h) none),
  )

  pub last_due : (last : LastStamp) → IsLastOf chains last → IsDueInChain octets last
  last_due last h = due_in_chain octets v is.0 last (to_record (λ l. IsLastOf l last) h)

  pub last_stands : (last : LastStamp) → IsLastOf chains last → StandsInChain octets last
  last_stands last h = stands_in_chain octets v is.0 last (to_record (λ l. IsLastOf l last) h)

  pub last_is_none : EndWithoutEither chains → (bad LastStamp NoStamp ≡ bad LastStamp NoStamp) ↔ HasNoStamp octets
  last_is_none (inl h) = (λ e. inl (inr (of_record EndsWithoutTime h)), λ none. refl)
  last_is_none (inr h) = (λ e. inr (of_record EndsWithoutAlg h), λ none. refl)

  pub without_moment : EndsWithoutTime chains → HasNoMoment octets
  without_moment h = inr (of_record EndsWithoutTime h)

-- of one that isn't
pub never_encoded : (octets : List ℕ) (fault : Fault) → Faults (file evidence_record) octets fault → (v : EvidenceValue)
    → EncodesEvidence octets v → ⊥
never_encoded octets fault has v encodes =
    refuted (file evidence_record) octets fault evidence_record_clear (evidence_encodes octets v encodes) has

never_moment : (octets : List ℕ) (fault : Fault) → Faults (file evidence_record) octets fault → HasNoMoment octets → ⊥
never_moment octets fault has (inl h) = never_encoded octets fault has h.record_value h.encodes
never_moment octets fault has (inr h) = never_encoded octets fault has h.0 h.1

module _ {A : Type 0} (octets : List ℕ) where
  pub no_moment_opened : (fault : LeafFault) → IsOpened octets (Err fault)
      → (bad A fault ≡ bad A NoStamp) ↔ HasNoMoment octets
  no_moment_opened (Malformed fault) h = (
    λ e. absurd (let z = e in cc),
    λ none. absurd (never_moment octets fault h none),
  )
  no_moment_opened NoStamp h = (λ e. inl h, λ none. refl)
  no_moment_opened Unnamed h = absurd h
  no_moment_opened OutOfMemory h = absurd h

  pub no_stamp_opened : (fault : LeafFault) → IsOpened octets (Err fault)
      → (bad A fault ≡ bad A NoStamp) ↔ HasNoStamp octets
  no_stamp_opened (Malformed fault) h = (
    λ e. absurd (let z = e in cc),
    λ none. absurd (elim none [
      | inl k ↦ never_moment octets fault h k
      | inr k ↦ never_encoded octets fault h k.0 k.1
    ]),
  )
  no_stamp_opened NoStamp h = (λ e. inl (inl h), λ none. refl)
  no_stamp_opened Unnamed h = absurd h
  no_stamp_opened OutOfMemory h = absurd h

  pub malformed_opened : (fault : LeafFault) → IsOpened octets (Err fault) → (its : Fault)
      → bad A fault ≡ bad A (Malformed its) → Faults (file evidence_record) octets its
  malformed_opened (Malformed fault) h its e =
      let same : fault ≡ its = cc in subst (λ (f : Fault). Faults (file evidence_record) octets f) same h
  malformed_opened NoStamp h its e = absurd cc
  malformed_opened Unnamed h its e = absurd h
  malformed_opened OutOfMemory h its e = absurd h

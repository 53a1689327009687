-- That a record is renewed by a token in one way, which is found step by step.
use Rattle.std.proofs.Common.{◌≡◌, ◌≢◌, ◌↔◌, ℕ, ◌<◌, Bool, List, [], ◌∷◌, ◌++◌, Option, Some, None, refl, sym}
use Rattle.std.proofs.Common.{ap, ◌∙◌, ◌+◌, subst, append_assoc, length, length-append, arith, IsTrue, MatchOption}
use Rattle.std.proofs.Common.{true, false}
use Rattle.std.proofs.Common.{Result, Ok, Err, IfSome}
use Rattle.std.specs.List.{AllByRecursion, last_or}
use Rattle.digests.specs.Algorithms.{Names}
use Rattle.digests.specs.Digests.{alg_of, octets_of}
use Rattle.digests.specs.Messages.{digest_of}
use Rattle.digests.specs.declared.algorithm.Alg.{Alg}
use Rattle.digests.specs.declared.value.Digest.{Digest}
use Rattle.digests.proofs.Named.{alg_itself, alg_says}
use Rattle.digests.specs.Named.{is_alg}
use Rattle.der_core.specs.Element.{el}
use Rattle.der_core.specs.Values.{HasLength}
use Rattle.evidence_types.specs.StampValue.{StampValue}
use Rattle.evidence_types.specs.EvidenceValue.{EvidenceValue, EncodesEvidence, GoodChain, chain_element}
use Rattle.evidence_types.specs.EvidenceValue.{chains_parts}
use Rattle.evidence_types.proofs.EvidenceReaders.{evidence_unique}
use Rattle.std.specs.Prelude.{IfNone, IfOk, IsSome}
use Rattle.check_evidence.specs.Places.{Place, IsIn, first_of}
use Rattle.check_evidence.specs.StampStates.{HasTime, HasAlg}
use Rattle.check_evidence.specs.Roots.{IsRoot, IsCovered}
use Rattle.check_evidence.specs.Standing.{HasLengths}
use Rattle.check_evidence.specs.Laws.{RootsAreUnique}
use Rattle.check_evidence.proofs.States.{one_alg, one_time, some_is}
use Rattle.judge_evidence.specs.Going.{IsLastPlace}
use Rattle.check_evidence.proofs.Places.{SameSplit}
use Rattle.evidence_making.specs.declared.leaves.LastStamp.{LastStamp}
use Rattle.evidence_making.specs.Done.{AreRehashed, AreRenewed, FitsOver, IsRootOver, StampsAfter}
use Rattle.evidence_making.specs.DoneSteps.{AreLastTwo, AreTwo, EndsAlone}
use Rattle.evidence_making.specs.declared.fault.LeafFault.{LeafFault}
use Rattle.evidence_making.specs.declared.fault.LeafFault.TheVariants.{Malformed, NoStamp, OutOfMemory, Unnamed}
use Rattle.evidence_making.specs.Leaves.{OfOpen}
use Rattle.evidence_making.specs.LeafSteps.{IsOpened}
use Rattle.evidence_making.specs.Renewed.{with_stamp}
use Rattle.evidence_making.specs.Stamping.{StampsRoot}
use Rattle.judge_evidence.proofs.Ends.{same_end}
use Rattle.evidence_making.proofs.Ends.{all_parts, end_of}
use Rattle.evidence_making.proofs.Placed.{parts_more}
use Rattle.evidence_making.proofs.StandsOn.{found_end, last_end, never_encoded, not_open}
use Rattle.evidence_making.proofs.Made.{last_place}
use Rattle.evidence_making.proofs.Renewed.{with_stamp_end}

abbrev Stamps : Type 0
Stamps = List StampValue

abbrev Chains : Type 0
Chains = List (List StampValue)

-- ---- digests with the same octets

module _ (a b : Digest) (by : alg_of a ≡ alg_of b) (same : octets_of a ≡ octets_of b) where
  stamps_same : (token : List ℕ) (m : ℕ) → StampsRoot token a m → StampsRoot token b m
  stamps_same token m h = record {
    stated = h.stated;
    states = h.states;
    imprint = record {
      algorithm = subst (λ (x : Alg). Names h.stated.imprint.algorithm.oid h.stated.imprint.algorithm.parameters x) by
          h.imprint.algorithm;
      octets = h.imprint.octets ∙ same;
    };
    moment = h.moment;
  }

  after_same : (token : List ℕ) (last : ℕ) → StampsAfter token a last → StampsAfter token b last
  after_same token last h =
      record { moment = h.moment; stamped = stamps_same token h.moment h.stamped; later = h.later }

  over_same : (s : StampValue) (root : Digest) → IsRootOver s a root → IsRootOver s b root
  over_same s root h = record {
    alg = subst (λ (x : Alg). HasAlg s x) by h.alg;
    lengths = subst (λ (x : Alg). HasLengths s.lists x) by h.lengths;
    covers = subst (λ (x : List ℕ). IsCovered s.lists (x ∷ [])) same h.covers;
    by = h.by ∙ by;
    is_root = subst (λ (x : Alg). IsRoot x s.lists (octets_of b ∷ []) (octets_of root)) by
        (subst (λ (x : List ℕ). IsRoot (alg_of a) s.lists (x ∷ []) (octets_of root)) same h.is_root);
  }

  fits_same : (s : StampValue) (last : ℕ) → FitsOver s a last → FitsOver s b last
  fits_same s last h = record { root = h.root; over = over_same s h.root h.over; stamped = h.stamped }

-- ---- whether an archive time-stamp fits

-- it has one root
pub fits_if : RootsAreUnique → (s : StampValue) (leaf root : Digest) (last : ℕ) (token : List ℕ) (b : Bool)
    → token ≡ s.stamp → IsRootOver s leaf root → IsTrue b ↔ StampsAfter token root last
    → IsTrue b ↔ FitsOver s leaf last
fits_if one_root s leaf root last token b same over is = (
  λ t. record {
    root = root;
    over = over;
    stamped = subst (λ (x : List ℕ). StampsAfter x root last) same (is.0 t);
  },
  λ f.
      let octets : octets_of f.root ≡ octets_of root =
      one_root (alg_of leaf) s.lists (octets_of leaf ∷ []) (octets_of f.root) (octets_of root) f.over.is_root
      over.is_root in
      is.1 (subst (λ (x : List ℕ). StampsAfter x root last) (sym same)
      (after_same f.root root (f.over.by ∙ sym over.by) octets s.stamp last f.stamped)),
)

-- ---- the last two of a list

pub two_more : {A : Type 0} (front : List A) (x y : A) → (front ++ x ∷ []) ++ y ∷ [] ≡ front ++ x ∷ y ∷ []
two_more front x y = append_assoc front (x ∷ []) (y ∷ [])

-- a list that doesn't have two, and isn't empty, has one
pub one_alone : {A : Type 0} (xs : List A) → xs ≢ [] → ((x y : A) → AreTwo xs x y → ⊥) → (x : A) × (xs ≡ x ∷ [])
one_alone [] some never = absurd (some refl)
one_alone (x ∷ []) some never = (x, refl)
one_alone {A} (x ∷ y ∷ ys) some never = absurd (go [] x y ys refl)
  where
    go : (front : List A) (v w : A) (more : List A) → x ∷ y ∷ ys ≡ front ++ v ∷ w ∷ more → ⊥
    go front v w [] e = never v w (front, e)
    go front v w (z ∷ more) e = go (front ++ v ∷ []) w z more (e ∙ sym (append_assoc front (v ∷ []) (w ∷ z ∷ more)))

one_end : {A : Type 0} (front back : List A) (x y v w : A) → front ++ x ∷ y ∷ [] ≡ back ++ v ∷ w ∷ []
    → SameSplit (front ++ x ∷ []) (back ++ v ∷ []) y w [] []
one_end front back x y v w e =
    same_end (front ++ x ∷ []) (back ++ v ∷ []) y w (two_more front x y ∙ e ∙ sym (two_more back v w))

never_two : {A : Type 0} (front : List A) (x y s : A) → s ∷ [] ≡ front ++ x ∷ y ∷ [] → ⊥
never_two front x y s e =
    let n : 1 ≡ length (front ++ x ∷ y ∷ []) = ap (λ l. length l) e in
    let m : length (front ++ x ∷ y ∷ []) ≡ length front + 2 = length-append front (x ∷ y ∷ []) in
    omega (arith, n, m)

-- ---- the last archive time-stamps

-- the chains, by their last place
by_last : (chains : Chains) (p : Place) → IsIn chains p → IsLastPlace p
    → chains ≡ p.earlier ++ (p.before ++ p.stamp ∷ []) ∷ []
by_last chains p there last =
    there ∙ (λ i. p.earlier ++ (p.before ++ p.stamp ∷ last.no_stamp i) ∷ last.no_chain i)

module _ (chains : Chains) (token : List ℕ) (l : LastStamp) (h : AreRenewed chains token l) where
  abbrev place : Place
  place = h.stood.place

  -- the chains end with what the renewal stood on, and then the new one
  ending : chains ≡ place.earlier ++ (place.before ++ place.stamp ∷ h.stamp ∷ []) ∷ []
  ending = h.added ∙ ap (with_stamp h.stamp) (by_last h.before place h.stood.there h.stood.is_last)
      ∙ with_stamp_end h.stamp place.earlier (place.before ++ place.stamp ∷ [])
      ∙ ap (λ (c : Stamps). place.earlier ++ c ∷ []) (two_more place.before place.stamp h.stamp)

  pub never_alone : EndsAlone chains → ⊥
  never_alone e =
      let same = same_end e.front place.earlier (e.stamp ∷ []) (place.before ++ place.stamp ∷ h.stamp ∷ [])
      (sym e.are ∙ ending) in
      never_two place.before place.stamp h.stamp e.stamp same.at

-- of the last archive time-stamps of chains, that they are renewed
pub record IsSo (token : List ℕ) (l : LastStamp) (first before last : StampValue) : Type 0 where
  pub token_is : last.stamp ≡ token
  pub time : HasTime before l.moment
  pub alg : HasAlg first l.alg
  pub by : alg_of l.leaf ≡ l.alg
  pub hashed : octets_of l.leaf ≡ digest_of l.alg before.stamp
  pub fits : FitsOver last l.leaf l.moment

module _ (chains : Chains) (token : List ℕ) (l : LastStamp) (first before last : StampValue)
    (e : AreLastTwo chains first before last) where
  -- the chains without the last
  abbrev without : Chains
  without = e.front ++ (e.stamps ++ before ∷ []) ∷ []

  pub is_so : AreRenewed chains token l → IsSo token l first before last
  is_so h =
      let p = h.stood.place in
      let chain = same_end e.front p.earlier (e.stamps ++ before ∷ last ∷ []) (p.before ++ p.stamp ∷ h.stamp ∷ [])
      (sym e.are ∙ ending chains token l h) in
      let ends = one_end e.stamps p.before before last p.stamp h.stamp chain.at in
      let stood = same_end e.stamps p.before before p.stamp ends.before in
      let its : first_of (p.before ++ p.stamp ∷ []) ≡ Some first =
      ap first_of (sym ends.before) ∙ e.is_first in
      let beside : first_of (p.before ++ p.stamp ∷ []) ≡ Some h.stood.chain_alg.0 =
      ap (λ (x : Stamps). first_of (p.before ++ p.stamp ∷ x)) (sym h.stood.is_last.no_stamp)
      ∙ h.stood.chain_alg.1 in
      record {
        token_is = ap (λ (s : StampValue). s.stamp) ends.at ∙ h.token_is;
        time = subst (λ (s : StampValue). HasTime s l.moment) (sym stood.at) h.stood.time;
        alg = subst (λ (s : StampValue). HasAlg s l.alg)
            (some_is h.stood.chain_alg.0 first (first_of (p.before ++ p.stamp ∷ [])) beside its) h.stood.chain_alg.2;
        by = h.stood.by;
        hashed = h.stood.hashed ∙ ap (λ (s : StampValue). digest_of l.alg s.stamp) (sym stood.at);
        fits = subst (λ (s : StampValue). FitsOver s l.leaf l.moment) (sym ends.at) h.fits;
      }

  pub so_renewed : IsSo token l first before last → AreRenewed chains token l
  so_renewed h = record {
    before = without;
    stamp = last;
    added = e.are ∙ sym (with_stamp_end last e.front (e.stamps ++ before ∷ [])
        ∙ ap (λ (c : Stamps). e.front ++ c ∷ []) (two_more e.stamps before last));
    token_is = h.token_is;
    stood = record {
      place = last_place e.front e.stamps before;
      there = refl;
      is_last = record { no_stamp = refl; no_chain = refl };
      chain_alg = (first, e.is_first, h.alg);
      by = h.by;
      hashed = h.hashed;
      time = h.time;
    };
    fits = h.fits;
  }

-- ---- steps

module _ (token : List ℕ) (first before last : StampValue) where
  pub no_so : (chains : Chains) → AreLastTwo chains first before last
      → ((l : LastStamp) → IsSo token l first before last → ⊥) → (l : LastStamp) → AreRenewed chains token l → ⊥
  no_so chains e never l h = never l (is_so chains token l first before last e h)

  pub not_so : (leaf : Digest) (alg : Alg) (moment : ℕ) → HasTime before moment → HasAlg first alg → alg_of leaf ≡ alg
      → octets_of leaf ≡ digest_of alg before.stamp → (FitsOver last leaf moment → ⊥) → (l : LastStamp)
      → IsSo token l first before last → ⊥
  not_so leaf alg moment time its by hashed never l h =
      let algs : l.alg ≡ alg = one_alg first l.alg alg h.alg its in
      let times : l.moment ≡ moment = one_time before l.moment moment h.time time in
      never (fits_same l.leaf leaf (h.by ∙ algs ∙ sym by)
      (h.hashed ∙ ap (λ (a : Alg). digest_of a before.stamp) algs ∙ sym hashed) last moment
      (subst (λ (m : ℕ). FitsOver last l.leaf m) times h.fits))

-- ---- what is found step by step

-- an algorithm that was found is the one that is asked for, or not
pub is_by : (s : StampValue) (its alg : Alg) (b : Bool) → HasAlg s its → b ≡ is_alg its alg → IsTrue b ↔ HasAlg s alg
is_by s its alg b has same = (
  λ t. subst (λ (a : Alg). HasAlg s a) (alg_says its alg (sym same ∙ t)) has,
  λ h. same ∙ subst (λ (a : Alg). is_alg its a ≡ true) (one_alg s its alg has h) (alg_itself its),
)

-- an archive time-stamp has no root over a leaf if one of three tests fails
module _ (s : StampValue) (leaf : Digest) (alg : Alg) (by : alg ≡ alg_of leaf) (b : Bool) (fails : b ≡ false) where
  never_both : b ≡ true → ⊥
  never_both holds = absurd (let z : false ≡ true = sym fails ∙ holds in cc)

  pub not_by : IsTrue b ↔ HasAlg s alg → (root : Digest) → IsRootOver s leaf root → ⊥
  not_by is root h = never_both (is.1 (subst (λ (a : Alg). HasAlg s a) (sym by) h.alg))

  module _ (lists : Option (List (List (List ℕ)))) (same : lists ≡ s.lists) where
    pub not_long : IsTrue b ↔ HasLengths lists alg → (root : Digest) → IsRootOver s leaf root → ⊥
    not_long is root h =
        never_both (is.1 (subst (λ (l : Option (List (List (List ℕ)))). HasLengths l alg) (sym same)
        (subst (λ (a : Alg). HasLengths s.lists a) (sym by) h.lengths)))

    pub not_covered : IsTrue b ↔ IsCovered lists (octets_of leaf ∷ []) → (root : Digest) → IsRootOver s leaf root → ⊥
    not_covered is root h =
        never_both (is.1 (subst (λ (l : Option (List (List (List ℕ)))). IsCovered l (octets_of leaf ∷ [])) (sym same)
        h.covers))

-- the root of lists that cover a leaf
pub root_if : {E : Type 0} (s : StampValue) (leaf : Digest) (alg : Alg) (lists : Option (List (List (List ℕ))))
    (covered : List (List ℕ)) → alg ≡ alg_of leaf → lists ≡ s.lists → covered ≡ octets_of leaf ∷ [] → HasAlg s alg
    → HasLengths lists alg → IsCovered lists covered → (r : Result (Option Digest) E)
    → IfOk r (λ o. IfSome o (λ d. alg_of d ≡ alg))
    → IfOk r (λ o. IfSome o (λ d. IsRoot alg lists covered (octets_of d)))
    → IfOk r (λ o. IfNone o ((root : List ℕ) → IsRoot alg lists covered root → ⊥))
    → IfOk r (λ o. MatchOption o ((root : Digest) → IsRootOver s leaf root → ⊥) (IsRootOver s leaf))
root_if s leaf alg lists covered by same these has lengths covers (Err e) its is none = tt
root_if s leaf alg lists covered by same these has lengths covers (Ok None) its is none =
    λ root h. none (octets_of root)
    (subst (λ (a : Alg). IsRoot a lists covered (octets_of root)) (sym by)
    (subst (λ (l : Option (List (List (List ℕ)))). IsRoot (alg_of leaf) l covered (octets_of root)) (sym same)
    (subst (λ (c : List (List ℕ)). IsRoot (alg_of leaf) s.lists c (octets_of root)) (sym these) h.is_root)))
root_if s leaf alg lists covered by same these has lengths covers (Ok (Some root)) its is none = record {
  alg = subst (λ (a : Alg). HasAlg s a) by has;
  lengths = subst (λ (a : Alg). HasLengths s.lists a) by
      (subst (λ (l : Option (List (List (List ℕ)))). HasLengths l alg) same lengths);
  covers = subst (λ (c : List (List ℕ)). IsCovered s.lists c) these
      (subst (λ (l : Option (List (List (List ℕ)))). IsCovered l covered) same covers);
  by = its ∙ by;
  is_root = subst (λ (a : Alg). IsRoot a s.lists (octets_of leaf ∷ []) (octets_of root)) by
      (subst (λ (l : Option (List (List (List ℕ)))). IsRoot alg l (octets_of leaf ∷ []) (octets_of root)) same
      (subst (λ (c : List (List ℕ)). IsRoot alg lists c (octets_of root)) these is));
}

pub never_fits : (s : StampValue) (leaf : Digest) (last : ℕ) → ((root : Digest) → IsRootOver s leaf root → ⊥)
    → IsTrue false ↔ FitsOver s leaf last
never_fits s leaf last none = (λ t. absurd (let z : false ≡ true = t in cc), λ f. absurd (none f.root f.over))

-- a token that stamps a root does so after a moment, or not
pub after_if : (token : List ℕ) (root : Digest) (last moment : ℕ) (b : Bool) → StampsRoot token root moment
    → ((m n : ℕ) → StampsRoot token root m → StampsRoot token root n → m ≡ n) → IsTrue b ↔ (last < moment)
    → IsTrue b ↔ StampsAfter token root last
after_if token root last moment b stamps one is = (
  λ t. record { moment = moment; stamped = stamps; later = is.0 t },
  λ h. is.1 (subst (λ (m : ℕ). last < m) (one h.moment moment h.stamped stamps) h.later),
)

pub never_after : {E : Type 0} (token : List ℕ) (root : Digest) (last : ℕ) (r : Result ℕ E) (e : E) → r ≡ Err e
    → ((m : ℕ) → StampsRoot token root m → r ≡ Ok m) → IsTrue false ↔ StampsAfter token root last
never_after token root last r e is found = (
  λ t. absurd (let z : false ≡ true = t in cc),
  λ h. absurd (let z : Err e ≡ Ok h.moment = sym is ∙ found h.moment h.stamped in cc),
)

pub no_two_none : {A : Type 0} (xs : List A) → xs ≡ [] → (x y : A) → AreTwo xs x y → ⊥
no_two_none xs none x y (front, e) =
    let n : length (front ++ x ∷ y ∷ []) ≡ 0 = ap (λ l. length l) (sym e ∙ none) in
    let m : length (front ++ x ∷ y ∷ []) ≡ length front + 2 = length-append front (x ∷ y ∷ []) in
    omega (arith, n, m)

pub no_two_one : {A : Type 0} (xs : List A) (z : A) (left : List A) → xs ≡ z ∷ left → left ≡ [] → (x y : A)
    → AreTwo xs x y → ⊥
no_two_one {A} xs z left is none x y (front, e) =
    never_two front x y z (ap (λ (l : List A). z ∷ l) (sym none) ∙ sym is ∙ e)

pub next_two : {A : Type 0} (xs : List A) (x y z : A) (left others : List A)
    → ((front : List A) × (xs ≡ front ++ x ∷ y ∷ left)) → left ≡ z ∷ others
    → (front : List A) × (xs ≡ front ++ y ∷ z ∷ others)
next_two {A} xs x y z left others (front, e) is = (
  front ++ x ∷ [],
  e ∙ ap (λ (l : List A). front ++ x ∷ y ∷ l) is ∙ sym (append_assoc front (x ∷ []) (y ∷ z ∷ others)),
)

pub ends_alone : (chains : Chains) (chain : Stamps) → chains ≢ [] → chain ≢ [] → last_or None chains ≡ Some chain
    → ((x y : StampValue) → AreTwo chain x y → ⊥) → EndsAlone chains
ends_alone chains chain some filled e never =
    let h = end_of chains some in
    let one = one_alone chain filled never in
    record {
      front = h.front;
      stamp = one.0;
      are = h.is ∙ ap (λ (c : Stamps). h.front ++ c ∷ []) (sym (found_end chains chain h e) ∙ one.1);
    }

first_front : (stamps : Stamps) (x y : StampValue) → first_of (stamps ++ x ∷ y ∷ []) ≡ first_of (stamps ++ x ∷ [])
first_front [] x y = refl
first_front (s ∷ stamps) x y = refl

pub are_last_two : (chains : Chains) (chain : Stamps) (first before last : StampValue) → chains ≢ []
    → last_or None chains ≡ Some chain → first_of chain ≡ Some first → AreTwo chain before last
    → AreLastTwo chains first before last
are_last_two chains chain first before last some e begins (stamps, is) =
    let h = end_of chains some in
    record {
      front = h.front;
      stamps = stamps;
      are = h.is ∙ ap (λ (c : Stamps). h.front ++ c ∷ []) (sym (found_end chains chain h e) ∙ is);
      is_first = sym (first_front stamps before last) ∙ ap first_of (sym is) ∙ begins;
    }

-- ---- records

module _ (octets token : List ℕ) where
  -- what is of the chains of a record that is open is of the record
  pub of_open : {A E : Type 0} (Is : A → Chains → Type 0) (v : EvidenceValue)
      → EncodesEvidence octets v × (v.encryption ≡ None) → (chains : Chains) → chains ≡ v.chains
      → (r : Result (Option A) E) → IfOk r (λ o. MatchOption o ((a : A) → Is a chains → ⊥) (λ a. Is a chains))
      → IfOk r (λ o. MatchOption o ((a : A) → OfOpen octets (Is a) → ⊥) (λ a. OfOpen octets (Is a)))
  of_open Is v is chains same (Err e) h = tt
  of_open Is v is chains same (Ok None) h =
      λ a k. h a (subst (λ (l : Chains). Is a l) (sym same)
      (subst (λ (w : EvidenceValue). Is a w.chains) (evidence_unique octets k.0 v k.1 is.0) k.3))
  of_open Is v is chains same (Ok (Some a)) h = (v, is.0, is.1, subst (λ (l : Chains). Is a l) same h)

  pub never_open : (Is : Chains → Type 0) (fault : LeafFault) → IsOpened octets (Err fault) → OfOpen octets Is → ⊥
  never_open Is (Malformed fault) h k = never_encoded octets fault h k.0 k.1
  never_open Is Unnamed h k = absurd h
  never_open Is OutOfMemory h k = absurd h
  never_open Is NoStamp h k = not_open k.0.encryption k.2
      (subst (λ (w : EvidenceValue). IsSome w.encryption)
      (evidence_unique octets h.record_value k.0 h.encodes k.1) h.encrypted)

  -- the same of two values
  pub of_open_two : {A E : Type 0} (first : A → Digest) (second : A → ℕ) (Is : Digest → ℕ → Chains → Type 0)
      (v : EvidenceValue) → EncodesEvidence octets v × (v.encryption ≡ None) → (chains : Chains) → chains ≡ v.chains
      → (r : Result (Option A) E)
      → IfOk r (λ o. MatchOption o ((d : Digest) (m : ℕ) → Is d m chains → ⊥)
      (λ a. Is (first a) (second a) chains))
      → IfOk r (λ o. MatchOption o ((d : Digest) (m : ℕ) → OfOpen octets (Is d m) → ⊥)
      (λ a. OfOpen octets (Is (first a) (second a))))
  of_open_two first second Is v is chains same (Err e) h = tt
  of_open_two first second Is v is chains same (Ok None) h =
      λ d m k. h d m (subst (λ (l : Chains). Is d m l) (sym same)
      (subst (λ (w : EvidenceValue). Is d m w.chains) (evidence_unique octets k.0 v k.1 is.0) k.3))
  of_open_two first second Is v is chains same (Ok (Some a)) h =
      (v, is.0, is.1, subst (λ (l : Chains). Is (first a) (second a) l) same h)

-- ---- chains that are renewed by a hash tree

module _ (chains : Chains) (token : List ℕ) (digest leaf : Digest) (m : ℕ) (h : AreRehashed chains token digest leaf m)
  where
    -- the chains before the new one
    stood_on : h.before ≡ h.stood.place.earlier ++ (h.stood.place.before ++ h.stood.place.stamp ∷ []) ∷ []
    stood_on = by_last h.before h.stood.place h.stood.there h.stood.is_last

    pub has_two_chains : ((before last : Stamps) → AreTwo chains before last → ⊥) → ⊥
    has_two_chains never =
        let p = h.stood.place in
        never (p.before ++ p.stamp ∷ []) (h.stamp ∷ []) (
          p.earlier,
          h.added ∙ ap (λ (l : Chains). l ++ (h.stamp ∷ []) ∷ []) stood_on
              ∙ two_more p.earlier (p.before ++ p.stamp ∷ []) (h.stamp ∷ []),
        )

    module _ (before last : Stamps) (two : AreTwo chains before last) where
      split : SameSplit (two.0 ++ before ∷ []) h.before last (h.stamp ∷ []) [] []
      split = same_end (two.0 ++ before ∷ []) h.before last (h.stamp ∷ [])
          (two_more two.0 before last ∙ sym two.1 ∙ h.added)

      pub is_alone : last ≡ h.stamp ∷ []
      is_alone = split.at

      pub before_is : two.0 ++ before ∷ [] ≡ h.before
      before_is = split.before

      pub ends_with : (x : StampValue) → last_or None before ≡ Some x → x ≡ h.stood.place.stamp
      ends_with x e =
          let p = h.stood.place in
          let chain = same_end two.0 p.earlier before (p.before ++ p.stamp ∷ []) (split.before ∙ stood_on) in
          some_is x p.stamp (last_or None before) e
          (ap (λ (l : Stamps). last_or None l) chain.at ∙ last_end None p.before p.stamp)

one_of : (s t : StampValue) → s ∷ [] ≡ t ∷ [] → s ≡ t
one_of s t e = cc

-- of the last two chains, that they are renewed so
pub record IsSoAnew (token : List ℕ) (digest leaf : Digest) (m : ℕ) (parts : List ℕ) (x s : StampValue) : Type 0 where
  pub token_is : s.stamp ≡ token
  pub time : HasTime x m
  pub by : alg_of leaf ≡ alg_of digest
  pub hashed : octets_of leaf ≡ digest_of (alg_of digest)
      (octets_of digest ++ digest_of (alg_of digest) (el 0x30 parts))
  pub fits : FitsOver s leaf m

module _ (chains : Chains) (token : List ℕ) (digest : Digest) (before last : Stamps) (two : AreTwo chains before last)
  where
    pub not_alone : ((s : StampValue) → last ≡ s ∷ [] → ⊥) → (leaf : Digest) (m : ℕ)
        → AreRehashed chains token digest leaf m → ⊥
    not_alone never leaf m h = never h.stamp (is_alone chains token digest leaf m h before last two)

    module _ (s : StampValue) (alone : last ≡ s ∷ []) where
      pub not_token : (s.stamp ≡ token → ⊥) → (leaf : Digest) (m : ℕ) → AreRehashed chains token digest leaf m → ⊥
      not_token never leaf m h =
          let same = one_of s h.stamp (sym alone ∙ is_alone chains token digest leaf m h before last two) in
          never (ap (λ (x : StampValue). x.stamp) same ∙ h.token_is)

      module _ (x : StampValue) (ends : last_or None before ≡ Some x) where
        pub not_timed : ((m : ℕ) → HasTime x m → ⊥) → (leaf : Digest) (m : ℕ)
            → AreRehashed chains token digest leaf m → ⊥
        not_timed never leaf m h = never m (subst (λ (y : StampValue). HasTime y m)
            (sym (ends_with chains token digest leaf m h before last two x ends)) h.stood.time)

        module _ (parts : List ℕ) (are : parts ≡ chains_parts (two.0 ++ before ∷ [])) where
          pub is_so_anew : (leaf : Digest) (m : ℕ) → AreRehashed chains token digest leaf m
              → IsSoAnew token digest leaf m parts x s
          is_so_anew leaf m h =
              let same = one_of s h.stamp (sym alone ∙ is_alone chains token digest leaf m h before last two) in
              let those : parts ≡ chains_parts h.before =
              are ∙ ap chains_parts (before_is chains token digest leaf m h before last two) in
              record {
                token_is = ap (λ (y : StampValue). y.stamp) same ∙ h.token_is;
                time = subst (λ (y : StampValue). HasTime y m)
                    (sym (ends_with chains token digest leaf m h before last two x ends)) h.stood.time;
                by = h.stood.by;
                hashed = h.stood.hashed ∙ ap (λ (b : List ℕ). digest_of (alg_of digest)
                    (octets_of digest ++ digest_of (alg_of digest) (el 0x30 b))) (sym those);
                fits = subst (λ (y : StampValue). FitsOver y leaf m) (sym same) h.fits;
              }

          pub so_rehashed : before ≢ [] → (leaf : Digest) (m : ℕ) → IsSoAnew token digest leaf m parts x s
              → AreRehashed chains token digest leaf m
          so_rehashed filled leaf m h =
              let k = end_of before filled in
              let its : before ≡ k.front ++ x ∷ [] =
              k.is ∙ ap (λ (y : StampValue). k.front ++ y ∷ []) (sym (found_end before x k ends)) in
              record {
                before = two.0 ++ before ∷ [];
                stamp = s;
                added = two.1 ∙ sym (two_more two.0 before last)
                    ∙ ap (λ (l : Stamps). (two.0 ++ before ∷ []) ++ l ∷ []) alone;
                token_is = h.token_is;
                stood = record {
                  place = last_place two.0 k.front x;
                  there = ap (λ (c : Stamps). two.0 ++ c ∷ []) its;
                  is_last = record { no_stamp = refl; no_chain = refl };
                  by = h.by;
                  hashed = h.hashed ∙ ap (λ (b : List ℕ). digest_of (alg_of digest)
                      (octets_of digest ++ digest_of (alg_of digest) (el 0x30 b))) are;
                  time = h.time;
                };
                fits = h.fits;
              }

          pub not_so_anew : (leaf : Digest) (moment : ℕ) (alg : Alg) (sequence : Digest) → HasTime x moment
              → alg ≡ alg_of digest → alg_of leaf ≡ alg → octets_of sequence ≡ digest_of alg (el 0x30 parts)
              → octets_of leaf ≡ digest_of alg (octets_of digest ++ octets_of sequence)
              → (FitsOver s leaf moment → ⊥) → (d : Digest) (m : ℕ) → AreRehashed chains token digest d m → ⊥
          not_so_anew leaf moment alg sequence time is by of_parts hashed never d m h =
              let so = is_so_anew d m h in
              let times : m ≡ moment = one_time x m moment so.time time in
              never (fits_same d leaf (so.by ∙ sym is ∙ sym by)
              (so.hashed ∙ sym (hashed_by leaf alg sequence is of_parts hashed)) s moment
              (subst (λ (n : ℕ). FitsOver s d n) times so.fits))
            where
              hashed_by : (leaf : Digest) (alg : Alg) (sequence : Digest) → alg ≡ alg_of digest
                  → octets_of sequence ≡ digest_of alg (el 0x30 parts)
                  → octets_of leaf ≡ digest_of alg (octets_of digest ++ octets_of sequence)
                  → octets_of leaf ≡ digest_of (alg_of digest)
                  (octets_of digest ++ digest_of (alg_of digest) (el 0x30 parts))
              hashed_by leaf alg sequence is of_parts hashed =
                  hashed ∙ ap (λ (b : List ℕ). digest_of alg (octets_of digest ++ b)) of_parts
                  ∙ ap (λ (a : Alg). digest_of a (octets_of digest ++ digest_of a (el 0x30 parts))) is

          pub yes_so_anew : before ≢ [] → s.stamp ≡ token → (leaf : Digest) (moment : ℕ) (alg : Alg)
              (sequence : Digest) → HasTime x moment → alg ≡ alg_of digest → alg_of leaf ≡ alg
              → octets_of sequence ≡ digest_of alg (el 0x30 parts)
              → octets_of leaf ≡ digest_of alg (octets_of digest ++ octets_of sequence)
              → FitsOver s leaf moment → AreRehashed chains token digest leaf moment
          yes_so_anew filled token_is leaf moment alg sequence time is by of_parts hashed fits =
              so_rehashed filled leaf moment (record {
                token_is = token_is;
                time = time;
                by = by ∙ is;
                hashed = hashed ∙ ap (λ (b : List ℕ). digest_of alg (octets_of digest ++ b)) of_parts
                    ∙ ap (λ (a : Alg). digest_of a (octets_of digest ++ digest_of a (el 0x30 parts))) is;
                fits = fits;
              })

-- none of the last two chains is empty
pub before_filled : (chains : Chains) (before last : Stamps) → AllByRecursion GoodChain chains
    → AreTwo chains before last → before ≢ []
before_filled chains before last each (front, e) none =
    let all = all_parts GoodChain (front ++ before ∷ []) last
    (subst (λ (l : Chains). AllByRecursion GoodChain l) (e ∙ sym (two_more front before last)) each) in
    (all_parts GoodChain front before all.0).1.some none

-- the parts of the chains before the last are no longer than those of all
pub before_fits : (chains : Chains) (before last : Stamps) (parts : List ℕ) → (two : AreTwo chains before last)
    → parts ≡ chains_parts (two.0 ++ before ∷ []) → HasLength (chains_parts chains) → HasLength parts
before_fits chains before last parts (front, e) are room =
    let all : chains_parts chains ≡ parts ++ chain_element last =
    ap chains_parts (e ∙ sym (two_more front before last))
    ∙ parts_more chain_element (front ++ before ∷ []) last
    ∙ ap (λ (b : List ℕ). b ++ chain_element last) (sym are) in
    let n : length (chains_parts chains) ≡ length parts + length (chain_element last) =
    ap (λ (b : List ℕ). length b) all ∙ length-append parts (chain_element last) in
    omega (arith, n, room)

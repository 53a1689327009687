-- That a record is renewed by a hash tree and a token for each of several data objects.
use Rattle.std.proofs.Common.{◌≡◌, ℕ, zero, suc, List, [], ◌∷◌, ◌++◌, All, Contains, refl, sym, ap, ◌∙◌}
use Rattle.std.proofs.Common.{subst, arith}
use Rattle.std.specs.List.{AllByRecursion, AllZip}
use Rattle.std.proofs.lemmas.List.Elements.{All-from_recursion, recursion_from_All}
use Rattle.digests.specs.Digests.{alg_of}
use Rattle.digests.specs.declared.algorithm.Alg.{Alg}
use Rattle.digests.specs.declared.value.Digest.{Digest}
use Rattle.evidence_types.specs.StampValue.{StampValue}
use Rattle.evidence_types.specs.EvidenceValue.{EvidenceValue}
use Rattle.evidence_types.proofs.EvidenceReaders.{evidence_unique}
use Rattle.check_evidence.specs.Places.{Place, IsIn}
use Rattle.check_evidence.specs.StampStates.{HasTime}
use Rattle.check_evidence.proofs.States.{one_time}
use Rattle.judge_evidence.proofs.Ends.{same_end}
use Rattle.evidence_trees.specs.Groups.{GroupValue}
use Rattle.evidence_making.specs.Done.{AreRehashed, IsRehashedBy, IsRehashedFor}
use Rattle.evidence_making.specs.DoneSteps.{IsForIt, IsNotForAll}
use Rattle.evidence_making.proofs.Groups.{zip_right}
use Rattle.evidence_making.proofs.StandsOn.{one_last}

abbrev Chains : Type 0
Chains = List (List StampValue)

-- ---- one moment

moment_in : (chains : Chains) (token : List ℕ) (d e leaf other : Digest) (m n : ℕ) → AreRehashed chains token d leaf m
    → AreRehashed chains token e other n → m ≡ n
moment_in chains token d e leaf other m n h k =
    let before = (same_end h.before k.before (h.stamp ∷ []) (k.stamp ∷ []) (sym h.added ∙ k.added)).before in
    let same : h.stood.place ≡ k.stood.place = one_last h.before h.stood.place k.stood.place h.stood.there
    h.stood.is_last (subst (λ (c : Chains). IsIn c k.stood.place) (sym before) k.stood.there) k.stood.is_last in
    one_time k.stood.place.stamp m n (subst (λ (p : Place). HasTime p.stamp m) same h.stood.time) k.stood.time

module _ (octets token : List ℕ) where
  pub one_moment : (d e leaf other : Digest) (m n : ℕ) → IsRehashedFor octets token d leaf m
      → IsRehashedFor octets token e other n → m ≡ n
  one_moment d e leaf other m n h k =
      moment_in h.0.chains token d e leaf other m n h.3
      (subst (λ (w : EvidenceValue). AreRehashed w.chains token e other n) (evidence_unique octets k.0 h.0 k.1 h.1) k.3)

  -- ---- for each

  abbrev IsBy : Alg → ℕ → Digest → Digest → Type 0
  IsBy alg m d leaf = (alg_of d ≡ alg) × IsRehashedFor octets token d leaf m

  module _ (alg : Alg) (digest first : Digest) (m : ℕ) (h : IsRehashedFor octets token digest first m) where
    for_others : (others rest : List Digest) → AllByRecursion (λ d. alg_of d ≡ alg) others
        → AllZip (IsForIt octets token) others rest → AllZip (IsBy alg m) others rest
    for_others [] [] by all = tt
    for_others [] (l ∷ rest) by all = absurd all
    for_others (d ∷ others) [] by all = absurd all
    for_others (d ∷ others) (l ∷ rest) by all =
        let same : all.0.0 ≡ m = one_moment d digest l first all.0.0 m all.0.1 h in (
          (by.0, subst (λ (n : ℕ). IsRehashedFor octets token d l n) same all.0.1),
          for_others others rest by.1 all.1,
        )

    pub for_each : (digests others rest leaves : List Digest) → digests ≡ digest ∷ others → leaves ≡ first ∷ rest
        → All (λ d. alg_of d ≡ alg) digests → AllZip (IsForIt octets token) others rest
        → AllZip (IsBy alg m) digests leaves
    for_each digests others rest leaves are these by all =
        let each = recursion_from_All (λ d. alg_of d ≡ alg) (digest ∷ others)
        (subst (λ (l : List Digest). All (λ d. alg_of d ≡ alg) l) are by) in
        subst (λ (l : List Digest). AllZip (IsBy alg m) l leaves) (sym are)
        (subst (λ (l : List Digest). AllZip (IsBy alg m) (digest ∷ others) l) (sym these)
        ((each.0, h), for_others others rest each.1 all))

  -- the leaves are by the algorithm
  leaf_by : (alg : Alg) (m : ℕ) (d leaf : Digest) → IsBy alg m d leaf → alg_of leaf ≡ alg
  leaf_by alg m d leaf h = h.1.3.stood.by ∙ h.0

  pub leaves_by_all : (alg : Alg) (m : ℕ) (digests leaves : List Digest) → AllZip (IsBy alg m) digests leaves
      → All (λ d. alg_of d ≡ alg) leaves
  leaves_by_all alg m digests leaves all = All-from_recursion (λ d. alg_of d ≡ alg) leaves
      (zip_right (IsBy alg m) (λ d. alg_of d ≡ alg) digests leaves (leaf_by alg m) all)

  pub lead_at : (alg : Alg) (digests : List Digest) (group : GroupValue) (m n : ℕ) → m ≡ n
      → IsRehashedBy octets token alg digests group m → IsRehashedBy octets token alg digests group n
  lead_at alg digests group m n same h = subst (λ (k : ℕ). IsRehashedBy octets token alg digests group k) same h

  -- ---- not for each

  not_first_in : (alg : Alg) (m : ℕ) (digest : Digest) (others leaves : List Digest)
      → ((leaf : Digest) (n : ℕ) → IsRehashedFor octets token digest leaf n → ⊥)
      → AllZip (IsBy alg m) (digest ∷ others) leaves → ⊥
  not_first_in alg m digest others [] never all = absurd all
  not_first_in alg m digest others (l ∷ leaves) never all = never l m all.0.1

  pub not_first : (alg : Alg) (digests others : List Digest) (digest : Digest) → digests ≡ digest ∷ others
      → ((leaf : Digest) (n : ℕ) → IsRehashedFor octets token digest leaf n → ⊥) → (group : GroupValue) (m : ℕ)
      → IsRehashedBy octets token alg digests group m → ⊥
  not_first alg digests others digest are never group m h = not_first_in alg m digest others h.leaves never
      (subst (λ (l : List Digest). AllZip (IsBy alg m) l h.leaves) are h.each)

  not_one_in : (alg : Alg) (m : ℕ) (d : Digest) (digests leaves : List Digest)
      → ((leaf : Digest) (n : ℕ) → IsRehashedFor octets token d leaf n → ⊥) → Contains digests d
      → AllZip (IsBy alg m) digests leaves → ⊥
  not_one_in alg m d [] leaves never c all = absurd (omega (arith, c.1))
  not_one_in alg m d (e ∷ digests) [] never c all = absurd all
  not_one_in alg m d (e ∷ digests) (l ∷ leaves) never (zero, below, is) all =
      never l m (subst (λ (x : Digest). IsRehashedFor octets token x l m) is all.0.1)
  not_one_in alg m d (e ∷ digests) (l ∷ leaves) never (suc j, below, is) all =
      not_one_in alg m d digests leaves never (j, omega (arith, below), is) all.1

  pub not_all : (alg : Alg) (digests others : List Digest) (digest : Digest) → digests ≡ digest ∷ others
      → IsNotForAll octets token others → (group : GroupValue) (m : ℕ)
      → IsRehashedBy octets token alg digests group m → ⊥
  not_all alg digests others digest are (d, c, never) group m h =
      not_one_in alg m d (digest ∷ others) h.leaves never
      (suc c.0, omega (arith, c.1), c.2)
      (subst (λ (l : List Digest). AllZip (IsBy alg m) l h.leaves) are h.each)

-- one of a list that is cut
pub in_middle : (xs past left behind : List Digest) (d : Digest) → xs ≡ past ++ left → left ≡ d ∷ behind → Contains xs d
in_middle xs past left behind d are cut = subst (λ (l : List Digest). Contains l d)
    (sym (are ∙ ap (λ (l : List Digest). past ++ l) cut)) (go past)
  where
    go : (past : List Digest) → Contains (past ++ d ∷ behind) d
    go [] = (0, omega arith, refl)
    go (e ∷ past) = let c = go past in (suc c.0, omega (arith, c.1), c.2)

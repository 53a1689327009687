-- Digests that stand one after the other, and what a token stamps of a tree over them.
use Rattle.std.proofs.Common.{◌≡◌, ◌≢◌, ◌↔◌, ◌<◌, ◌+◌, ℕ, List, [], ◌∷◌, ◌++◌, length, map}
use Rattle.std.proofs.Common.{Result, Ok, Err, IfErr, IfOk, take, drop, refl, sym, ap, ◌∙◌, subst, inl, inr, arith}
use Rattle.std.proofs.Common.{append_assoc, append-nil, length-append, All}
use Rattle.std.specs.Prelude.{MatchResult}
use Rattle.std.specs.List.{AllByRecursion, concat}
use Rattle.std.proofs.lemmas.List.{take-append-drop}
use Rattle.std.proofs.lemmas.List.Elements.{All-push}
use Rattle.digests.specs.Algorithms.{length_of}
use Rattle.digests.specs.Digests.{alg_of, octets_of}
use Rattle.digests.specs.declared.algorithm.Alg.{Alg}
use Rattle.digests.specs.declared.algorithm.Alg.TheVariants as alg
use Rattle.digests.specs.declared.value.Digest.{Digest}
use Rattle.evidence_making.specs.Stamping.{IsNoToken, StampsAnother}
use Rattle.library_records.specs.TreeRenewals.{IsRootOf}
use Rattle.evidence_making.specs.declared.fault.StampFault.{StampFault}
use Rattle.evidence_making.specs.declared.fault.StampFault.TheVariants as stamp
use Rattle.evidence_trees.specs.HashTrees.{HashTree}
use Rattle.cli_failures.specs.declared.failure.Failure.{Failure}
use Rattle.cli_failures.specs.declared.failure.Failure.TheVariants as failure
use Rattle.library_answers.specs.declared.answer.Answer.{Answer}
use Rattle.library_answers.specs.Failures.{IsMade, IsUnmade}
use Rattle.library_records.specs.Trees.{AreDigests, StampsNot, IsToldOf}

-- each algorithm gives octets
pub some_octets : (a : Alg) → 0 < length_of a
some_octets alg.Sha1 = omega arith
some_octets alg.Sha224 = omega arith
some_octets alg.Sha256 = omega arith
some_octets alg.Sha384 = omega arith
some_octets alg.Sha512 = omega arith
some_octets alg.Sha512_224 = omega arith
some_octets alg.Sha512_256 = omega arith

abbrev AreSized : ℕ → List (List ℕ) → Type 0
AreSized size values = AllByRecursion (λ v. length v ≡ size) values

-- values of one size, and fewer octets than one more has, are never as many octets as values of this size
no_rest : (size : ℕ) (vs ws : List (List ℕ)) (rest : ℕ) → AreSized size vs → AreSized size ws
    → length (concat vs) + rest ≡ length (concat ws) → 0 < rest → rest < size → ⊥
no_rest size [] [] rest a b is some few = omega (arith, is, some)
no_rest size [] (w ∷ ws) rest a b is some few =
    let long : length (w ++ concat ws) ≡ length w + length (concat ws) = length-append w (concat ws) in
    let one : length w ≡ size = b.0 in
    let e : 0 + rest ≡ length (w ++ concat ws) = is in
    omega (arith, long, one, e, few)
no_rest size (v ∷ vs) [] rest a b is some few =
    let e : length (v ++ concat vs) + rest ≡ 0 = is in
    omega (arith, e, some)
no_rest size (v ∷ vs) (w ∷ ws) rest a b is some few =
    let long : length (v ++ concat vs) ≡ length v + length (concat vs) = length-append v (concat vs) in
    let other : length (w ++ concat ws) ≡ length w + length (concat ws) = length-append w (concat ws) in
    let one : length v ≡ size = a.0 in
    let its : length w ≡ size = b.0 in
    let e : length (v ++ concat vs) + rest ≡ length (w ++ concat ws) = is in
    let f : length (concat vs) + rest ≡ length (concat ws) = omega (arith, long, other, one, its, e) in
    no_rest size vs ws rest a.1 b.1 f some few

joined_push : (values : List (List ℕ)) (v : List ℕ) → concat (values ++ v ∷ []) ≡ concat values ++ v
joined_push [] v = append-nil v
joined_push (w ∷ values) v =
    ap (λ (l : List ℕ). w ++ l) (joined_push values v) ∙ sym (append_assoc w (concat values) v)

sized_push : (size : ℕ) (values : List (List ℕ)) (v : List ℕ) → AreSized size values → length v ≡ size
    → AreSized size (values ++ v ∷ [])
sized_push size [] v are is = (is, tt)
sized_push size (w ∷ values) v are is = (are.0, sized_push size values v are.1 is)

map_push : (digests : List Digest) (d : Digest) → map octets_of (digests ++ d ∷ [])
    ≡ map octets_of digests ++ octets_of d ∷ []
map_push [] d = refl
map_push (e ∷ digests) d = ap (λ (l : List (List ℕ)). octets_of e ∷ l) (map_push digests d)

-- the digests so far, and the octets that are left, are all
pub record DigestsUntil (a : Alg) (octets left : List ℕ) (digests : List Digest) : Type 0 where
  pub joined : concat (map octets_of digests) ++ left ≡ octets
  pub sized : AllByRecursion (λ v. length v ≡ length_of a) (map octets_of digests)
  pub by : All (λ (d : Digest). alg_of d ≡ a) digests

pub no_digest_yet : (a : Alg) (octets : List ℕ) (digests : List Digest) → digests ≡ []
    → DigestsUntil a octets octets digests
no_digest_yet a octets digests none = record {
  joined = ap (λ (ds : List Digest). concat (map octets_of ds) ++ octets) none;
  sized = subst (λ (ds : List Digest). AllByRecursion (λ (v : List ℕ). length v ≡ length_of a) (map octets_of ds))
      (sym none) tt;
  by = subst (λ (ds : List Digest). All (λ (d : Digest). alg_of d ≡ a) ds) (sym none) (λ k d lt. absurd (omega arith));
}

pub next_digest : (a : Alg) (octets left first others : List ℕ) (digests more : List Digest) (d : Digest) (size : ℕ)
    → first ≡ take size left → others ≡ drop size left → length (octets_of d) ≡ length_of a → octets_of d ≡ first
    → alg_of d ≡ a → more ≡ digests ++ d ∷ [] → DigestsUntil a octets left digests
    → DigestsUntil a octets others more
next_digest a octets left first others digests more d size front back long is by longer until = record {
  joined =
      ap (λ (ds : List Digest). concat (map octets_of ds) ++ others) longer
      ∙ (ap (λ (l : List (List ℕ)). concat l ++ others) (map_push digests d)
      ∙ (ap (λ (l : List ℕ). l ++ others) (joined_push (map octets_of digests) (octets_of d))
      ∙ (append_assoc (concat (map octets_of digests)) (octets_of d) others
      ∙ (ap (λ (l : List ℕ). concat (map octets_of digests) ++ l) whole ∙ until.joined))));
  sized = subst (λ (ds : List Digest). AllByRecursion (λ (v : List ℕ). length v ≡ length_of a) (map octets_of ds))
      (sym longer) (subst (λ (l : List (List ℕ)). AllByRecursion (λ (v : List ℕ). length v ≡ length_of a) l)
      (sym (map_push digests d)) (sized_push (length_of a) (map octets_of digests) (octets_of d) until.sized long));
  by = subst (λ (ds : List Digest). All (λ (x : Digest). alg_of x ≡ a) ds) (sym longer)
      (All-push (λ (x : Digest). alg_of x ≡ a) digests d until.by by);
}
  where
    whole : octets_of d ++ others ≡ left
    whole = ap (λ (l : List ℕ). l ++ others) (is ∙ front) ∙ (ap (λ (l : List ℕ). take size left ++ l) back
        ∙ take-append-drop size left)

-- there are digests, if there are octets
some_mapped : (ds : List Digest) (octets : List ℕ) → concat (map octets_of ds) ≡ octets → 0 < length octets
    → 0 < length (map octets_of ds)
some_mapped [] octets is some = let e : 0 ≡ length octets = ap (λ (l : List ℕ). length l) is in absurd (omega arith)
some_mapped (d ∷ ds) octets is some = omega arith

-- digests have octets
no_octets : (a : Alg) (vs : List (List ℕ)) → 0 < length vs → AllByRecursion (λ v. length v ≡ length_of a) vs
    → length (concat vs) ≡ 0 → ⊥
no_octets a [] some sized is = absurd (omega arith)
no_octets a (v ∷ vs) some sized is =
    let long : length v ≡ length_of a = sized.0 in
    let all : length (v ++ concat vs) ≡ length v + length (concat vs) = length-append v (concat vs) in
    let none : length (v ++ concat vs) ≡ 0 = is in
    let size : 0 < length_of a = some_octets a in
    omega (arith, long, all, none, size)

module _ (a : Alg) (octets left : List ℕ) (digests : List Digest) (until : DigestsUntil a octets left digests) where
  pub are_digests : left ≡ [] → 0 < length octets → AreDigests a octets (map octets_of digests)
  are_digests none some =
      let joined : concat (map octets_of digests) ≡ octets = sym (append-nil (concat (map octets_of digests)))
      ∙ (ap (λ (l : List ℕ). concat (map octets_of digests) ++ l) (sym none) ∙ until.joined) in
      record { some = some_mapped digests octets joined some; sized = until.sized; joined = joined }

  -- some octets are left, fewer than a digest has
  pub cut_digest : 0 < length left → length left < length_of a → (others : List (List ℕ)) → AreDigests a octets others
      → ⊥
  cut_digest some few others are =
      let all : length (concat (map octets_of digests) ++ left)
      ≡ length (concat (map octets_of digests)) + length left =
      length-append (concat (map octets_of digests)) left in
      let same : length (concat (map octets_of digests) ++ left) ≡ length (concat others) =
      ap (λ (l : List ℕ). length l) (until.joined ∙ sym are.joined) in
      no_rest (length_of a) (map octets_of digests) others (length left) until.sized are.sized (sym all ∙ same) some few

-- there is none in no octets
pub no_digest : (a : Alg) (octets : List ℕ) → length octets ≡ 0 → (others : List (List ℕ))
    → AreDigests a octets others → ⊥
no_digest a octets none others are =
    no_octets a others are.some are.sized (ap (λ (l : List ℕ). length l) are.joined ∙ none)

-- ---- tokens

-- why a token doesn't stamp the root, by the fault that is returned
pub stamps_not : (tree : HashTree) (token : List ℕ) (root : Digest) → IsRootOf tree root → (r : Result ℕ StampFault)
    → (fault : StampFault) → r ≡ Err fault
    → (r ≡ Err stamp.TokenMalformed) ↔ IsNoToken token → (r ≡ Err stamp.ImprintDiffers) ↔ StampsAnother token root
    → r ≢ Err stamp.Order → StampsNot tree token (failure.Unstamping fault)
stamps_not tree token root is_root r stamp.TokenMalformed is malformed differs order =
    (root, is_root, inl (refl, malformed.0 is))
stamps_not tree token root is_root r stamp.ImprintDiffers is malformed differs order =
    (root, is_root, inr (refl, differs.0 is))
stamps_not tree token root is_root r stamp.Order is malformed differs order = absurd (order is)

-- ---- what is told

module _ (Is : List ℕ → Type 0) (Not : Failure → Type 0) (said : Answer) (status : ℕ) (before : List ℕ) (size : ℕ)
    (after : List ℕ) where
  pub told_made : (octets put : List ℕ) → put ≡ octets → Is octets → IsMade put said status before size after
      → IsToldOf Is Not said status before size after
  told_made octets put same is made = inl (
    octets,
    is,
    subst (λ (x : List ℕ). IsMade x said status before size after)
        same made,
  )

  pub told_unmade : (f : Failure) → Not f → IsUnmade f said status before size after
      → IsToldOf Is Not said status before size after
  told_unmade f not unmade = inr (f, not, unmade)

  -- the same of a result, seen as octets
  pub told : {V : Type 0} (items : V → List ℕ) (made : Result V Failure) → IfOk made (λ v. Is (items v))
      → IfErr made Not
      → MatchResult made (λ v. IsMade (items v) said status before size after)
      (λ f. IsUnmade f said status before size after) → IsToldOf Is Not said status before size after
  told items (Ok v) is not telling = inl (items v, is, telling)
  told items (Err f) is not telling = inr (f, not, telling)

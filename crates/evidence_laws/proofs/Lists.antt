-- What is asked of lists of hash values can be decided, and lists that cover what they must have a root.
use Rattle.std.proofs.Common.{◌≡◌, ◌≢◌, ℕ, ◌<◌, List, [], ◌∷◌, Option, Some, None, map, length, get_or, refl, sym}
use Rattle.std.proofs.Common.{subst, arith, inl, inr, unwrap_or}
use Rattle.std.specs.Prelude.{All, Any, Contains, ◌==◌}
use Rattle.std.specs.List.{concat}
use Rattle.std.proofs.lemmas.Bool.{eqb-true, eq-eqb}
use Rattle.std.proofs.lemmas.List.Elements.{All-nil, All-cons, All-head, All-tail}
use Rattle.digests.specs.Algorithms.{length_of}
use Rattle.digests.specs.Messages.{digest_of}
use Rattle.digests.specs.declared.algorithm.Alg.{Alg}
use Rattle.evidence_types.specs.StampValue.{StampValue}
use Rattle.check_names.proofs.Deciding.{Decided, in_words, is_true, octets_same}
use Rattle.check_verdict.proofs.Lists.{any_never}
use Rattle.check_verdict.proofs.Deciding.{find_any}
use Rattle.check_evidence.specs.Places.{Place, last_of}
use Rattle.check_evidence.specs.Covering.{covered_of, covered_after, covered_at}
use Rattle.check_evidence.specs.Roots.{IsNode, IsRoot, IsRootAfter, AreOne, IsCovered, HasNoOthers}
use Rattle.check_evidence.specs.Standing.{HasLengths}
use Rattle.evidence_laws.proofs.Orders.{ordered}

abbrev Values : Type 0
Values = List (List ℕ)

pub not_empty : {A : Type 0} (x : A) (xs : List A) → x ∷ xs ≢ []
not_empty x xs e = cc

-- each of a list, where of each it can be decided
pub all_decided : {A : Type 0} (P : A → Type 0) → ((x : A) → Decided (P x)) → (xs : List A) → Decided (All P xs)
all_decided P decide [] = inl (All-nil P)
all_decided P decide (x ∷ xs) = go (decide x) (all_decided P decide xs)
  where
    go : Decided (P x) → Decided (All P xs) → Decided (All P (x ∷ xs))
    go (inr other) d = inr (λ h. other (All-head P x xs h))
    go (inl p) (inr other) = inr (λ h. other (All-tail P x xs h))
    go (inl p) (inl rest) = inl (All-cons P x xs p rest)

-- one of them
pub any_decided : {A : Type 0} (P : A → Type 0) → ((x : A) → Decided (P x)) → (xs : List A) → Decided (Any P xs)
any_decided P decide xs = elim (find_any P xs (λ x c. decide x)) [
  | inl any ↦ inl any
  | inr none ↦ inr (λ any. any_never P xs any none)
]

-- ---- lengths, what is covered, what stands beside

same_numbers : (m n : ℕ) → Decided (m ≡ n)
same_numbers m n = in_words (eqb-true m n) (eq-eqb m n) (is_true (m == n))

pub lengths : (lists : Option (List Values)) (alg : Alg) → Decided (HasLengths lists alg)
lengths lists alg = all_decided (All (λ (v : List ℕ). length v ≡ length_of alg))
    (all_decided (λ (v : List ℕ). length v ≡ length_of alg) (λ v. same_numbers (length v) (length_of alg)))
    (unwrap_or lists [])

abbrev SomeOne : Values → Type 0
SomeOne covered = (value : List ℕ) × AreOne covered value

are_one : (covered : Values) → Decided (SomeOne covered)
are_one [] = inr (λ h. absurd (let l : h.1.some.0 < 0 = h.1.some.1 in omega arith))
are_one (v ∷ covered) = in_words
    (λ h. (v, record { some = (0, omega arith, refl); only = All-cons (λ w. w ≡ v) v covered refl h }))
    (λ h. let is : v ≡ h.0 = All-head (λ w. w ≡ h.0) v covered h.1.only in
    subst (λ (x : List ℕ). All (λ w. w ≡ x) covered) (sym is) (All-tail (λ w. w ≡ h.0) v covered h.1.only))
    (all_decided (λ (w : List ℕ). w ≡ v) (λ w. octets_same w v) covered)

among : (values : Values) (v : List ℕ) → Decided (Contains values v)
among values v = in_words
    (λ (i, w, within, is, same). (i, within, subst (λ (x : List ℕ). get_or values i x ≡ x) same is))
    (λ (i, within, is). (i, v, within, is, refl))
    (any_decided (λ (w : List ℕ). w ≡ v) (λ w. octets_same w v) values)

all_among : (values covered : Values) → Decided (All (Contains values) covered)
all_among values covered = all_decided (Contains values) (among values) covered

pub covered : (lists : Option (List Values)) (values : Values) → Decided (IsCovered lists values)
covered None values = are_one values
covered (Some []) values = inr (λ h. h)
covered (Some (first ∷ lists)) values = all_among first values

pub no_others : (lists : Option (List Values)) (values : Values) → Decided (HasNoOthers lists values)
no_others None values = inl tt
no_others (Some []) values = inl tt
no_others (Some (first ∷ lists)) values = all_among values first

-- ---- roots

node_of : (alg : Alg) (v : List ℕ) (values : Values) → (node : List ℕ) × IsNode alg (v ∷ values) node
node_of alg v [] = (v, refl)
node_of alg v (w ∷ values) =
    let o = ordered (v ∷ w ∷ values) in
    (digest_of alg (concat o.0), record { ordered = o.0; in_order = o.1; hashed = refl })

root_after : (alg : Alg) (node : List ℕ) (lists : List Values) → (root : List ℕ) × IsRootAfter alg node lists root
root_after alg node [] = (node, refl)
root_after alg node (values ∷ lists) =
    let next = node_of alg node values in
    let root = root_after alg next.0 lists in
    (root.0, (next.0, next.1, root.1))

-- lists that cover some value have a root
pub root_of : (alg : Alg) (lists : Option (List Values)) (covered : Values) → covered ≢ [] → IsCovered lists covered
    → (root : List ℕ) × IsRoot alg lists covered root
root_of alg None covered some h = h
root_of alg (Some []) covered some h = absurd h
root_of alg (Some ([] ∷ lists)) [] some h = absurd (some refl)
root_of alg (Some ([] ∷ lists)) (v ∷ covered) some h =
    let c = All-head (Contains []) v covered h in absurd (let l : c.0 < 0 = c.1 in omega arith)
root_of alg (Some ((v ∷ values) ∷ lists)) covered some h =
    let first = node_of alg v values in
    let root = root_after alg first.0 lists in
    (root.0, (first.0, first.1, root.1))

-- something must be covered, if there are data
covers_some : (alg : Alg) (before : Option StampValue) (earlier : List (List StampValue)) (ds : Values) → ds ≢ []
    → covered_after alg before earlier ds ≢ []
covers_some alg (Some s) earlier ds some = not_empty (digest_of alg s.stamp) []
covers_some alg None earlier [] some = absurd (some refl)
covers_some alg None earlier (d ∷ ds) some = not_empty (covered_of alg earlier d) (map (covered_of alg earlier) ds)

pub must_cover_some : (alg : Alg) (ds : Values) (p : Place) → ds ≢ [] → covered_at alg ds p ≢ []
must_cover_some alg ds p some = covers_some alg (last_of p.before) p.earlier ds some

-- The parts of octets, and their digests, one after the other.
use Rattle.std.proofs.Common.{◌≡◌, ◌+◌, ◌-◌, ◌≤◌, ℕ, List, [], ◌∷◌, ◌++◌, length, take, drop, refl}
use Rattle.std.proofs.Common.{sym, ap, ◌∙◌, subst, append_assoc, append-nil, arith, length-drop}
use Rattle.std.specs.Prelude.{sum}
use Rattle.std.specs.List.{AllByRecursion}
use Rattle.std.proofs.lemmas.List.Sums.{sum_by-cons}
use Rattle.digests.specs.Selection.{AreOfWanted, set_given}
use Rattle.digests.specs.declared.set.Algs.{Algs}
use Rattle.digests.specs.declared.selection.WantedDigests.{WantedDigests}
use Rattle.judge_evidence.specs.Data.{AreOfData}
use Rattle.library_records.specs.Stated.{parts_of}

abbrev pub AreBy : Algs → List WantedDigests → Type 0
AreBy wanted digests = AllByRecursion (λ d. set_given d ≡ wanted) digests

-- the digests so far, and those of the parts that are left, are all
pub record DigestsSoFar (wanted : Algs) (lengths joined left octets : List ℕ) (digests : List WantedDigests)
    : Type 0 where
  pub sums : sum left ≡ length octets
  pub are : (others : List WantedDigests) → AreOfData others (parts_of left octets)
      → AreOfData (digests ++ others) (parts_of lengths joined)
  pub by : AreBy wanted digests

sum_cons : (n : ℕ) (ns : List ℕ) → sum (n ∷ ns) ≡ n + sum ns
sum_cons n ns = sum_by-cons (λ (x : ℕ). x) n ns

pub first_fits : (left octets others : List ℕ) (n : ℕ) → left ≡ n ∷ others → sum left ≡ length octets
    → n ≤ length octets
first_fits left octets others n is sums =
    let e : sum (n ∷ others) ≡ length octets = subst (λ (l : List ℕ). sum l ≡ length octets) is sums in
    let f : sum (n ∷ others) ≡ n + sum others = sum_cons n others in
    omega arith

by_one : (wanted : Algs) (digests : List WantedDigests) (d : WantedDigests) → AreBy wanted digests
    → set_given d ≡ wanted → AreBy wanted (digests ++ d ∷ [])
by_one wanted [] d h e = (e, tt)
by_one wanted (x ∷ digests) d h e = (h.0, by_one wanted digests d h.1 e)

pub no_digests : (wanted : Algs) (lengths joined : List ℕ) (digests : List WantedDigests) → digests ≡ []
    → sum lengths ≡ length joined → DigestsSoFar wanted lengths joined lengths joined digests
no_digests wanted lengths joined digests none sums = record {
  sums = sums;
  are = λ others h. subst (λ (l : List WantedDigests). AreOfData (l ++ others) (parts_of lengths joined)) (sym none) h;
  by = subst (AreBy wanted) (sym none) tt;
}

pub one_digest : (wanted : Algs) (lengths joined left octets others part behind : List ℕ)
    (digests more : List WantedDigests) (n : ℕ) (d : WantedDigests) → left ≡ n ∷ others → part ≡ take n octets
    → behind ≡ drop n octets → more ≡ digests ++ d ∷ [] → set_given d ≡ wanted → AreOfWanted d part
    → DigestsSoFar wanted lengths joined left octets digests → DigestsSoFar wanted lengths joined others behind more
one_digest wanted lengths joined left octets others part behind digests more n d is front back longer set of h =
    record {
      sums =
          let e : sum (n ∷ others) ≡ length octets = subst (λ (l : List ℕ). sum l ≡ length octets) is h.sums in
          let f : sum (n ∷ others) ≡ n + sum others = sum_cons n others in
          let k : length behind ≡ length octets - n = ap (λ (l : List ℕ). length l) back ∙ length-drop n octets in
          omega arith;
      are = λ rest are.
          subst (λ (l : List WantedDigests). AreOfData (l ++ rest) (parts_of lengths joined)) (sym longer)
          (subst (λ (l : List WantedDigests). AreOfData l (parts_of lengths joined))
          (sym (append_assoc digests (d ∷ []) rest))
          (h.are (d ∷ rest) (subst (λ (l : List ℕ). AreOfData (d ∷ rest) (parts_of l octets)) (sym is)
          (subst (AreOfWanted d) front of, subst (λ (l : List ℕ). AreOfData rest (parts_of others l)) back are))));
      by = subst (AreBy wanted) (sym longer) (by_one wanted digests d h.by set);
    }

pub all_digests : (wanted : Algs) (lengths joined left octets : List ℕ) (digests : List WantedDigests) → left ≡ []
    → DigestsSoFar wanted lengths joined left octets digests → AreOfData digests (parts_of lengths joined)
all_digests wanted lengths joined left octets digests none h =
    subst (λ (l : List WantedDigests). AreOfData l (parts_of lengths joined)) (append-nil digests)
    (h.are [] (subst (λ (l : List ℕ). AreOfData [] (parts_of l octets)) (sym none) tt))

pub nil_of : {A : Type 0} (xs : List A) → length xs ≡ 0 → xs ≡ []
nil_of [] h = refl
nil_of (x ∷ xs) h = absurd (omega arith)

-- The tests of lists say what the definitions say.
use Rattle.std.proofs.Common.{◌≡◌, ℕ, ◌<◌, Bool, Some, None, Option, true, false, List, [], ◌∷◌, length, get_or}
use Rattle.std.proofs.Common.{refl, sym}
use Rattle.std.proofs.Common.{subst, arith, ◌∙◌, is_some, MatchOption}
use Rattle.std.specs.Prelude.{◌↔◌, ◌≢◌, IsTrue, IfSome, All, Contains, ◌==◌}
use Rattle.std.specs.List.{list_all}
use Rattle.std.proofs.lemmas.Bool.{and_parts, and_from, eqb-true, eq-eqb}
use Rattle.std.proofs.lemmas.List.Elements.{All-nil, All-cons, All-head, All-tail}
use Rattle.std.proofs.lemmas.List.Folds.{Any-from_list_any, list_any_at}
use Rattle.der_core.specs.Lists.{is_same}
use Rattle.der_core.proofs.Encoded.{same}
use Rattle.der_core.proofs.SameOctets.{same_again}
use Rattle.check_evidence.specs.FirstValues.{HasFirst}
use Rattle.check_evidence.specs.ListTests.{is_among, are_long}
use Rattle.digests.specs.Algorithms.{length_of}
use Rattle.digests.specs.Digests.{octets_of}
use Rattle.digests.specs.declared.value.Digest.{Digest}
use Rattle.digests.specs.declared.algorithm.Alg.{Alg}
use Rattle.check_evidence.specs.Roots.{AreOne, IsCovered, HasNoOthers}
use Rattle.check_evidence.specs.Standing.{HasLengths}

-- a test of each of a list says what it says of one
pub all_say : {A : Type 0} (test : A → Bool) (P : A → Type 0) → ((x : A) → IsTrue (test x) ↔ P x) → (xs : List A)
    → IsTrue (list_all test xs) ↔ All P xs
all_say test P says [] = (λ h. All-nil P, λ h. refl)
all_say test P says (x ∷ xs) = (
  λ h. let p = and_parts (test x) (list_all test xs) h in
      All-cons P x xs ((says x).0 p.0) ((all_say test P says xs).0 p.1),
  λ h. and_from (test x) (list_all test xs) ((says x).1 (All-head P x xs h))
      ((all_say test P says xs).1 (All-tail P x xs h)),
)

pub among_says : (values : List (List ℕ)) (v : List ℕ) → IsTrue (is_among values v) ↔ Contains values v
among_says values v = (
  λ h. let a = Any-from_list_any (is_same v) values h in
      let is : v ≡ a.1 = same v a.1 a.4 in
      (a.0, a.2, subst (λ (x : List ℕ). get_or values a.0 x ≡ x) (sym is) a.3),
  λ c. list_any_at (is_same v) values c.0 v c.1
      (subst (λ (x : List ℕ). is_same v x ≡ true) (sym c.2) (same_again v)),
)

pub long_says : (count : ℕ) (values : List (List ℕ)) → IsTrue (are_long count values)
    ↔ All (λ v. length v ≡ count) values
long_says count values = all_say (λ v. length v == count) (λ v. length v ≡ count)
    (λ v. (λ h. eqb-true (length v) count h, λ e. eq-eqb (length v) count e)) values

same_says : (v w : List ℕ) → IsTrue (is_same v w) ↔ (w ≡ v)
same_says v w = (
  λ h. sym (same v w h),
  λ e. subst (λ (x : List ℕ). is_same v x ≡ true) (sym e) (same_again v),
)

-- values are one, the first, if each other has its octets
pub one_says : (v : List ℕ) (rest due : List (List ℕ)) → due ≡ v ∷ rest → list_all (is_same v) rest ≡ true
    → AreOne due v
one_says v rest due e all = subst (λ (l : List (List ℕ)). AreOne l v) (sym e) (record {
  some = (0, omega arith, refl);
  only = All-cons (λ w. w ≡ v) v rest refl ((all_say (is_same v) (λ w. w ≡ v) (same_says v) rest).0 all);
})

-- and only then
pub one_only : (v : List ℕ) (rest due : List (List ℕ)) → due ≡ v ∷ rest → list_all (is_same v) rest ≡ false
    → (w : List ℕ) → AreOne due w → ⊥
one_only v rest due e some w one =
    let P : List ℕ → Type 0 = λ x. x ≡ w in
    let all : All P (v ∷ rest) = subst (λ (l : List (List ℕ)). All P l) e one.only in
    let is : v ≡ w = All-head P v rest all in
    let same : list_all (is_same v) rest ≡ true = (all_say (is_same v) (λ x. x ≡ v) (same_says v) rest).1
    (subst (λ (y : List ℕ). All (λ x. x ≡ y) rest) (sym is) (All-tail P v rest all)) in
    let differ : true ≡ false = sym same ∙ some in
    cc

pub never_one : (due : List (List ℕ)) → due ≡ [] → (w : List ℕ) → AreOne due w → ⊥
never_one due e w one =
    let c = subst (λ (l : List (List ℕ)). Contains l w) e one.some in
    let l : c.0 < 0 = c.1 in
    omega arith

-- ---- the lists of an archive time-stamp

abbrev Values : Type 0
Values = List (List ℕ)

-- a test that has this value says what the value says
told : (r b : Bool) (P : Type 0) → r ≡ b → IsTrue b ↔ P → IsTrue r ↔ P
told r b P e says = (λ h. says.0 (sym e ∙ h), λ h. e ∙ says.1 h)

pub lengths_of : (lists : Option (List Values)) (all : List Values) (alg : Alg) (r : Bool) → lists ≡ Some all
    → r ≡ list_all (are_long (length_of alg)) all → IsTrue r ↔ HasLengths lists alg
lengths_of lists all alg r e is = subst (λ (ls : Option (List Values)). IsTrue r ↔ HasLengths ls alg) (sym e)
    (told r (list_all (are_long (length_of alg)) all) (HasLengths (Some all) alg) is
    (all_say (are_long (length_of alg)) (All (λ v. length v ≡ length_of alg)) (long_says (length_of alg)) all))

pub covered_by : (lists : Option (List Values)) (first : Values) (rest : List Values) (covered : Values) (r : Bool)
    → lists ≡ Some (first ∷ rest) → r ≡ list_all (is_among first) covered → IsTrue r ↔ IsCovered lists covered
covered_by lists first rest covered r e is =
    subst (λ (ls : Option (List Values)). IsTrue r ↔ IsCovered ls covered) (sym e)
    (told r (list_all (is_among first) covered) (All (Contains first) covered) is
    (all_say (is_among first) (Contains first) (among_says first) covered))

-- without lists the values are covered if they are one
pub one_covered : (lists : Option (List Values)) (due : Values) (o : Option Digest) (r : Bool) → lists ≡ None
    → MatchOption o ((v : List ℕ) → AreOne due v → ⊥) (λ d. AreOne due (octets_of d)) → r ≡ is_some o
    → IsTrue r ↔ IsCovered lists due
one_covered lists due o r e one is = subst (λ (ls : Option (List Values)). IsTrue r ↔ IsCovered ls due) (sym e)
    (told r (is_some o) ((v : List ℕ) × AreOne due v) is (says o one))
  where
    says : (o : Option Digest) → MatchOption o ((v : List ℕ) → AreOne due v → ⊥) (λ d. AreOne due (octets_of d))
        → IsTrue (is_some o) ↔ ((v : List ℕ) × AreOne due v)
    says None never = (λ h. absurd cc, λ h. absurd (never h.0 h.1))
    says (Some d) one = (λ h. (octets_of d, one), λ h. refl)

pub no_others : (lists : Option (List Values)) (first : Values) (rest : List Values) (covered : Values) (r : Bool)
    → lists ≡ Some (first ∷ rest) → r ≡ list_all (is_among covered) first → IsTrue r ↔ HasNoOthers lists covered
no_others lists first rest covered r e is =
    subst (λ (ls : Option (List Values)). IsTrue r ↔ HasNoOthers ls covered) (sym e)
    (told r (list_all (is_among covered) first) (All (Contains covered) first) is
    (all_say (is_among covered) (Contains covered) (among_says covered) first))

-- what covers a value has a first value
pub covers_first : (lists : Option (List Values)) (due : Values) → IsCovered lists due → due ≢ []
    → IfSome lists HasFirst
covers_first None due h some = tt
covers_first (Some []) due h some = absurd h
covers_first (Some (values ∷ lists)) [] h some = absurd (some refl)
covers_first (Some ([] ∷ lists)) (v ∷ due) h some =
    let c : Contains [] v = All-head (Contains []) v due h in
    let l : c.0 < 0 = c.1 in
    absurd (omega arith)
covers_first (Some ((w ∷ values) ∷ lists)) (v ∷ due) h some = tt

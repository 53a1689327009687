-- Without lists the root is the one value that is covered.
use Rattle.std.proofs.Common.{◌≡◌, ℕ, List, Option, Some, None, MatchOption, sym, subst, refl}
use Rattle.std.specs.Prelude.{IfSome, IfNone, IsSome}
use Rattle.digests.specs.Digests.{octets_of}
use Rattle.digests.specs.declared.algorithm.Alg.{Alg}
use Rattle.digests.specs.declared.value.Digest.{Digest}
use Rattle.check_evidence.specs.Roots.{AreOne, IsRoot, IsCovered}

abbrev Lists : Type 0
Lists = Option (List (List (List ℕ)))

abbrev IsOnly : List (List ℕ) → Option Digest → Type 0
IsOnly due o = MatchOption o ((v : List ℕ) → AreOne due v → ⊥) (λ d. AreOne due (octets_of d))

pub one_is_root : (alg : Alg) (lists : Lists) (due : List (List ℕ)) (o : Option Digest) → lists ≡ None
    → IsOnly due o → IfSome o (λ d. IsRoot alg lists due (octets_of d))
one_is_root alg lists due None none one = tt
one_is_root alg lists due (Some d) none one =
    subst (λ (ls : Lists). IsRoot alg ls due (octets_of d)) (sym none) one

pub none_is_root : (alg : Alg) (lists : Lists) (due : List (List ℕ)) (o : Option Digest) → lists ≡ None
    → IsOnly due o → IfNone o ((root : List ℕ) → IsRoot alg lists due root → ⊥)
none_is_root alg lists due (Some d) none one = tt
none_is_root alg lists due None none one =
    λ root h. one root (subst (λ (ls : Lists). IsRoot alg ls due root) none h)

pub one_if_covered : (lists : Lists) (due : List (List ℕ)) (o : Option Digest) → lists ≡ None → IsOnly due o
    → IsCovered lists due → IsSome o
one_if_covered lists due (Some d) none one h = refl
one_if_covered lists due None none one h =
    let v = subst (λ (ls : Lists). IsCovered ls due) none h in
    absurd (one v.0 v.1)

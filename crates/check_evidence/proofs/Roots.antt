-- Lists have one root, and cover each member of what they cover.
use Rattle.std.proofs.Common.{◌≡◌, ℕ, List, [], ◌∷◌, Some, None, Contains, refl, sym, ap, ◌∙◌, subst}
use Rattle.std.specs.List.{concat}
use Rattle.std.proofs.lemmas.List.Elements.{All-contains, All-from_recursion, Contains-push}
use Rattle.digests.specs.Messages.{digest_of}
use Rattle.digests.specs.declared.algorithm.Alg.{Alg}
use Rattle.check_evidence.specs.Roots.{IsNode, IsGroupOf, IsRootAfter, AreOne}
use Rattle.check_evidence.specs.Laws.{RootsAreUnique, GroupsCoverMembers, MembersHaveTheRoot}
use Rattle.check_evidence.proofs.Ascending.{one_order}

abbrev Values : Type 0
Values = List (List ℕ)

one_group : (alg : Alg) (values : Values) (a b : List ℕ) → IsGroupOf alg values a → IsGroupOf alg values b → a ≡ b
one_group alg values a b h k =
    let same = one_order values h.ordered k.ordered h.in_order k.in_order in
    h.hashed ∙ ap (λ (o : Values). digest_of alg (concat o)) same ∙ sym k.hashed

pub one_node : (alg : Alg) (values : Values) (a b : List ℕ) → IsNode alg values a → IsNode alg values b → a ≡ b
one_node alg [] a b h k = absurd h
one_node alg (v ∷ []) a b h k = h ∙ sym k
one_node alg (v ∷ w ∷ values) a b h k = one_group alg (v ∷ w ∷ values) a b h k

pub one_after : (alg : Alg) (lists : List Values) (node a b : List ℕ) → IsRootAfter alg node lists a
    → IsRootAfter alg node lists b → a ≡ b
one_after alg [] node a b h k = h ∙ sym k
one_after alg (values ∷ lists) node a b h k =
    let same = one_node alg (node ∷ values) k.0 h.0 k.1 h.1 in
    one_after alg lists h.0 a b h.2 (subst (λ (n : List ℕ). IsRootAfter alg n lists b) same k.2)

are_same : (covered : Values) (a b : List ℕ) → AreOne covered a → AreOne covered b → a ≡ b
are_same covered a b h k = All-contains (λ (v : List ℕ). v ≡ b) covered a k.only h.some

pub one_root : RootsAreUnique
one_root alg None covered a b h k = are_same covered a b h k
one_root alg (Some []) covered a b h k = absurd h
one_root alg (Some (values ∷ lists)) covered a b h k =
    let same = one_node alg values k.0 h.0 k.1 h.1 in
    one_after alg lists h.0 a b h.2 (subst (λ (n : List ℕ). IsRootAfter alg n lists b) same k.2)

-- ---- one of several

just_one : (v w : List ℕ) → w ≡ v → AreOne (w ∷ []) v
just_one v w is = record {
  some = subst (λ (x : List ℕ). Contains (w ∷ []) x) is (Contains-push [] w);
  only = All-from_recursion (λ (x : List ℕ). x ≡ v) (w ∷ []) (is, tt);
}

pub cover_members : GroupsCoverMembers
cover_members alg None covered v h c = (v, just_one v v refl)
cover_members alg (Some []) covered v h c = absurd h
cover_members alg (Some (values ∷ lists)) covered v h c =
    All-from_recursion (Contains values) (v ∷ []) (All-contains (Contains values) covered v h c, tt)

pub have_the_root : MembersHaveTheRoot
have_the_root alg None covered v root c h =
    just_one root v (All-contains (λ (x : List ℕ). x ≡ root) covered v h.only c)
have_the_root alg (Some []) covered v root c h = absurd h
have_the_root alg (Some (values ∷ lists)) covered v root c h = h

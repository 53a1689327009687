-- Entries of a list, and those as they count beside a record.
use Rattle.std.proofs.Common.{◌≡◌, ◌∙◌, ℕ, List, map, Some, get_or, All, sym, subst, ap}
use Rattle.std.specs.Prelude.{Any, Contains, slice_get}
use Rattle.std.proofs.lemmas.List.Elements.{Contains-get_or}
use Rattle.std.proofs.lemmas.Option.{slice_get-get_or}
use Rattle.trust_lists.specs.Entries.{EntryValue}
use Rattle.check_verdict.specs.Beside.{beside}
use Rattle.check_verdict.proofs.Beside.{stands_beside, counted_at}
use Rattle.check_verdict.proofs.Lists.{at, from_get}

stands : (es : List EntryValue) (e : EntryValue) (c : Contains es e) → slice_get es c.0 ≡ Some e
stands es e (i, within, is) =
    slice_get-get_or es i e within ∙ ap (λ (x : EntryValue). Some x) is

module _ (k : ℕ) (es : List EntryValue) where
  pub in_map : (e : EntryValue) → Contains es e → Contains (map (beside k) es) (beside k e)
  in_map e c = from_get (map (beside k) es) c.0 (beside k e) (counted_at (Some k) es c.0 e (stands es e c))

  pub of_map : (e : EntryValue) → Contains (map (beside k) es) e
      → (x : EntryValue) × Contains es x × (beside k x ≡ e)
  of_map e c =
      let x = stands_beside k es c.0 e (stands (map (beside k) es) e c) in
      (x.0, from_get es c.0 x.0 x.1, x.2)

  module _ (P Q : EntryValue → Type 0) where
    pub any_of_map : ((x : EntryValue) → Contains es x → P (beside k x) → Q x) → Any P (map (beside k) es) → Any Q es
    any_of_map f (i, e, within, is, p) = go (of_map e (i, within, is))
      where
        go : (x : EntryValue) × Contains es x × (beside k x ≡ e) → Any Q es
        go (x, (j, lt, there), same) = (j, x, lt, there, f x (j, lt, there) (subst P (sym same) p))

    pub any_in_map : ((x : EntryValue) → Contains es x → Q x → P (beside k x)) → Any Q es → Any P (map (beside k) es)
    any_in_map f (i, x, within, is, q) = go (in_map x (i, within, is))
      where
        go : Contains (map (beside k) es) (beside k x) → Any P (map (beside k) es)
        go (j, lt, there) = (j, beside k x, lt, there, f x (i, within, is) q)

    pub all_of_map : ((x : EntryValue) → P (beside k x) → Q x) → All P (map (beside k) es) → All Q es
    all_of_map f all i d lt =
        let x = get_or es i d in
        f x (at P (map (beside k) es) (beside k x) all (in_map x (Contains-get_or es i d lt)))

    pub all_in_map : ((x : EntryValue) → Q x → P (beside k x)) → All Q es → All P (map (beside k) es)
    all_in_map f all i d lt =
        let o = of_map (get_or (map (beside k) es) i d) (Contains-get_or (map (beside k) es) i d lt) in
        subst P o.2 (f o.0 (at Q es o.0 all o.1))

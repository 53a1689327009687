-- Hash values have an ascending order.
use Rattle.std.proofs.Common.{ℕ, List, [], ◌∷◌}
use Rattle.std.proofs.lemmas.List.Sorted.{IsPermutation-refl, IsPermutation-cons, IsPermutation-trans}
use Rattle.check_evidence.specs.Roots.{InOrder}
use Rattle.check_evidence.specs.Joining.{put_in}
use Rattle.check_evidence.proofs.Joining.{put_in_order}

-- one after the other is put in at its place
pub ordered : (values : List (List ℕ)) → (o : List (List ℕ)) × InOrder values o
ordered [] = ([], record { are = IsPermutation-refl []; ascending = tt })
ordered (v ∷ values) =
    let rest = ordered values in
    let more = put_in_order v rest.0 rest.1.ascending in (
      put_in v rest.0,
      record {
        are = IsPermutation-trans (v ∷ values) (v ∷ rest.0) (put_in v rest.0)
            (IsPermutation-cons v values rest.0 rest.1.are) more.are;
        ascending = more.ascending;
      },
    )

use Rattle.std.proofs.Common.{refl, arith}
use Rattle.std.proofs.lemmas.Bool.Decides.{nat_tests}
use Rattle.std.specs.Ordering.{is_lt, nat_cmp}
use Rattle.std.proofs.lemmas.Cmp.{same_from_slice_cmp_tested}
use Rattle.der_core.specs.Lists.{is_less}
use Rattle.der_core.proofs.octets.is_less.Goals as goal

pub returns : goal.returns
returns c = same_from_slice_cmp_tested nat_cmp is_lt is_less refl (λ _ _. refl) (λ _ _. refl)
    (λ x y xs ys o h. grind (arith, nat_tests)) c.args.octets.now c.args.others.now c.lt.result c.lt.ensures

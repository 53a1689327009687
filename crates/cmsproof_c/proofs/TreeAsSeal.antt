-- The seal of a hash tree, as one of the seals that go alike.
use mathlib.Core.Path.{refl}
use Rattle.evidence_trees.specs.contracts.tree.Tree.{the_row}
use Rattle.cmsproof_c.specs.contracts.tree_seal.TreeSeal as Sealed
use Rattle.cmsproof_c.proofs.Seals.{Seal}

abbrev pub seal : Seal the_row
seal = record {
  name = Sealed.the_type.name;
  row = Sealed.the_row;
  at = λ d. d.at;
  kept = λ d. d.kept;
  make = λ p k. record { at = p; kept = k };
  owns = λ d vs. refl;
  owns_made = λ p k vs. refl;
  kept_made = λ p k. refl;
  last = λ d. tt;
  silent = λ d f. refl;
}

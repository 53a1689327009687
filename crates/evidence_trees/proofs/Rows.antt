-- The worked rows, by computing.
use Rattle.std.proofs.Common.{◌≡◌, ℕ, false, true≢false, zero, suc, List, [], ◌∷◌, length, Contains, refl, sym, ◌∙◌}
use Rattle.std.proofs.Common.{lit<, All, Some}
use Rattle.std.specs.List.{slice_get}
use Rattle.std.proofs.lemmas.List.Elements.{All-from_recursion, All-contains_itself}
use Rattle.der_core.specs.Lists.{is_same}
use Rattle.der_core.proofs.SameOctets.{is_then_same}
use Rattle.sha2.specs.Sha256 as sha256
use Rattle.sha2.specs.Sha512 as sha512
use Rattle.digests.specs.Messages.{digest_of}
use Rattle.digests.specs.declared.algorithm.Alg.TheVariants.{Sha256, Sha512}
use Rattle.evidence_trees.specs.HashTrees.{IsTreeRoot}
use Rattle.evidence_trees.specs.Rows.{TreeRows, ListRows, WayRows, d000, d001, d002, d003, node, root_of_three}
use Rattle.evidence_trees.specs.Rows.{one, two, three, five, seven, two_by_sha512}
use Rattle.evidence_trees.proofs.Levels.{node_is_group, node_is_group_turned}

abbrev Values : Type 0
Values = List (List ℕ)

-- what the digests compute with
unfoldable pub computing : Unit {0}
unfolding digest_of sha256.sha256 sha256.digest_bytes sha256.hash_after sha256.compress sha256.rounds sha256.schedule
    sha256.first_words
computing = tt

unfoldable pub computing_512 : Unit {0}
unfolding digest_of sha512.sha512 sha512.digest_bytes sha512.hash_after sha512.compress sha512.rounds sha512.schedule
    sha512.first_words
computing_512 = tt

abbrev given : Values
given = d001 ∷ d000 ∷ d001 ∷ d002 ∷ []

abbrev ordered : Values
ordered = d002 ∷ d000 ∷ d001 ∷ []

root_of_one : IsTreeRoot Sha256 one.leaves one.root
root_of_one = record { height = 0; only = refl }

root_of_two : IsTreeRoot Sha256 two.leaves two.root
unfolding computing
root_of_two = record { height = 1; only = refl }

of_three : IsTreeRoot Sha256 three.leaves three.root
unfolding computing
of_three = record { height = 2; only = refl }

root_of_five : IsTreeRoot Sha256 five.leaves five.root
unfolding computing
root_of_five = record { height = 3; only = refl }

root_of_seven : IsTreeRoot Sha256 seven.leaves seven.root
unfolding computing
root_of_seven = record { height = 3; only = refl }

root_by_sha512 : IsTreeRoot Sha512 two_by_sha512.leaves two_by_sha512.root
unfolding computing_512
root_by_sha512 = record { height = 1; only = refl }

pub tree_rows : TreeRows
tree_rows = record {
  leaves = record {
    all = All-from_recursion (Contains ordered) given
        ((2, lit< tt, refl), ((1, lit< tt, refl), ((2, lit< tt, refl), ((0, lit< tt, refl), tt))));
    only = All-from_recursion (Contains given) ordered
        ((3, lit< tt, refl), ((1, lit< tt, refl), ((0, lit< tt, refl), tt)));
    rising = (refl, (refl, tt));
  };
  one = root_of_one;
  two = root_of_two;
  three = of_three;
  five = root_of_five;
  seven = root_of_seven;
  by_sha512 = root_by_sha512;
}

-- each value of lists of one value has the length of a digest by SHA-256
abbrev pub IsLong : List ℕ → Type 0
IsLong v = length v ≡ 32

pub alone_long : (v : List ℕ) → length v ≡ 32 → All IsLong (v ∷ [])
alone_long v long = All-from_recursion IsLong (v ∷ []) (long, tt)

pub list_rows : ListRows
unfolding computing
list_rows = record {
  first = record {
    root = (
      d002,
      refl,
      (
        node,
        node_is_group Sha256 d002 d000,
        (root_of_three, node_is_group Sha256 node d001, refl),
      ),
    );
    covered = All-contains_itself (d002 ∷ []);
    no_others = All-contains_itself (d002 ∷ []);
    lengths = All-from_recursion (All IsLong) ((d002 ∷ []) ∷ (d000 ∷ []) ∷ (d001 ∷ []) ∷ [])
        (alone_long d002 refl, (alone_long d000 refl, (alone_long d001 refl, tt)));
  };
  second = record {
    root = (
      d000,
      refl,
      (
        node,
        node_is_group_turned Sha256 d002 d000,
        (root_of_three, node_is_group Sha256 node d001, refl),
      ),
    );
    covered = All-contains_itself (d000 ∷ []);
    no_others = All-contains_itself (d000 ∷ []);
    lengths = All-from_recursion (All IsLong) ((d000 ∷ []) ∷ (d002 ∷ []) ∷ (d001 ∷ []) ∷ [])
        (alone_long d000 refl, (alone_long d002 refl, (alone_long d001 refl, tt)));
  };
  odd = record {
    root = (d001, refl, (root_of_three, node_is_group_turned Sha256 node d001, refl));
    covered = All-contains_itself (d001 ∷ []);
    no_others = All-contains_itself (d001 ∷ []);
    lengths = All-from_recursion (All IsLong) ((d001 ∷ []) ∷ (node ∷ []) ∷ [])
        (alone_long d001 refl, (alone_long node refl, tt));
  };
}

-- ---- ways

-- octets that a test tells apart
apart : (xs ys : List ℕ) → is_same xs ys ≡ false → Some xs ≡ Some ys → ⊥
apart xs ys other e = let same : xs ≡ ys = cc in true≢false (sym (is_then_same xs ys same) ∙ other)

no_place : (k : ℕ) → slice_get ordered k ≡ Some d003 → ⊥
no_place zero is = apart d002 d003 refl is
no_place (suc zero) is = apart d000 d003 refl is
no_place (suc (suc zero)) is = apart d001 d003 refl is
no_place (suc (suc (suc k))) is = absurd cc

pub way_rows : WayRows
unfolding computing computing_512 root_of_one root_of_two root_by_sha512 of_three root_of_five root_of_seven
way_rows = record {
  of_one = record { root = root_of_one; place = 0; at_place = refl; are = refl };
  first_of_two = record { root = root_of_two; place = 0; at_place = refl; are = refl };
  second_of_two = record { root = root_of_two; place = 1; at_place = refl; are = refl };
  by_sha512 = record { root = root_by_sha512; place = 1; at_place = refl; are = refl };
  first_of_three = record { root = of_three; place = 0; at_place = refl; are = refl };
  second_of_three = record { root = of_three; place = 1; at_place = refl; are = refl };
  odd_of_three = record { root = of_three; place = 2; at_place = refl; are = refl };
  first_of_five = record { root = root_of_five; place = 0; at_place = refl; are = refl };
  fourth_of_five = record { root = root_of_five; place = 3; at_place = refl; are = refl };
  odd_of_five = record { root = root_of_five; place = 4; at_place = refl; are = refl };
  third_of_seven = record { root = root_of_seven; place = 2; at_place = refl; are = refl };
  fifth_of_seven = record { root = root_of_seven; place = 4; at_place = refl; are = refl };
  odd_of_seven = record { root = root_of_seven; place = 6; at_place = refl; are = refl };
  no_leaf = λ values h. no_place h.place h.at_place;
}

-- The worked rows, by computing.
use Rattle.std.proofs.Common.{◌≡◌, ℕ, false, true≢false, zero, suc, List, [], ◌∷◌, Contains, IsPermutation, refl, sym}
use Rattle.std.proofs.Common.{◌∙◌, lit<, arith}
use Rattle.std.proofs.lemmas.List.Elements.{All-from_recursion, recursion_from_All}
use Rattle.std.proofs.lemmas.List.Sorted.{IsPermutation-refl}
use Rattle.der_core.specs.Hex.{hex}
use Rattle.der_core.specs.Element.{len}
use Rattle.der_core.specs.Lists.{is_same}
use Rattle.der_core.proofs.SameOctets.{is_then_same}
use Rattle.sha2.specs.Sha256 as sha256
use Rattle.digests.specs.Messages.{digest_of}
use Rattle.evidence_types.specs.EvidenceRows.{of_document, of_neighbour, of_others}
use Rattle.check_evidence.specs.Roots.{IsAscending, InOrder, AreOne}
use Rattle.check_evidence.specs.Rows.{RootRows, OrderRows, CoveredRows, CoveringRows, imprinted, aa, bb}

abbrev Values : Type 0
Values = List (List ℕ)

turned_two : (v w : List ℕ) → IsPermutation (v ∷ w ∷ []) (w ∷ v ∷ [])
turned_two v w = record { moves = (0, 1) ∷ []; below = (lit< tt, lit< tt, tt); is = refl }

-- what the digests compute with
computing : Unit {0}
unfolding digest_of sha256.sha256 sha256.digest_bytes sha256.hash_after sha256.compress sha256.rounds sha256.schedule
    sha256.first_words
computing = tt

-- octets that a test tells apart
apart : (xs ys : List ℕ) → is_same xs ys ≡ false → xs ≡ ys → ⊥
apart xs ys other e = true≢false (sym (is_then_same xs ys e) ∙ other)

no_two : (root : List ℕ) → AreOne (aa ∷ bb ∷ []) root → ⊥
no_two root h =
    let each = recursion_from_All (λ (v : List ℕ). v ≡ root) (aa ∷ bb ∷ []) h.only in
    apart aa bb refl (each.0 ∙ sym each.1.0)

abbrev is_aa : List ℕ → Type 0
is_aa v = v ≡ aa

-- the first node of the figure, 36925e5f..
abbrev node : List ℕ
node = hex "36925e5f9ef0002b1fdc718a4937c572f635c3fcc0d6b2b6c5ef1c7f2afdcf58"

in_order : (values : Values) → IsAscending values → InOrder values values
in_order values up = record { are = IsPermutation-refl values; ascending = up }

pub root_rows : RootRows
unfolding computing
root_rows = record {
  of_figure = (
    node,
    record { ordered = of_document ∷ of_neighbour ∷ []; in_order = in_order _ (refl, tt); hashed = refl },
    (
      imprinted,
      record { ordered = node ∷ of_others ∷ []; in_order = in_order _ (refl, tt); hashed = refl },
      refl,
    ),
  );
  of_turned = (
    node,
    record {
      ordered = of_document ∷ of_neighbour ∷ [];
      in_order = record { are = turned_two of_neighbour of_document; ascending = (refl, tt) };
      hashed = refl;
    },
    (
      imprinted,
      record { ordered = node ∷ of_others ∷ []; in_order = in_order _ (refl, tt); hashed = refl },
      refl,
    ),
  );
  one_value = (aa, refl, refl);
  two_values = (
    hex "d798d1fac6bd4bb1c11f50312760351013379a0ab6f0a8c0af8a506b96b2525a",
    record {
      ordered = aa ∷ bb ∷ [];
      in_order = record { are = turned_two bb aa; ascending = (refl, tt) };
      hashed = refl;
    },
    refl,
  );
  standing_already = (
    aa,
    refl,
    (
      hex "e99d68f1cd943420dbd31dd648b04c09d5cd1c908dac6526a650b22db71eb605",
      record { ordered = aa ∷ aa ∷ bb ∷ []; in_order = in_order _ (refl, (refl, tt)); hashed = refl },
      refl,
    ),
  );
  no_lists = record { some = (0, lit< tt, refl); only = All-from_recursion is_aa (aa ∷ []) (refl, tt) };
  no_lists_twice =
      record { some = (0, lit< tt, refl); only = All-from_recursion is_aa (aa ∷ aa ∷ []) (refl, (refl, tt)) };
  no_lists_two = no_two;
}

pub order_rows : OrderRows
order_rows = record {
  of_figure = (refl, tt);
  of_turned = λ h. true≢false h.0;
  one_value = tt;
  standing_twice = (refl, (refl, tt));
  without_sign = (refl, tt);
  beginning = (refl, tt);
  beginning_last = λ h. true≢false h.0;
}

-- ---- what is covered

abbrev both : Values
both = of_neighbour ∷ of_document ∷ []

abbrev first_list : Values
first_list = of_document ∷ of_neighbour ∷ []

third_document : Contains first_list of_others → ⊥
third_document (zero, lt, is) = apart of_document of_others refl is
third_document (suc zero, lt, is) = apart of_neighbour of_others refl is
third_document (suc (suc k), lt, is) = absurd (omega (arith, lt))

not_neighbour : Contains (of_document ∷ []) of_neighbour → ⊥
not_neighbour (zero, lt, is) = apart of_document of_neighbour refl is
not_neighbour (suc k, lt, is) = absurd (omega (arith, lt))

pub covered_rows : CoveredRows
covered_rows = record {
  of_one = All-from_recursion (Contains first_list) (of_document ∷ []) ((0, lit< tt, refl), tt);
  of_group = All-from_recursion (Contains first_list) both ((1, lit< tt, refl), ((0, lit< tt, refl), tt));
  of_third = λ h. third_document (recursion_from_All (Contains first_list) (of_others ∷ []) h).0;
  whole_group = All-from_recursion (Contains both) first_list ((1, lit< tt, refl), ((0, lit< tt, refl), tt));
  sibling = λ h. not_neighbour (recursion_from_All (Contains (of_document ∷ [])) first_list h).1.0;
  no_lists = (aa, record { some = (0, lit< tt, refl); only = All-from_recursion is_aa (aa ∷ []) (refl, tt) });
  no_lists_two = λ h. no_two h.0 h.1;
}

pub covering_rows : CoveringRows
unfolding computing len
covering_rows = record { first = refl; renewed = refl; later = refl }

-- The worked rows, by computing.
use Rattle.std.proofs.Common.{[], ◌∷◌, None, refl, lit<}
use Rattle.der_core.specs.Element.{len}
use Rattle.der_core.specs.Hex.{hex}
use Rattle.der_core.specs.Values.{GoodAlgorithm}
use Rattle.digests.specs.Spelled.{with_null, sha256}
use Rattle.digests.specs.declared.algorithm.Alg.TheVariants.{Sha256, Sha512}
use Rattle.cms_types.specs.AttributeValue.{GoodAttribute}
use Rattle.evidence_types.specs.StampValue.{IsSequence, GoodStamp}
use Rattle.evidence_types.specs.EvidenceValue.{GoodChain}
use Rattle.evidence_types.specs.EvidenceRows.{bare, empty, five}
use Rattle.evidence_trees.specs.Rows.{d000, d001, d002, d004, node}
use Rattle.evidence_trees.proofs.Rows.{way_rows}
use Rattle.evidence_making.specs.Made.{group_lists, lists_of}
use Rattle.evidence_making.specs.Rows.{MadeRows, LeafRecordRows, RenewedRows, two_chains, with_others}
use Rattle.evidence_making.proofs.Placed.{GoodPlaced, alone_filled, group_filled, encodes, nothing_before, nothing_good}
use Rattle.evidence_making.proofs.Renewed.{placed}

is_empty : IsSequence (hex "3000")
unfolding len
is_empty = ([], record { identifier = refl; size = lit< tt }, refl)

is_null : IsSequence (hex "30020500")
unfolding len
is_null = (hex "0500", record { identifier = refl; size = lit< tt }, refl)

pub made_rows : MadeRows
unfolding len
made_rows = record {
  two_lists = encodes Sha256 nothing_before (lists_of (hex "bb" ∷ hex "aa" ∷ [])) (hex "3000") _ nothing_good is_empty
      (alone_filled (hex "bb" ∷ hex "aa" ∷ [])) refl
      (lit< tt);
  empty_value = encodes Sha256 nothing_before (lists_of ([] ∷ [])) (hex "3000") _ nothing_good is_empty
      (alone_filled ([] ∷ [])) refl (lit< tt);
  no_lists = encodes Sha512 nothing_before None (hex "3000") _ nothing_good is_empty tt refl (lit< tt);
}

pub leaf_rows : LeafRecordRows
unfolding len
leaf_rows = record {
  of_one = record {
    way = d000 ∷ [];
    is_way = way_rows.of_one;
    encoded = encodes Sha256 nothing_before (lists_of (d000 ∷ [])) (hex "3000") _ nothing_good is_empty
        (alone_filled (d000 ∷ [])) refl (lit< tt);
  };
  odd_of_three = record {
    way = d001 ∷ node ∷ [];
    is_way = way_rows.odd_of_three;
    encoded = encodes Sha256 nothing_before (lists_of (d001 ∷ node ∷ [])) (hex "3000") _ nothing_good is_empty
        (alone_filled (d001 ∷ node ∷ [])) refl (lit< tt);
  };
  first_of_five = record {
    way = d004 ∷ d002 ∷ hex "66d184d913d284eb9a530819dbeafd813544228c223b27a5841afe3ea8ce0dd9" ∷ d001 ∷ [];
    is_way = way_rows.first_of_five;
    encoded = encodes Sha256 nothing_before
        (lists_of (d004 ∷ d002 ∷ hex "66d184d913d284eb9a530819dbeafd813544228c223b27a5841afe3ea8ce0dd9" ∷ d001 ∷ []))
        (hex "3000") _ nothing_good is_empty
        (alone_filled (d004 ∷ d002 ∷ hex "66d184d913d284eb9a530819dbeafd813544228c223b27a5841afe3ea8ce0dd9"
        ∷ d001 ∷ [])) refl (lit< tt);
  };
}

-- ---- what is renewed

good_bare : GoodStamp (bare empty)
unfolding len
good_bare = record { algorithm = tt; attributes = tt; lists = tt; stamp = is_empty; size = lit< tt }

good_chain : GoodChain (bare empty ∷ [])
unfolding len
good_chain = record { each = (good_bare, tt); some = λ e. absurd cc; size = lit< tt }

good_algorithm : GoodAlgorithm (with_null sha256)
unfolding len
good_algorithm = record {
  oid = (refl, lit< tt);
  parameters = (5, [], record { identifier = refl; size = lit< tt }, refl);
  size = lit< tt;
}

good_five : GoodAttribute five
unfolding len
good_five = record {
  id = (refl, lit< tt);
  values = ((2, 5 ∷ [], record { identifier = refl; size = lit< tt }, refl), tt);
  set = lit< tt;
  size = lit< tt;
}

two_good : GoodPlaced (placed Sha256 two_chains ((bare empty ∷ []) ∷ []) (bare empty ∷ []))
two_good = record {
  algorithms = (good_algorithm, tt);
  crypto_infos = tt;
  encryption = tt;
  earlier = (good_chain, tt);
  before = (good_bare, tt);
}

both_good : GoodPlaced (placed Sha512 two_chains ((bare empty ∷ []) ∷ (bare empty ∷ []) ∷ []) [])
both_good = record {
  algorithms = (good_algorithm, tt);
  crypto_infos = tt;
  encryption = tt;
  earlier = (good_chain, (good_chain, tt));
  before = tt;
}

others_good : GoodPlaced (placed Sha256 with_others [] (bare empty ∷ []))
unfolding len
others_good = record {
  algorithms = tt;
  crypto_infos = record { each = (good_five, tt); some = λ e. absurd cc; size = lit< tt };
  encryption = record { id = (refl, lit< tt); value = tt; size = lit< tt };
  earlier = tt;
  before = (good_bare, tt);
}

pub renewed_rows : RenewedRows
unfolding len
renewed_rows = record {
  in_last_chain = encodes Sha256 (placed Sha256 two_chains ((bare empty ∷ []) ∷ []) (bare empty ∷ [])) None
      (hex "30020500") _ two_good is_null tt refl (lit< tt);
  new_chain = encodes Sha512 (placed Sha512 two_chains ((bare empty ∷ []) ∷ (bare empty ∷ []) ∷ []) [])
      (group_lists (hex "aa" ∷ []) (hex "aa" ∷ [])) (hex "3000") _ both_good is_empty
      (group_filled (hex "aa" ∷ []) (hex "aa" ∷ []) (λ e. absurd cc)) refl (lit< tt);
  group_of_two = encodes Sha512 (placed Sha512 two_chains ((bare empty ∷ []) ∷ (bare empty ∷ []) ∷ []) [])
      (group_lists (hex "aa" ∷ hex "bb" ∷ []) (hex "cc" ∷ hex "dd" ∷ [])) (hex "3000") _ both_good is_empty
      (group_filled (hex "aa" ∷ hex "bb" ∷ []) (hex "cc" ∷ hex "dd" ∷ []) (λ e. absurd cc)) refl (lit< tt);
  others_stay = encodes Sha256 (placed Sha256 with_others [] (bare empty ∷ [])) None (hex "3000") _ others_good is_empty
      tt refl (lit< tt);
}

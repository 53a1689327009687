-- The worked rows, by computing.
use Rattle.std.proofs.Common.{◌≡◌, ℕ, false, true≢false, zero, suc, List, [], ◌∷◌, length, Some, Contains}
use Rattle.std.proofs.Common.{refl, sym, ◌∙◌, subst, lit<, arith, All}
use Rattle.std.proofs.lemmas.List.Elements.{All-nil, All-from_recursion, recursion_from_All}
use Rattle.std.proofs.lemmas.List.Sorted.{IsPermutation-refl}
use Rattle.der_core.specs.AlgorithmReading.{algorithm_in}
use Rattle.der_core.specs.Element.{len}
use Rattle.der_core.specs.Flags.{flag_at}
use Rattle.der_core.specs.Lists.{is_same}
use Rattle.der_core.specs.Reading.{further_at, length_at, next_at, expect_at, enter_at, end_at, element_at, optional_at}
use Rattle.der_core.specs.Reading.{none_at, opaque_at, many_from, many_in}
use Rattle.der_core.proofs.SameOctets.{is_then_same}
use Rattle.der_lists.specs.Checked.{checked_from, checked_in, rank_at, tag_at}
use Rattle.der_lists.specs.Items.{opaque_item, opaque_front, front_at}
use Rattle.der_time.specs.Calendar.{days_before_month}
use Rattle.der_time.specs.Moments.{in_places, generalized_moment}
use Rattle.digests.specs.Algorithms.{contents_of}
use Rattle.digests.specs.declared.algorithm.Alg.{Alg}
use Rattle.digests.specs.declared.algorithm.Alg.TheVariants.{Sha256, Sha512, Sha512_256}
use Rattle.digests.specs.declared.value.Digest.TheVariants as digest
use Rattle.cms_types.specs.AttributeReading.{attribute_in, signed_attribute_in}
use Rattle.cms_types.specs.SignerReading.{issuer_and_serial_in, sid_at, signer_in}
use Rattle.cms_types.specs.SignedDataValue.{SignedContent, SignedDataValue, EncodesSignedData}
use Rattle.cms_types.specs.SignedDataReading.{explicit_octets_in, encapsulated_in, signed_data_in}
use Rattle.cms_types.specs.SignedDataReading.{explicit_signed_data_in, signed_content_in, content_info_in}
use Rattle.cms_types.specs.SignedDataReading.{content_info_at}
use Rattle.cms_types.proofs.SignedDataReaders.{content_takes}
use Rattle.tsp_types.specs.ImprintReading.{imprint_in}
use Rattle.tsp_types.specs.TstValue.{TstValue, EncodesTst, id_tst_info}
use Rattle.tsp_types.specs.TstReading.{accuracy_in, tst_in, tst_at}
use Rattle.tsp_types.proofs.TstReaders.{tst_takes}
use Rattle.evidence_types.specs.StampValue.{StampValue}
use Rattle.evidence_types.specs.EvidenceRows.{bare}
use Rattle.check_verdict.specs.Rows.{tst, token_data, token_signer, signed_data, digest_of_stamp, early_token}
use Rattle.check_verdict.specs.Rows.{early_data, early_stamp, early_tst, nine_oclock, ten_oclock}
use Rattle.check_verdict.proofs.Rows.{below_256, value_rows, early_reads, early_stamp_reads}
use Rattle.check_evidence.specs.Roots.{IsGroupOf, AreOne}
use Rattle.check_evidence.specs.StampStates.{States, HasAlg}
use Rattle.evidence_trees.specs.Rows.{d000, d001, node}
use Rattle.evidence_trees.proofs.Rows.{computing, computing_512, alone_long, list_rows}
use Rattle.evidence_making.specs.Made.{stamp_of}
use Rattle.evidence_making.specs.Stamping.{StampsRoot, IsNoToken}
use Rattle.evidence_making.specs.Leaves.{IsLastOf, IsRehashOf}
use Rattle.evidence_making.specs.Done.{IsRootOver, StampsAfter, FitsOver}
use Rattle.evidence_making.specs.RenewalRows.{StampingRows, RootRows, LastRows, DoneRows, stamp_over, token_over, null}
use Rattle.evidence_making.specs.RenewalRows.{digest_of_abc, late_token, of_abc}
use Rattle.evidence_making.specs.RenewalRows.{early_chain, early_leaf, early_last, rehash_leaf}
use Rattle.evidence_making.specs.RenewalRows.{renewal_root, rehash_root}
use Rattle.evidence_making.proofs.RootStamps.{one_case}

-- octets that a test tells apart
apart : (xs ys : List ℕ) → is_same xs ys ≡ false → xs ≡ ys → ⊥
apart xs ys other e = true≢false (sym (is_then_same xs ys e) ∙ other)

-- ---- tokens

abbrev tst_over : List ℕ → TstValue
tst_over imprint = record tst { imprint = record { algorithm = tst.imprint.algorithm; digest = imprint } }

abbrev data_over : List ℕ → SignedDataValue
data_over imprint = signed_data (3 ∷ []) id_tst_info (stamp_over imprint) (token_signer digest_of_stamp)

over_reads : EncodesSignedData (token_over renewal_root) (data_over renewal_root)
    × EncodesSignedData (token_over rehash_root) (data_over rehash_root)
unfolding len algorithm_in further_at length_at next_at expect_at enter_at end_at element_at none_at opaque_at many_from
    many_in checked_from
    checked_in rank_at tag_at opaque_item opaque_front front_at
    attribute_in signed_attribute_in issuer_and_serial_in sid_at signer_in explicit_octets_in encapsulated_in
    signed_data_in explicit_signed_data_in
    signed_content_in content_info_in content_info_at
over_reads = (
  content_takes (token_over renewal_root) (SignedContent (data_over renewal_root))
      (below_256 (token_over renewal_root) refl) refl,
  content_takes (token_over rehash_root) (SignedContent (data_over rehash_root))
      (below_256 (token_over rehash_root) refl) refl,
)

over_stated : EncodesTst (stamp_over renewal_root) (tst_over renewal_root)
    × EncodesTst (stamp_over rehash_root) (tst_over rehash_root)
unfolding len algorithm_in flag_at further_at length_at next_at expect_at enter_at end_at element_at optional_at none_at
    opaque_at many_from many_in opaque_item imprint_in accuracy_in tst_in tst_at
over_stated = (
  tst_takes (stamp_over renewal_root) (tst_over renewal_root) (below_256 (stamp_over renewal_root) refl) refl,
  tst_takes (stamp_over rehash_root) (tst_over rehash_root) (below_256 (stamp_over rehash_root) refl) refl,
)

states_ten : States late_token tst
states_ten = record {
  signed = token_data;
  encodes = value_rows.reads_token;
  econtent_type = refl;
  content = stamp_over digest_of_abc;
  present = refl;
  encodes_stamp = value_rows.reads_time_stamp;
}

states_early : States early_token early_tst
states_early = record {
  signed = early_data;
  encodes = early_reads;
  econtent_type = refl;
  content = early_stamp;
  present = refl;
  encodes_stamp = early_stamp_reads;
}

states_over : (imprint : List ℕ) → EncodesSignedData (token_over imprint) (data_over imprint)
    → EncodesTst (stamp_over imprint) (tst_over imprint) → States (token_over imprint) (tst_over imprint)
states_over imprint reads stated = record {
  signed = data_over imprint;
  encodes = reads;
  econtent_type = refl;
  content = stamp_over imprint;
  present = refl;
  encodes_stamp = stated;
}

no_states : IsNoToken null
no_states stated h = let e = h.encodes.0 in absurd cc

at_ten : generalized_moment tst.time ≡ ten_oclock
unfolding generalized_moment in_places days_before_month
at_ten = refl

at_nine : generalized_moment early_tst.time ≡ nine_oclock
unfolding generalized_moment in_places days_before_month
at_nine = refl

stamps_abc : StampsRoot late_token of_abc ten_oclock
stamps_abc = record {
  stated = tst;
  states = states_ten;
  imprint = record { algorithm = record { contents = refl; plain = refl }; octets = refl };
  moment = at_ten;
}

stamps_over : (imprint : List ℕ) → States (token_over imprint) (tst_over imprint)
    → StampsAfter (token_over imprint) (digest.Sha256 imprint) nine_oclock
stamps_over imprint states = record {
  moment = ten_oclock;
  stamped = record {
    stated = tst_over imprint;
    states = states;
    imprint = record { algorithm = record { contents = refl; plain = refl }; octets = refl };
    moment = at_ten;
  };
  later = lit< tt;
}

never_after_itself : StampsAfter late_token of_abc ten_oclock → ⊥
never_after_itself h =
    let same = one_case.one_moment late_token of_abc h.moment ten_oclock h.stamped stamps_abc in
    absurd (omega (arith, h.later, same))

pub stamping_rows : StampingRows
stamping_rows = record {
  stamps = stamps_abc;
  of_another = record { stated = tst; states = states_ten; other = λ i. apart digest_of_abc d000 refl i.octets };
  by_another = record {
    stated = tst;
    states = states_ten;
    other = λ i. apart (contents_of Sha256) (contents_of Sha512_256) refl i.algorithm.contents;
  };
  no_token = no_states;
  after = record { moment = ten_oclock; stamped = stamps_abc; later = lit< tt };
  not_after = never_after_itself;
}

-- ---- roots

one_abc : AreOne (digest_of_abc ∷ []) digest_of_abc
one_abc = record {
  some = (0, lit< tt, refl);
  only = All-from_recursion (λ (v : List ℕ). v ≡ digest_of_abc) (digest_of_abc ∷ []) (refl, tt);
}

not_node : Contains (node ∷ []) d001 → ⊥
not_node (zero, lt, is) = apart node d001 refl is
not_node (suc k, lt, is) = absurd (omega (arith, lt))

pub root_rows : RootRows
root_rows = record {
  no_lists = record {
    alg = record { contents = refl; plain = tt };
    lengths = All-nil (All (λ (v : List ℕ). length v ≡ 32));
    covers = (digest_of_abc, one_abc);
    by = refl;
    is_root = one_abc;
  };
  of_three = record {
    alg = record { contents = refl; plain = tt };
    lengths = list_rows.odd.lengths;
    covers = list_rows.odd.covered;
    by = refl;
    is_root = list_rows.odd.root;
  };
  second_list = λ root h. not_node (recursion_from_All (Contains (node ∷ [])) (d001 ∷ []) h.covers).0;
  by_another = λ root h. apart (contents_of Sha256) (contents_of Sha512_256) refl h.alg.contents;
}

-- ---- what renewals stand on

not_named : (s : StampValue) (alg : Alg) → Some (bare null) ≡ Some s → HasAlg s alg → ⊥
not_named s alg is has =
    let same : bare null ≡ s = cc in
    let h : HasAlg (bare null) alg = subst (λ (x : StampValue). HasAlg x alg) (sym same) has in
    no_states h.0 h.1

last_of_one : IsLastOf (early_chain ∷ []) early_last
unfolding computing
last_of_one = record {
  place = record { earlier = []; before = []; stamp = bare early_token; after = []; later = [] };
  there = refl;
  is_last = record { no_stamp = refl; no_chain = refl };
  chain_alg = (bare early_token, refl, (early_tst, states_early, record { contents = refl; plain = refl }));
  by = refl;
  hashed = refl;
  time = (early_tst, states_early, at_nine);
}

early_rehashed : IsRehashOf (early_chain ∷ []) (digest.Sha256 d000) (digest.Sha256 rehash_leaf) nine_oclock
unfolding computing len
early_rehashed = record {
  place = record { earlier = []; before = []; stamp = bare early_token; after = []; later = [] };
  there = refl;
  is_last = record { no_stamp = refl; no_chain = refl };
  by = refl;
  hashed = refl;
  time = (early_tst, states_early, at_nine);
}

pub last_rows : LastRows
unfolding computing_512 len
last_rows = record {
  of_one = last_of_one;
  of_several = record {
    place = record {
      earlier = (bare late_token ∷ []) ∷ [];
      before = stamp_of Sha512 [] late_token ∷ [];
      stamp = bare early_token;
      after = [];
      later = [];
    };
    there = refl;
    is_last = record { no_stamp = refl; no_chain = refl };
    chain_alg = (stamp_of Sha512 [] late_token, refl, record { contents = refl; plain = tt });
    by = refl;
    hashed = refl;
    time = (early_tst, states_early, at_nine);
  };
  rehashed = early_rehashed;
  by_sha512 = record {
    place = record { earlier = []; before = []; stamp = bare early_token; after = []; later = [] };
    there = refl;
    is_last = record { no_stamp = refl; no_chain = refl };
    by = refl;
    hashed = refl;
    time = (early_tst, states_early, at_nine);
  };
  no_time = record {
    place = record { earlier = early_chain ∷ []; before = []; stamp = bare null; after = []; later = [] };
    there = refl;
    is_last = record { no_stamp = refl; no_chain = refl };
    none = λ m h. no_states h.0 h.1;
  };
  no_alg = record {
    place = record {
      earlier = early_chain ∷ [];
      before = bare null ∷ [];
      stamp = bare early_token;
      after = [];
      later = [];
    };
    there = refl;
    is_last = record { no_stamp = refl; no_chain = refl };
    none = not_named;
  };
}

-- ---- chains that are renewed

-- the root of a tree of two leaves over the first of them
root_of_two : (token leaf other root : List ℕ) → length leaf ≡ 32 → length other ≡ 32
    → IsGroupOf Sha256 (leaf ∷ other ∷ []) root
    → IsRootOver (stamp_of Sha256 (leaf ∷ other ∷ []) token) (digest.Sha256 leaf) (digest.Sha256 root)
root_of_two token leaf other root long other_long group = record {
  alg = record { contents = refl; plain = tt };
  lengths = All-from_recursion (All (λ (v : List ℕ). length v ≡ 32)) ((leaf ∷ []) ∷ (other ∷ []) ∷ [])
      (alone_long leaf long, (alone_long other other_long, tt));
  covers = All-from_recursion (Contains (leaf ∷ [])) (leaf ∷ []) ((0, lit< tt, refl), tt);
  by = refl;
  is_root = (leaf, refl, (root, group, refl));
}

-- a time-stamp of ten o'clock on that root fits over the leaf, after nine o'clock
fits_of_two : (leaf other root : List ℕ) → length leaf ≡ 32 → length other ≡ 32
    → IsGroupOf Sha256 (leaf ∷ other ∷ []) root → EncodesSignedData (token_over root) (data_over root)
    → EncodesTst (stamp_over root) (tst_over root)
    → FitsOver (stamp_of Sha256 (leaf ∷ other ∷ []) (token_over root)) (digest.Sha256 leaf) nine_oclock
fits_of_two leaf other root long other_long group reads stated = record {
  root = digest.Sha256 root;
  over = root_of_two (token_over root) leaf other root long other_long group;
  stamped = stamps_over root (states_over root reads stated);
}

renewal_group : IsGroupOf Sha256 (early_leaf ∷ d000 ∷ []) renewal_root
unfolding computing
renewal_group = record {
  ordered = early_leaf ∷ d000 ∷ [];
  in_order = record { are = IsPermutation-refl (early_leaf ∷ d000 ∷ []); ascending = (refl, tt) };
  hashed = refl;
}

rehash_group : IsGroupOf Sha256 (rehash_leaf ∷ d001 ∷ []) rehash_root
unfolding computing
rehash_group = record {
  ordered = rehash_leaf ∷ d001 ∷ [];
  in_order = record { are = IsPermutation-refl (rehash_leaf ∷ d001 ∷ []); ascending = (refl, tt) };
  hashed = refl;
}

pub done_rows : DoneRows
done_rows = record {
  renewed = record {
    before = early_chain ∷ [];
    stamp = stamp_of Sha256 (early_leaf ∷ d000 ∷ []) (token_over renewal_root);
    added = refl;
    token_is = refl;
    stood = last_of_one;
    fits = fits_of_two early_leaf d000 renewal_root refl refl renewal_group over_reads.0 over_stated.0;
  };
  rehashed = record {
    before = early_chain ∷ [];
    stamp = stamp_of Sha256 (rehash_leaf ∷ d001 ∷ []) (token_over rehash_root);
    added = refl;
    token_is = refl;
    stood = early_rehashed;
    fits = fits_of_two rehash_leaf d001 rehash_root refl refl rehash_group over_reads.1 over_stated.1;
  };
}

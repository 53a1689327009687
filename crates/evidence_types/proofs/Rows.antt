-- The worked rows of evidence records, by computing.
use Rattle.std.proofs.Common.{◌≡◌, ◌≢◌, ℕ, List, [], ◌∷◌, drop, refl, lit<}
use Rattle.std.specs.Prelude.{IfSome}
use Rattle.std.specs.List.{AllByRecursion}
use Rattle.der_core.specs.declared.fault.Kind.TheVariants as kind
use Rattle.der_core.specs.Element.{len}
use Rattle.der_core.specs.Reading.{fault}
use Rattle.der_core.specs.Grammar.{file}
use Rattle.der_core.specs.Values.{GoodAlgorithm, algorithm_parts, HasLength, IsOid}
use Rattle.der_core.proofs.Found.{found, not_encoded}
use Rattle.der_grammar.specs.Vectors.{time_stamp_token}
use Rattle.digests.specs.Spelled.{with_null, alone}
use Rattle.cms_types.specs.AttributeValue.{GoodSignedAttribute}
use Rattle.cms_types.specs.AttributeValue.{GoodUnsignedAttributes}
use Rattle.cms_types.specs.SignedDataValue.{algorithms_parts}
use Rattle.evidence_types.specs.EvidenceTable.{evidence_record}
use Rattle.evidence_types.specs.StampValue.{StampValue, IsSequence, hash_list_parts, GoodHashLists, hash_lists_parts}
use Rattle.evidence_types.specs.StampValue.{stamp_parts, GoodStamp}
use Rattle.evidence_types.specs.EvidenceValue.{chain_parts, GoodChain, chains_parts, GoodChains, GoodEncryption}
use Rattle.evidence_types.specs.EvidenceValue.{EvidenceValue, evidence_parts, encoding, EncodesEvidence}
use Rattle.evidence_types.specs.EvidenceVectors.{token}
use Rattle.evidence_types.specs.EvidenceRows.{empty, bare, five, EvidenceRows}
use Rattle.evidence_types.specs.EvidenceFaultRows.{EvidenceFaultRows}
use Rattle.evidence_types.proofs.EvidenceReaders.{evidence_encodes}

some : {A : Type 0} (x : A) (xs : List A) → x ∷ xs ≢ []
some x xs e = absurd cc

good_alone : (oid : List ℕ) → IsOid oid → HasLength (algorithm_parts (alone oid)) → GoodAlgorithm (alone oid)
good_alone oid is size = record { oid = is; parameters = tt; size = size }

good_null : (oid : List ℕ) → IsOid oid → HasLength (algorithm_parts (with_null oid)) → GoodAlgorithm (with_null oid)
unfolding len
good_null oid is size =
    record { oid = is; parameters = (5, [], record { identifier = refl; size = lit< tt }, refl); size = size }

good_bare : (x : List ℕ) → IsSequence x → HasLength (stamp_parts (bare x)) → GoodStamp (bare x)
good_bare x is size = record { algorithm = tt; attributes = tt; lists = tt; stamp = is; size = size }

is_empty : IsSequence empty
unfolding len
is_empty = ([], record { identifier = refl; size = lit< tt }, refl)

-- a list of two hash values, and one of another
good_lists : (a b c : List ℕ) → HasLength a → HasLength b → HasLength c → HasLength (hash_list_parts (a ∷ b ∷ []))
    → HasLength (hash_list_parts (c ∷ [])) → HasLength (hash_lists_parts ((a ∷ b ∷ []) ∷ (c ∷ []) ∷ []))
    → GoodHashLists ((a ∷ b ∷ []) ∷ (c ∷ []) ∷ [])
good_lists a b c first second third two one all = record {
  each = (
    record { each = (first, (second, tt)); some = some _ _; size = two },
    (record { each = (third, tt); some = some _ _; size = one }, tt),
  );
  some = some _ _;
  size = all;
}

-- a chain of one
one_of : (s : StampValue) → GoodStamp s → HasLength (chain_parts (s ∷ [])) → GoodChain (s ∷ [])
one_of s good size = record { each = (good, tt); some = some s []; size = size }

-- one chain
chain_of : (c : List StampValue) → GoodChain c → HasLength (chains_parts (c ∷ [])) → GoodChains (c ∷ [])
chain_of c good size = record { each = (good, tt); some = some c []; size = size }

least_chain : GoodChain (bare empty ∷ [])
unfolding len
least_chain = one_of _ (good_bare _ is_empty (lit< tt)) (lit< tt)

least_chains : GoodChains ((bare empty ∷ []) ∷ [])
unfolding len
least_chains = chain_of _ least_chain (lit< tt)

good_evidence : (bytes : List ℕ) (v : EvidenceValue) → bytes ≡ encoding v → AllByRecursion GoodAlgorithm v.algorithms
    → HasLength (algorithms_parts v.algorithms) → IfSome v.crypto_infos GoodUnsignedAttributes
    → IfSome v.encryption GoodEncryption → GoodChains v.chains → HasLength (evidence_parts v)
    → EncodesEvidence bytes v
good_evidence bytes v is algorithms algorithms_size crypto_infos encryption chains size = (
  is,
  record {
    algorithms = algorithms;
    algorithms_size = algorithms_size;
    crypto_infos = crypto_infos;
    encryption = encryption;
    chains = chains;
    size = size;
  },
)

good_five : GoodSignedAttribute five
unfolding len
good_five = record {
  good = record {
    id = (refl, lit< tt);
    values = ((2, 5 ∷ [], record { identifier = refl; size = lit< tt }, refl), tt);
    set = lit< tt;
    size = lit< tt;
  };
  ascending = (refl, tt);
}

pub evidence_rows : EvidenceRows
unfolding len
evidence_rows = record {
  reduced = good_evidence _ _ refl (good_alone _ (refl, lit< tt) (lit< tt), tt) (lit< tt) tt tt
      (chain_of _ (one_of _ (record {
        algorithm = good_alone _ (refl, lit< tt) (lit< tt);
        attributes = tt;
        lists = good_lists _ _ _ (lit< tt) (lit< tt) (lit< tt) (lit< tt) (lit< tt) (lit< tt);
        stamp = (drop 4 token, record { identifier = refl; size = lit< tt }, refl);
        size = lit< tt;
      }) (lit< tt)) (lit< tt)) (lit< tt);
  least = good_evidence _ _ refl tt (lit< tt) tt tt least_chains (lit< tt);
  of_token = good_evidence _ _ refl (good_alone _ (refl, lit< tt) (lit< tt), tt) (lit< tt) tt tt
      (chain_of _ (one_of _ (good_bare _
      (drop 4 time_stamp_token, record { identifier = refl; size = lit< tt }, refl) (lit< tt)) (lit< tt)) (lit< tt))
      (lit< tt);
  two_chains = good_evidence _ _ refl tt (lit< tt) tt tt
      (record {
        each = (
          record {
            each = (
              good_bare _ is_empty (lit< tt),
              (good_bare _ (5 ∷ 0 ∷ [], record { identifier = refl; size = lit< tt }, refl) (lit< tt), tt),
            );
            some = some _ _;
            size = lit< tt;
          },
          (least_chain, tt),
        );
        some = some _ _;
        size = lit< tt;
      }) (lit< tt);
  every_part = good_evidence _ _ refl
      (good_alone _ (refl, lit< tt) (lit< tt), (good_null _ (refl, lit< tt) (lit< tt), tt)) (lit< tt)
      (record {
        each = (
          record {
            id = (refl, lit< tt);
            values = (
              (5, [], record { identifier = refl; size = lit< tt }, refl),
              ((1, 255 ∷ [], record { identifier = refl; size = lit< tt }, refl), tt),
            );
            set = lit< tt;
            size = lit< tt;
          },
          (good_five.good, tt),
        );
        some = some _ _;
        size = lit< tt;
      })
      (record {
        id = (refl, lit< tt);
        value = (5, [], record { identifier = refl; size = lit< tt }, refl);
        size = lit< tt;
      })
      (chain_of _ (one_of _ (record {
        algorithm = good_alone _ (refl, lit< tt) (lit< tt);
        attributes = record {
          each = (
            good_five,
            (
              record {
                good = record {
                  id = (refl, lit< tt);
                  values = (
                    (1, 255 ∷ [], record { identifier = refl; size = lit< tt }, refl),
                    ((5, [], record { identifier = refl; size = lit< tt }, refl), tt),
                  );
                  set = lit< tt;
                  size = lit< tt;
                };
                ascending = (refl, (refl, tt));
              },
              tt,
            ),
          );
          ascending = (refl, (refl, tt));
          some = some _ _;
          size = lit< tt;
        };
        lists = good_lists _ _ _ (lit< tt) (lit< tt) (lit< tt) (lit< tt) (lit< tt) (lit< tt);
        stamp = is_empty;
        size = lit< tt;
      }) (lit< tt)) (lit< tt)) (lit< tt);
  encrypted = good_evidence _ _ refl tt (lit< tt) tt (record { id = (refl, lit< tt); value = tt; size = lit< tt })
      least_chains (lit< tt);
  twice = good_evidence _ _ refl tt (lit< tt) tt tt
      (chain_of _ (one_of _ (record {
        algorithm = tt;
        attributes = record {
          each = (good_five, (good_five, tt));
          ascending = (refl, (refl, tt));
          some = some _ _;
          size = lit< tt;
        };
        lists = tt;
        stamp = is_empty;
        size = lit< tt;
      }) (lit< tt)) (lit< tt)) (lit< tt);
  another_version = λ v h. not_encoded (file evidence_record) _ (fault kind.Value 4) refl refl (evidence_encodes _ v h);
  without_chains = λ v h. not_encoded (file evidence_record) _ (fault kind.End 7) refl refl (evidence_encodes _ v h);
  no_chain = λ v h. not_encoded (file evidence_record) _ (fault kind.Empty 7) refl refl (evidence_encodes _ v h);
  empty_chain = λ v h. not_encoded (file evidence_record) _ (fault kind.Empty 9) refl refl (evidence_encodes _ v h);
  no_time_stamp = λ v h. not_encoded (file evidence_record) _ (fault kind.End 13) refl refl (evidence_encodes _ v h);
  late_lists = λ v h. not_encoded (file evidence_record) _ (fault kind.Trailing 15) refl refl (evidence_encodes _ v h);
  falling_attributes =
      λ v h. not_encoded (file evidence_record) _ (fault kind.Order 29) refl refl (evidence_encodes _ v h);
  falling_values = λ v h. not_encoded (file evidence_record) _ (fault kind.Order 26) refl refl (evidence_encodes _ v h);
  explicit_algorithm =
      λ v h. not_encoded (file evidence_record) _ (fault kind.Tag 15) refl refl (evidence_encodes _ v h);
  longer = λ v h. not_encoded (file evidence_record) _ (fault kind.Trailing 15) refl refl (evidence_encodes _ v h);
}

pub evidence_fault_rows : EvidenceFaultRows
unfolding len
evidence_fault_rows = record {
  nothing = found _ _ (fault kind.End 0) refl;
  without_chains = found _ _ (fault kind.End 7) refl;
  no_time_stamp = found _ _ (fault kind.End 13) refl;
  high_tag = found _ _ (fault kind.HighTag 13) refl;
  zero_tag = found _ _ (fault kind.HighTag 13) refl;
  indefinite = found _ _ (fault kind.Indefinite 12) refl;
  long_form = found _ _ (fault kind.LengthForm 12) refl;
  cut = found _ _ (fault kind.Overrun 0) refl;
  overrun_inside = found _ _ (fault kind.Overrun 11) refl;
  set_of_algorithms = found _ _ (fault kind.Tag 5) refl;
  set_for_chain = found _ _ (fault kind.Tag 9) refl;
  set_in_chain = found _ _ (fault kind.Tag 11) refl;
  set_for_stamp = found _ _ (fault kind.Tag 13) refl;
  explicit_algorithm = found _ _ (fault kind.Tag 15) refl;
  explicit_encryption = found _ _ (fault kind.Tag 9) refl;
  null_for_value = found _ _ (fault kind.Tag 17) refl;
  constructed_value = found _ _ (fault kind.Tag 17) refl;
  value_in_no_list = found _ _ (fault kind.Tag 15) refl;
  late_attributes = found _ _ (fault kind.Tag 19) refl;
  late_crypto_infos = found _ _ (fault kind.Tag 14) refl;
  longer = found _ _ (fault kind.Trailing 15) refl;
  behind_chains = found _ _ (fault kind.Trailing 15) refl;
  behind_stamp = found _ _ (fault kind.Trailing 15) refl;
  encryption_of_three = found _ _ (fault kind.Trailing 16) refl;
  long_version = found _ _ (fault kind.Integer 4) refl;
  unfinished_algorithm = found _ _ (fault kind.Oid 11) refl;
  unfinished_of_stamp = found _ _ (fault kind.Oid 17) refl;
  unfinished_encryption = found _ _ (fault kind.Oid 11) refl;
  version_0 = found _ _ (fault kind.Value 4) refl;
  version_2 = found _ _ (fault kind.Value 4) refl;
  falling_attributes = found _ _ (fault kind.Order 29) refl;
  falling_values = found _ _ (fault kind.Order 26) refl;
  no_chain = found _ _ (fault kind.Empty 7) refl;
  empty_chain = found _ _ (fault kind.Empty 9) refl;
  second_chain_empty = found _ _ (fault kind.Empty 15) refl;
  no_list = found _ _ (fault kind.Empty 13) refl;
  empty_list = found _ _ (fault kind.Empty 15) refl;
  second_list_empty = found _ _ (fault kind.Empty 19) refl;
  no_attribute = found _ _ (fault kind.Empty 13) refl;
  no_crypto_info = found _ _ (fault kind.Empty 7) refl;
}

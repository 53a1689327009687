-- Worked rows: octets of records that are made and renewed. They were written by hand from RFC 4998; the SEQUENCE in
-- place of a token is empty, or has NULL in it.
use Rattle.std.specs.Prelude.{[], ◌∷◌, ◌++◌, Some, None}
use Rattle.der_core.specs.Hex.{hex}
use Rattle.digests.specs.Spelled.{with_null, sha256}
use Rattle.digests.specs.declared.algorithm.Alg.TheVariants.{Sha256, Sha512}
use Rattle.evidence_types.specs.EvidenceValue.{EvidenceValue, EncodesEvidence}
use Rattle.evidence_types.specs.EvidenceRows.{bare, empty, chained, five, encrypted_by}
use Rattle.evidence_trees.specs.Rows as trees
use Rattle.evidence_trees.specs.Rows.{d000, d001, d002, d004, node}
use Rattle.evidence_making.specs.Made.{made, IsLeafRecord}
use Rattle.evidence_making.specs.Renewed.{renewed, rehashed}

pub record MadeRows : Type 0 where
  -- two lists of a value each
  pub two_lists : EncodesEvidence
      (hex "3033 0201 01 300d 300b 0609 608648016503040201 301f 301d 301b a00b 0609 608648016503040201"
      ++ hex "a20a 3003 0401 bb 3003 0401 aa 3000")
      (made Sha256 (hex "bb" ∷ hex "aa" ∷ []) (hex "3000"))
  -- a value of no octets
  pub empty_value : EncodesEvidence
      (hex "302d 0201 01 300d 300b 0609 608648016503040201 3019 3017 3015 a00b 0609 608648016503040201"
      ++ hex "a204 3002 0400 3000")
      (made Sha256 ([] ∷ []) (hex "3000"))
  -- no lists
  pub no_lists : EncodesEvidence
      (hex "3027 0201 01 300d 300b 0609 608648016503040203 3013 3011 300f a00b 0609 608648016503040203 3000")
      (made Sha512 [] (hex "3000"))

-- the records of leaves of trees
pub record LeafRecordRows : Type 0 where
  -- of the only leaf
  pub of_one : IsLeafRecord trees.one d000 (hex "3000")
      (hex "304d 0201 01 300d 300b 0609 608648016503040201 3039 3037 3035 a00b 0609 608648016503040201"
      ++ hex "a224 3022 0420" ++ d000 ++ hex "3000")
  -- of the odd one of three
  pub odd_of_three : IsLeafRecord trees.three d001 (hex "3000")
      (hex "3071 0201 01 300d 300b 0609 608648016503040201 305d 305b 3059 a00b 0609 608648016503040201"
      ++ hex "a248 3022 0420" ++ d001 ++ hex "3022 0420" ++ node ++ hex "3000")
  -- of the first of five
  pub first_of_five : IsLeafRecord trees.five d004 (hex "3000")
      (hex "3081bd 0201 01 300d 300b 0609 608648016503040201 3081a8 3081a5 3081a2 a00b 0609 608648016503040201"
      ++ hex "a28190 3022 0420" ++ d004 ++ hex "3022 0420" ++ d002 ++ hex "3022 0420"
      ++ hex "66d184d913d284eb9a530819dbeafd813544228c223b27a5841afe3ea8ce0dd9" ++ hex "3022 0420" ++ d001
      ++ hex "3000")

-- a record of two chains of one time-stamp each, which names SHA-256 with NULL parameters
abbrev pub two_chains : EvidenceValue
two_chains = chained (with_null sha256 ∷ []) ((bare empty ∷ []) ∷ (bare empty ∷ []) ∷ [])

-- a record that names no algorithm, with an attribute and encrypted data
abbrev pub with_others : EvidenceValue
with_others = record {
  algorithms = [];
  crypto_infos = Some (five ∷ []);
  encryption = Some (encrypted_by None);
  chains = (bare empty ∷ []) ∷ [];
}

pub record RenewedRows : Type 0 where
  -- a time-stamp in the last of two chains, without lists; the algorithm is named already
  pub in_last_chain : EncodesEvidence
      (hex "3035 0201 01 300f 300d 0609 608648016503040201 0500 301f 3004 3002 3000"
      ++ hex "3017 3002 3000 3011 a00b 0609 608648016503040201 3002 0500")
      (renewed two_chains Sha256 [] (hex "30020500"))
  -- a chain after both; the algorithm is added after the other
  pub new_chain : EncodesEvidence
      (hex "3049 0201 01 301c 300d 0609 608648016503040201 0500 300b 0609 608648016503040203"
      ++ hex "3026 3004 3002 3000 3004 3002 3000 3018 3016 a00b 0609 608648016503040203 a205 3003 0401 aa 3000")
      (rehashed two_chains Sha512 (hex "aa" ∷ []) (hex "aa" ∷ []) (hex "3000"))
  -- of two data objects, whose node is cc, with a neighbour
  pub group_of_two : EncodesEvidence
      (hex "3051 0201 01 301c 300d 0609 608648016503040201 0500 300b 0609 608648016503040203"
      ++ hex "302e 3004 3002 3000 3004 3002 3000 3020 301e a00b 0609 608648016503040203"
      ++ hex "a20d 3006 0401 aa 0401 bb 3003 0401 dd 3000")
      (rehashed two_chains Sha512 (hex "aa" ∷ hex "bb" ∷ []) (hex "cc" ∷ hex "dd" ∷ []) (hex "3000"))
  -- the other fields stay
  pub others_stay : EncodesEvidence
      (hex "3040 0201 01 300d 300b 0609 608648016503040201 a00c 300a 0603 883702 3103 0201 05 a105 0603 883703"
      ++ hex "3017 3015 3002 3000 300f a00b 0609 608648016503040201 3000")
      (renewed with_others Sha256 [] (hex "3000"))

-- Worked rows: the values that octets of an evidence record encode, and octets that encode none. One record was made by
-- Bouncy Castle 1.72, with what `openssl asn1parse` 3.0 prints of it; the others were written by hand from RFC 4998.
-- Object identifiers below 2.999 (8837 in hexadecimal) are made up.
use Rattle.std.specs.Prelude.{ℕ, List, [], ◌∷◌, ◌++◌, Option, Some, None}
use Rattle.der_core.specs.Hex.{hex}
use Rattle.der_core.specs.Values.{AlgorithmValue}
use Rattle.der_grammar.specs.Vectors.{sha_256, time_stamp_token}
use Rattle.digests.specs.Spelled.{with_null, alone, sha256, sha512}
use Rattle.cms_types.specs.AttributeValue.{AttributeValue}
use Rattle.evidence_types.specs.StampValue.{StampValue}
use Rattle.evidence_types.specs.EvidenceValue.{EncryptionValue, EvidenceValue, EncodesEvidence}
use Rattle.evidence_types.specs.EvidenceVectors.{token}

-- an archive time-stamp of which the time-stamp alone is present
abbrev pub bare : List ℕ → StampValue
bare x = record { algorithm = None; attributes = None; lists = None; stamp = x }

-- an empty SEQUENCE for a time-stamp
abbrev pub empty : List ℕ
empty = hex "3000"

-- a record with these algorithms and chains, and no other part
abbrev pub chained : List AlgorithmValue → List (List StampValue) → EvidenceValue
chained xs cs = record { algorithms = xs; crypto_infos = None; encryption = None; chains = cs }

-- two attributes: one with the two values NULL and TRUE, in this order or the other, and one with the value 5
abbrev pub two_valued : List (List ℕ) → AttributeValue
two_valued values = record { id = hex "883701"; values = values }

abbrev pub five : AttributeValue
five = record { id = hex "883702"; values = hex "020105" ∷ [] }

-- how data are encrypted: the type 2.999.3, with this value
abbrev pub encrypted_by : Option (List ℕ) → EncryptionValue
encrypted_by value = record { id = hex "883703"; value = value }

-- the hash values of Bouncy Castle's record
abbrev pub of_document : List ℕ
of_document = hex "4934939abbba0c0d7265f9c1f9b2649b057568eade36b4eef77b6d4db574d4ed"

abbrev pub of_neighbour : List ℕ
of_neighbour = hex "a6eb4dec92a642621c5f5b6e2c2b4266f82de021829330c6d3dc016ea121cb49"

abbrev pub of_others : List ℕ
of_others = hex "83154476d5d5f5a0097ffd088d3459a1a8d591a840246ab8a194db67270dbabe"

pub record EvidenceRows : Type 0 where
  -- Bouncy Castle's: the example of RFC 4998, 4.2, with a document's hash value and its neighbour in the first list
  pub reduced : EncodesEvidence
      (hex "30820420 0201 01 300d" ++ sha_256 ++ hex "3082040a 30820406 30820402 a00b 0609 608648016503040201"
      ++ hex "a26a 3044 0420" ++ of_document ++ hex "0420" ++ of_neighbour ++ hex "3022 0420" ++ of_others ++ token)
      (chained (alone sha256 ∷ []) ((record {
        algorithm = Some (alone sha256);
        attributes = None;
        lists = Some ((of_document ∷ of_neighbour ∷ []) ∷ (of_others ∷ []) ∷ []);
        stamp = token;
      } ∷ []) ∷ []))
  -- every part that may be absent is absent, and no algorithm is named
  pub least : EncodesEvidence (hex "300d 0201 01 3000 3006 3004 3002 3000") (chained [] ((bare empty ∷ []) ∷ []))
  -- one chain of one token
  pub of_token : EncodesEvidence
      (hex "30820169 0201 01 300d" ++ sha_256 ++ hex "30820153 3082014f 3082014b" ++ time_stamp_token)
      (chained (alone sha256 ∷ []) ((bare time_stamp_token ∷ []) ∷ []))
  -- two chains, of two time-stamps and of one
  pub two_chains : EncodesEvidence
      (hex "3019 0201 01 3000 3012 300a 3002 3000 3004 3002 0500 3004 3002 3000")
      (chained [] ((bare empty ∷ bare (hex "30020500") ∷ []) ∷ (bare empty ∷ []) ∷ []))
  -- every part is present. The attributes of the record, and the values of one, are in falling order, those of the
  -- time-stamp in ascending order; hash values have one octet and none
  pub every_part : EncodesEvidence
      (hex "308184 0201 01 301c" ++ sha_256 ++ hex "300d 0609 608648016503040203 0500"
      ++ hex "a01a 300c 0603 883701 3105 0500 0101 ff 300a 0603 883702 3103 0201 05 a107 0603 883703 0500"
      ++ hex "303c 303a 3038 a00b 0609 608648016503040203"
      ++ hex "a11a 300a 0603 883702 3103 0201 05 300c 0603 883701 3105 0101 ff 0500"
      ++ hex "a20b 3005 0401 aa 0400 3002 0400 3000")
      (record {
        algorithms = alone sha256 ∷ with_null sha512 ∷ [];
        crypto_infos = Some (two_valued (hex "0500" ∷ hex "0101ff" ∷ []) ∷ five ∷ []);
        encryption = Some (encrypted_by (Some (hex "0500")));
        chains = (record {
          algorithm = Some (alone sha512);
          attributes = Some (five ∷ two_valued (hex "0101ff" ∷ hex "0500" ∷ []) ∷ []);
          lists = Some ((hex "aa" ∷ [] ∷ []) ∷ ([] ∷ []) ∷ []);
          stamp = empty;
        } ∷ []) ∷ [];
      })
  -- encrypted, without a value
  pub encrypted : EncodesEvidence (hex "3014 0201 01 3000 a105 0603 883703 3006 3004 3002 3000")
      (record {
        algorithms = [];
        crypto_infos = None;
        encryption = Some (encrypted_by None);
        chains = (bare empty ∷ []) ∷ [];
      })
  -- the same attribute twice
  pub twice : EncodesEvidence
      (hex "3027 0201 01 3000 3020 301e 301c a118 300a 0603 883702 3103 0201 05 300a 0603 883702 3103 0201 05 3000")
      (chained []
      ((record { algorithm = None; attributes = Some (five ∷ five ∷ []); lists = None; stamp = empty } ∷ []) ∷ []))
  -- version 2
  pub another_version : (v : EvidenceValue) → EncodesEvidence (hex "300d 0201 02 3000 3006 3004 3002 3000") v → ⊥
  -- without chains, with no chain, and with a chain of no time-stamp
  pub without_chains : (v : EvidenceValue) → EncodesEvidence (hex "3005 0201 01 3000") v → ⊥
  pub no_chain : (v : EvidenceValue) → EncodesEvidence (hex "3007 0201 01 3000 3000") v → ⊥
  pub empty_chain : (v : EvidenceValue) → EncodesEvidence (hex "3009 0201 01 3000 3002 3000") v → ⊥
  -- an archive time-stamp with no part
  pub no_time_stamp : (v : EvidenceValue) → EncodesEvidence (hex "300b 0201 01 3000 3004 3002 3000") v → ⊥
  -- a list of hash values that is the time-stamp's last part
  pub late_lists : (v : EvidenceValue)
      → EncodesEvidence (hex "3013 0201 01 3000 300c 300a 3008 3000 a204 3002 0400") v → ⊥
  -- the attributes of a time-stamp, and the values of one, in falling order
  pub falling_attributes : (v : EvidenceValue) → EncodesEvidence
      (hex "3029 0201 01 3000 3022 3020 301e a11a 300c 0603 883701 3105 0101ff 0500 300a 0603 883702 3103 0201 05 3000")
      v → ⊥
  pub falling_values : (v : EvidenceValue)
      → EncodesEvidence (hex "301d 0201 01 3000 3016 3014 3012 a10e 300c 0603 883701 3105 0500 0101 ff 3000") v → ⊥
  -- the algorithm of a time-stamp in an explicit tag
  pub explicit_algorithm : (v : EvidenceValue)
      → EncodesEvidence (hex "3016 0201 01 3000 300f 300d 300b a007 3005 0603 883701 3000") v → ⊥
  -- an octet after it
  pub longer : (v : EvidenceValue) → EncodesEvidence (hex "300d 0201 01 3000 3006 3004 3002 3000 00") v → ⊥

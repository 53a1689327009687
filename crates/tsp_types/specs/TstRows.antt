-- Worked rows: the values that octets of a TSTInfo encode. Those called OpenSSL's were taken from tokens of `openssl ts
-- -reply` 3.0, with what `openssl ts -reply -text` prints for them; the others were written by hand.
use Rattle.std.specs.Prelude.{ℕ, List, [], ◌∷◌, ◌++◌, Option, Some, None, codes}
use Rattle.der_core.specs.Hex.{hex}
use Rattle.der_grammar.specs.Vectors.{digest_of_abc, imprint_of_abc}
use Rattle.der_core.specs.declared.flag.Flag.TheVariants.{Absent, False, True}
use Rattle.digests.specs.Spelled.{with_null, sha1, sha256, sha512}
use Rattle.tsp_types.specs.ImprintValue.{ImprintValue}
use Rattle.tsp_types.specs.TstValue.{AccuracyValue, TstValue, EncodesTst}

abbrev pub abc_by_sha256 : ImprintValue
abc_by_sha256 = record { algorithm = with_null sha256; digest = digest_of_abc }

abbrev pub abc_by_sha512 : ImprintValue
abc_by_sha512 = record {
  algorithm = with_null sha512;
  digest =
      hex "ddaf35a193617abacc417349ae20413112e6fa4e89a97ea20a9eeee64b55d39a"
      ++ hex "2192992a274fc1a836ba3c23a3feebbd454d4423643ce80e2a9ac94fa54ca49f";
}

-- the policies 2.999.3 and 2.999.4
abbrev pub policy_3 : List ℕ
policy_3 = hex "883703"

abbrev pub policy_4 : List ℕ
policy_4 = hex "883704"

abbrev pub accuracy_of : Option (List ℕ) → Option (List ℕ) → Option (List ℕ) → AccuracyValue
accuracy_of seconds millis micros = record { seconds = seconds; millis = millis; micros = micros }

-- the directoryName of the authority, O=cmsproof, CN=Stamps
abbrev pub name_of_authority : List ℕ
name_of_authority = hex "a426 3024 3111 300f 0603 55040a 0c08 636d7370726f6f66 310f 300d 0603 550403 0c06 5374616d7073"

-- a TSTInfo in which only these parts are present: with the policy 2.999.3, over SHA-256 of "abc", serial number 9
abbrev pub bare : List ℕ → TstValue
bare time = record {
  policy = policy_3;
  imprint = abc_by_sha256;
  serial = hex "09";
  time = time;
  accuracy = None;
  ordering = Absent;
  nonce = None;
  tsa = None;
  extensions = None;
}

-- its parts up to the time, which has 15 octets, and the parts that come before it
abbrev pub front : List ℕ
front = hex "0201 01 0603 883703" ++ imprint_of_abc ++ hex "0201 09"

abbrev pub noon : List ℕ
noon = codes "20240115120000Z"

pub record TstRows : Type 0 where
  -- OpenSSL's: an accuracy of three parts, TRUE for ordering, a name
  pub accurate : EncodesTst
      (hex "308188 0201 01 0603 883703" ++ imprint_of_abc ++ hex "0201 0c 180f" ++ codes "20261123001628Z"
      ++ hex "300a 0201 01 8002 01f4 8101 64 0101 ff a028" ++ name_of_authority)
      (record {
        policy = policy_3;
        imprint = abc_by_sha256;
        serial = hex "0c";
        time = codes "20261123001628Z";
        accuracy = Some (accuracy_of (Some (hex "01")) (Some (hex "01f4")) (Some (hex "64")));
        ordering = True;
        nonce = None;
        tsa = Some name_of_authority;
        extensions = None;
      })
  -- OpenSSL's: SHA-1 without parameters, thousandths alone, a nonce whose contents begin with 00
  pub thousandths : EncodesTst
      (hex "304f 0201 01 0603 883703 3021 3009 0605 2b0e03021a 0500 0414 a9993e364706816aba3e25717850c26c9cd0d89d"
      ++ hex "0201 0d 180f"
      ++ codes "20261123001628Z"
      ++ hex "3003 8001 05 0209 00f01b1a919ff67921")
      (record {
        policy = policy_3;
        imprint = record { algorithm = with_null sha1; digest = hex "a9993e364706816aba3e25717850c26c9cd0d89d" };
        serial = hex "0d";
        time = codes "20261123001628Z";
        accuracy = Some (accuracy_of None (Some (hex "05")) None);
        ordering = Absent;
        nonce = Some (hex "00f01b1a919ff67921");
        tsa = None;
        extensions = None;
      })
  -- OpenSSL's: SHA-512, millionths in the time, seconds alone, TRUE for ordering
  pub fraction : EncodesTst
      (hex "307f 0201 01 0603 883704 3051 300d 0609 608648016503040203 0500 0440"
      ++ hex "ddaf35a193617abacc417349ae20413112e6fa4e89a97ea20a9eeee64b55d39a"
      ++ hex "2192992a274fc1a836ba3c23a3feebbd454d4423643ce80e2a9ac94fa54ca49f 0201 0a 1816"
      ++ codes "20261123001609.965918Z" ++ hex "3004 0202 012c 0101 ff")
      (record {
        policy = policy_4;
        imprint = abc_by_sha512;
        serial = hex "0a";
        time = codes "20261123001609.965918Z";
        accuracy = Some (accuracy_of (Some (hex "012c")) None None);
        ordering = True;
        nonce = None;
        tsa = None;
        extensions = None;
      })
  -- every part that may be absent is absent
  pub least : EncodesTst (hex "304f" ++ front ++ hex "180f" ++ noon) (bare noon)
  -- every part is present: FALSE spelled out, a dNSName, an extension 2.5.29.37 that is critical
  pub whole : EncodesTst
      (hex "306e" ++ front ++ hex "180f"
      ++ noon ++ hex "3000 0101 00 0201 05 a003 8201 61 a110 300e 0603 551d25 0101 ff 0404 deadbeef")
      (record {
        policy = policy_3;
        imprint = abc_by_sha256;
        serial = hex "09";
        time = noon;
        accuracy = Some (accuracy_of None None None);
        ordering = False;
        nonce = Some (hex "05");
        tsa = Some (hex "8201 61");
        extensions = Some (record { id = hex "551d25"; critical = True; value = hex "deadbeef" } ∷ []);
      })
  -- an empty list of extensions
  pub no_extension : EncodesTst (hex "3051" ++ front ++ hex "180f" ++ noon ++ hex "a100")
      (record {
        policy = policy_3;
        imprint = abc_by_sha256;
        serial = hex "09";
        time = noon;
        accuracy = None;
        ordering = Absent;
        nonce = None;
        tsa = None;
        extensions = Some [];
      })
  -- version 2
  pub another_version : (v : TstValue)
      → EncodesTst (hex "304f 0201 02 0603 883703" ++ imprint_of_abc ++ hex "0201 09 180f" ++ noon) v → ⊥
  -- without a serial number
  pub no_serial : (v : TstValue)
      → EncodesTst (hex "304c 0201 01 0603 883703" ++ imprint_of_abc ++ hex "180f" ++ noon) v → ⊥
  -- the second 60
  pub no_time : (v : TstValue) → EncodesTst (hex "304f" ++ front ++ hex "180f" ++ codes "20240115115960Z") v → ⊥
  -- the moment as a UTCTime
  pub utc_time : (v : TstValue) → EncodesTst (hex "304d" ++ front ++ hex "170d" ++ codes "240115120000Z") v → ⊥
  -- millionths before thousandths
  pub early_micros : (v : TstValue)
      → EncodesTst (hex "3057" ++ front ++ hex "180f" ++ noon ++ hex "3006 8101 01 8001 01") v → ⊥
  -- a nonce before the ordering
  pub early_nonce : (v : TstValue) → EncodesTst (hex "3055" ++ front ++ hex "180f" ++ noon ++ hex "0201 05 0101 ff") v
      → ⊥
  -- 01 for TRUE
  pub true_by_01 : (v : TstValue) → EncodesTst (hex "3052" ++ front ++ hex "180f" ++ noon ++ hex "0101 01") v → ⊥
  -- two names, and none
  pub two_names : (v : TstValue)
      → EncodesTst (hex "3057" ++ front ++ hex "180f" ++ noon ++ hex "a006 8201 61 8201 62") v → ⊥
  pub no_name : (v : TstValue) → EncodesTst (hex "3051" ++ front ++ hex "180f" ++ noon ++ hex "a000") v → ⊥
  -- the name without the element around it, which would be IMPLICIT
  pub bare_name : (v : TstValue) → EncodesTst (hex "3052" ++ front ++ hex "180f" ++ noon ++ hex "8201 61") v → ⊥
  -- an octet after it
  pub longer : (v : TstValue) → EncodesTst (hex "304f" ++ front ++ hex "180f" ++ noon ++ hex "00") v → ⊥

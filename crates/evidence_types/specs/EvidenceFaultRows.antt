-- Worked rows: faults that octets of an evidence record have, for each kind that its grammar can have at least one. All
-- were written by hand from RFC 4998: records whose time-stamp is an empty SEQUENCE, which begins at 13 in the least.
use Rattle.std.specs.Prelude.{ℕ, List, []}
use Rattle.der_core.specs.declared.fault.Kind.{Kind}
use Rattle.der_core.specs.declared.fault.Kind.TheVariants as kind
use Rattle.der_core.specs.Hex.{hex}
use Rattle.der_core.specs.Reading.{fault}
use Rattle.der_core.specs.Faults.{Faults}
use Rattle.der_core.specs.Grammar.{file}
use Rattle.evidence_types.specs.EvidenceTable.{evidence_record}

-- the octets have this fault at this place
abbrev pub Has : List ℕ → Kind → ℕ → Type 0
Has bytes k n = Faults (file evidence_record) bytes (fault k n)

pub record EvidenceFaultRows : Type 0 where
  -- no octets; no chains; no time-stamp
  pub nothing : Has [] kind.End 0
  pub without_chains : Has (hex "3005 0201 01 3000") kind.End 7
  pub no_time_stamp : Has (hex "300b 0201 01 3000 3004 3002 3000") kind.End 13
  -- an identifier of more than one octet, and 00, where the time-stamp is due
  pub high_tag : Has (hex "300d 0201 01 3000 3006 3004 3002 1f00") kind.HighTag 13
  pub zero_tag : Has (hex "300d 0201 01 3000 3006 3004 3002 0000") kind.HighTag 13
  -- an archive time-stamp of indefinite length, and one whose length could be shorter
  pub indefinite : Has (hex "300d 0201 01 3000 3006 3004 3080 3000") kind.Indefinite 12
  pub long_form : Has (hex "300e 0201 01 3000 3007 3005 308102 3000") kind.LengthForm 12
  -- without the last octet, and an archive time-stamp that goes past its chain
  pub cut : Has (hex "300d 0201 01 3000 3006 3004 3002 30") kind.Overrun 0
  pub overrun_inside : Has (hex "300d 0201 01 3000 3006 3004 3003 3000") kind.Overrun 11
  -- a SET for the algorithms, a chain, an archive time-stamp, the time-stamp
  pub set_of_algorithms : Has (hex "300d 0201 01 3100 3006 3004 3002 3000") kind.Tag 5
  pub set_for_chain : Has (hex "300d 0201 01 3000 3006 3104 3002 3000") kind.Tag 9
  pub set_in_chain : Has (hex "300d 0201 01 3000 3006 3004 3102 3000") kind.Tag 11
  pub set_for_stamp : Has (hex "300d 0201 01 3000 3006 3004 3002 3100") kind.Tag 13
  -- the algorithm of a time-stamp, and the encryption, in an explicit tag
  pub explicit_algorithm : Has (hex "3016 0201 01 3000 300f 300d 300b a007 3005 0603 883701 3000") kind.Tag 15
  pub explicit_encryption : Has (hex "3016 0201 01 3000 a107 3005 0603 883703 3006 3004 3002 3000") kind.Tag 9
  -- NULL for a hash value, a constructed one, and one that stands in no list
  pub null_for_value : Has (hex "3013 0201 01 3000 300c 300a 3008 a204 3002 0500 3000") kind.Tag 17
  pub constructed_value : Has (hex "3013 0201 01 3000 300c 300a 3008 a204 3002 2400 3000") kind.Tag 17
  pub value_in_no_list : Has (hex "3011 0201 01 3000 300a 3008 3006 a202 0400 3000") kind.Tag 15
  -- attributes behind the lists, and cryptoInfos behind the encryption
  pub late_attributes :
      Has (hex "3021 0201 01 3000 301a 3018 3016 a204 3002 0400 a10c 300a 0603 883702 3103 0201 05 3000") kind.Tag 19
  pub late_crypto_infos :
      Has (hex "3022 0201 01 3000 a105 0603 883703 a00c 300a 0603 883702 3103 0201 05 3006 3004 3002 3000") kind.Tag 14
  -- something behind the record, the chains, the time-stamp, the value of the encryption
  pub longer : Has (hex "300d 0201 01 3000 3006 3004 3002 3000 00") kind.Trailing 15
  pub behind_chains : Has (hex "300f 0201 01 3000 3006 3004 3002 3000 0500") kind.Trailing 15
  pub behind_stamp : Has (hex "300f 0201 01 3000 3008 3006 3004 3000 3000") kind.Trailing 15
  pub encryption_of_three :
      Has (hex "3018 0201 01 3000 a109 0603 883703 0500 0500 3006 3004 3002 3000") kind.Trailing 16
  -- a version of two octets where one would do
  pub long_version : Has (hex "300e 0202 0001 3000 3006 3004 3002 3000") kind.Integer 4
  -- object identifiers that do not end: of an algorithm of the record, of one of a time-stamp, of the encryption
  pub unfinished_algorithm : Has (hex "3013 0201 01 3006 3004 0602 2a80 3006 3004 3002 3000") kind.Oid 11
  pub unfinished_of_stamp : Has (hex "3013 0201 01 3000 300c 300a 3008 a004 0602 2a80 3000") kind.Oid 17
  pub unfinished_encryption : Has (hex "3013 0201 01 3000 a104 0602 2a80 3006 3004 3002 3000") kind.Oid 11
  -- versions 0 and 2
  pub version_0 : Has (hex "300d 0201 00 3000 3006 3004 3002 3000") kind.Value 4
  pub version_2 : Has (hex "300d 0201 02 3000 3006 3004 3002 3000") kind.Value 4
  -- attributes of a time-stamp, and the values of one, in falling order
  pub falling_attributes : Has
      (hex "3029 0201 01 3000 3022 3020 301e a11a 300c 0603 883701 3105 0101ff 0500 300a 0603 883702 3103 0201 05 3000")
      kind.Order 29
  pub falling_values :
      Has (hex "301d 0201 01 3000 3016 3014 3012 a10e 300c 0603 883701 3105 0500 0101 ff 3000") kind.Order 26
  -- no chain; a chain of no time-stamp, by itself and behind another
  pub no_chain : Has (hex "3007 0201 01 3000 3000") kind.Empty 7
  pub empty_chain : Has (hex "3009 0201 01 3000 3002 3000") kind.Empty 9
  pub second_chain_empty : Has (hex "300f 0201 01 3000 3008 3004 3002 3000 3000") kind.Empty 15
  -- no list; a list of no hash value, by itself and behind another
  pub no_list : Has (hex "300f 0201 01 3000 3008 3006 3004 a200 3000") kind.Empty 13
  pub empty_list : Has (hex "3011 0201 01 3000 300a 3008 3006 a202 3000 3000") kind.Empty 15
  pub second_list_empty : Has (hex "3015 0201 01 3000 300e 300c 300a a206 3002 0400 3000 3000") kind.Empty 19
  -- no attribute, of a time-stamp and of the record
  pub no_attribute : Has (hex "300f 0201 01 3000 3008 3006 3004 a100 3000") kind.Empty 13
  pub no_crypto_info : Has (hex "300f 0201 01 3000 a000 3006 3004 3002 3000") kind.Empty 7

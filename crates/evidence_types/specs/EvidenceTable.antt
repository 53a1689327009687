-- The grammar of evidence records (RFC 4998, 3.1, 4.1 and 5.1, whose module has implicit tags): one row for each part,
-- in the order of the parts. `Grammar` of `der_core` has the words, and says what the row above each form means.
-- These forms have a table of their own: all crates above the table of `der_grammar` are proved again when it changes.
use Rattle.std.specs.Prelude.{[], ◌∷◌}
use Rattle.der_core.specs.Form.{Optional, Form, opaque, full, opaques, filled}
use Rattle.der_core.specs.Grammar.{◌▸◌, one, opt, list, ordered, version, oid, algorithm}
use Rattle.der_grammar.specs.Table.{signed_attribute, unsigned_attribute}

-- PartialHashtree: SEQ list OCTET STRING, not empty
abbrev pub hash_list : Form
hash_list = filled (list 0x04 opaque)

-- ArchiveTimeStamp: SEQ { [0] AlgId opt; [1] ordered Attribute opt, not empty; [2] list PartialHashtree opt, not empty;
--   opaque with tag 30 }
abbrev pub archive_time_stamp : Form
archive_time_stamp =
    opt 0xa0 algorithm ▸
    opt 0xa1 (filled (ordered 0x30 signed_attribute)) ▸
    opt 0xa2 (filled (list 0x30 hash_list)) ▸
    one 0x30 opaque ▸
    full

-- ArchiveTimeStampChain: SEQ list ArchiveTimeStamp, not empty
abbrev pub chain : Form
chain = filled (list 0x30 archive_time_stamp)

-- EncryptionInfo: [1] { OID, opaque opt }
abbrev pub encryption_info : Form
encryption_info =
    one 0x06 oid ▸
    opaques Optional ▸
    full

-- EvidenceRecord: SEQ { INTEGER 1; SEQ list AlgId; [0] list Attribute opt, not empty; EncryptionInfo opt;
--   SEQ list ArchiveTimeStampChain, not empty }
abbrev pub evidence_record : Form
evidence_record =
    one 0x02 (version (1 ∷ [])) ▸
    one 0x30 (list 0x30 algorithm) ▸
    opt 0xa0 (filled (list 0x30 unsigned_attribute)) ▸
    opt 0xa1 encryption_info ▸
    one 0x30 (filled (list 0x30 chain)) ▸
    full

-- Worked rows: files that C1 to C5 refuse, and which of two of these rules is reported. Nobody's trust matters.
use Rattle.std.specs.Prelude.{List, [], ◌++◌, ℕ, Some, None, codes}
use Rattle.der_core.specs.Hex.{hex}
use Rattle.der_core.specs.Reading.{fault}
use Rattle.der_core.specs.declared.fault.Kind.TheVariants as kind
use Rattle.der_grammar.specs.Vectors.{sha_256, content_type_attribute, digest_attribute, signer_with, exchanged_file}
use Rattle.der_grammar.specs.Vectors.{stamped_file}
use Rattle.check_fit.specs.declared.rules.FileRule.TheVariants as rule
use Rattle.check_fit.specs.declared.rules.Refused.TheVariants as refused
use Rattle.check_verdict.specs.Passing.{Terms}
use Rattle.check_verdict.specs.Verdicts.{Refuses}

-- a ContentInfo of id-data with an empty OCTET STRING (RFC 5652, 4)
abbrev pub data_file : List ℕ
data_file = hex "300f 0609 2a864886f70d010701 a002 0400"

-- a SignedData over abc without signers, with its content and without (RFC 5652, 5.1 and 5.2)
abbrev pub unsigned_file : List ℕ
unsigned_file =
    hex "302a 0609 2a864886f70d010702 a01d 301b 0201 01 3100 3012 0609 2a864886f70d010701 a005 0403 616263 3100"

abbrev pub unsigned_detached_file : List ℕ
unsigned_detached_file = hex "3023 0609 2a864886f70d010702 a016 3014 0201 01 3100 300b 0609 2a864886f70d010701 3100"

-- the file that is signed without its content
abbrev pub detached_file : List ℕ
detached_file = hex "3081b0 0609 2a864886f70d010702 a081a2 30819f 0201 01 310d" ++ sha_256
    ++ hex "300b 0609 2a864886f70d010701 317e 307c"
    ++ signer_with (content_type_attribute ++ digest_attribute)

pub record RefusalRows (t : Terms) : Type 0 where
  -- no octets; and attributes out of their order, though a content is handed in besides that of the file
  pub nothing : Refuses t [] None (refused.File (rule.Malformed (fault kind.End 0)))
  pub out_of_order : Refuses t exchanged_file (Some (codes "abc"))
      (refused.File (rule.Malformed (fault kind.Order 148)))
  -- another type, with a content handed in and without
  pub another_type : Refuses t data_file None (refused.File rule.NotSignedData)
  pub another_type_with_content : Refuses t data_file (Some (codes "abc")) (refused.File rule.NotSignedData)
  -- no signer, before no content and before a content that is there twice
  pub no_signer : Refuses t unsigned_file None (refused.File rule.NoSigner)
  pub no_signer_nor_content : Refuses t unsigned_detached_file None (refused.File rule.NoSigner)
  pub no_signer_and_content_twice : Refuses t unsigned_file (Some (codes "abc")) (refused.File rule.NoSigner)
  -- no content; and twice, though both are the same
  pub no_content : Refuses t detached_file None (refused.File rule.NoContent)
  pub content_twice : Refuses t stamped_file (Some (codes "abc")) (refused.File rule.ContentTwice)

abbrev pub AllRefusalRows : Type 0
AllRefusalRows = (t : Terms) → RefusalRows t

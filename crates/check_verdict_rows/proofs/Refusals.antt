-- The worked rows of files that C1 to C5 refuse hold, by computing what each file reads as.
use Rattle.std.proofs.Common.{[], ◌∷◌, Some, None, Ok, Err, refl}
use Rattle.std.specs.Prelude.{codes}
use Rattle.der_core.specs.Element.{len}
use Rattle.der_core.specs.Hex.{hex}
use Rattle.der_core.specs.Reading.{fault}
use Rattle.der_core.specs.declared.fault.Kind.TheVariants as kind
use Rattle.der_core.specs.AlgorithmReading.{algorithm_in}
use Rattle.der_core.specs.Reading.{further_at, length_at, next_at, expect_at, enter_at, end_at, element_at, optional_at}
use Rattle.der_core.specs.Reading.{none_at, opaque_at, many_from, many_in}
use Rattle.der_core.proofs.Found.{found}
use Rattle.der_lists.specs.Checked.{checked_from, checked_in, rank_at, tag_at}
use Rattle.der_lists.specs.Items.{opaque_item, opaque_front, front_at, explicit_opaque_in}
use Rattle.cms_types.specs.AttributeReading.{attribute_in, signed_attribute_in}
use Rattle.cms_types.specs.SignerReading.{issuer_and_serial_in, sid_at, signer_in}
use Rattle.cms_types.specs.SignedDataValue.{SignedDataValue, SignedContent, OtherContent, EncodesSignedData}
use Rattle.cms_types.specs.SignedDataValue.{EncodesAnotherType}
use Rattle.cms_types.specs.SignedDataReading.{explicit_octets_in, encapsulated_in, signed_data_in}
use Rattle.cms_types.specs.SignedDataReading.{explicit_signed_data_in, signed_content_in, other_content_in}
use Rattle.cms_types.specs.SignedDataReading.{content_info_in, content_info_at}
use Rattle.cms_types.specs.declared.fault.CmsFault.TheVariants as cms
use Rattle.cms_types.proofs.SignedDataReaders.{content_takes}
use Rattle.check_fit.specs.FittingRows.{id_data}
use Rattle.check_verdict.specs.Passing.{Terms}
use Rattle.check_verdict.specs.Rows.{file_data, stamps}
use Rattle.check_verdict.proofs.Rows.{below_256, value_rows}
use Rattle.check_verdict_rows.specs.RefusalRows.{data_file, unsigned_file, unsigned_detached_file, detached_file}
use Rattle.check_verdict_rows.specs.RefusalRows.{RefusalRows}

abbrev unsigned : SignedDataValue
unsigned = record {
  version = 1 ∷ [];
  digest_algorithms = [];
  encapsulated = record { content_type = id_data; content = Some (codes "abc") };
  certificates = None;
  crls = None;
  signers = [];
}

abbrev unsigned_detached : SignedDataValue
unsigned_detached = record unsigned { encapsulated = record { content_type = id_data; content = None } }

abbrev detached : SignedDataValue
detached = record (file_data None) { encapsulated = record { content_type = id_data; content = None } }

record FileValues : Type 0 where
  pub another : EncodesAnotherType data_file
  pub unsigned_reads : EncodesSignedData unsigned_file unsigned
  pub unsigned_detached_reads : EncodesSignedData unsigned_detached_file unsigned_detached
  pub detached_reads : EncodesSignedData detached_file detached

file_values : FileValues
unfolding len algorithm_in further_at length_at next_at expect_at enter_at end_at element_at optional_at none_at
    opaque_at many_from many_in
    checked_from checked_in rank_at tag_at opaque_item opaque_front front_at
    attribute_in signed_attribute_in issuer_and_serial_in sid_at signer_in explicit_octets_in encapsulated_in
    signed_data_in explicit_signed_data_in
    signed_content_in other_content_in explicit_opaque_in content_info_in content_info_at
file_values = record {
  another = (
    id_data,
    hex "0400",
    content_takes data_file (OtherContent id_data (hex "0400")) (below_256 data_file refl) refl,
  );
  unsigned_reads = content_takes unsigned_file (SignedContent unsigned) (below_256 unsigned_file refl) refl;
  unsigned_detached_reads = content_takes unsigned_detached_file (SignedContent unsigned_detached)
      (below_256 unsigned_detached_file refl) refl;
  detached_reads = content_takes detached_file (SignedContent detached) (below_256 detached_file refl) refl;
}

pub refusal_rows : (t : Terms) → RefusalRows t
unfolding len
refusal_rows t = record {
  nothing = (Err (cms.Malformed (fault kind.End 0)), found _ _ (fault kind.End 0) refl, refl);
  out_of_order = (Err (cms.Malformed (fault kind.Order 148)), found _ _ (fault kind.Order 148) refl, refl);
  another_type = (Err cms.NotSignedData, file_values.another, refl);
  another_type_with_content = (Err cms.NotSignedData, file_values.another, refl);
  no_signer = (Ok unsigned, file_values.unsigned_reads, refl);
  no_signer_nor_content = (Ok unsigned_detached, file_values.unsigned_detached_reads, refl);
  no_signer_and_content_twice = (Ok unsigned, file_values.unsigned_reads, refl);
  no_content = (Ok detached, file_values.detached_reads, refl);
  content_twice = (Ok (file_data stamps), value_rows.reads_stamped_file, refl);
}

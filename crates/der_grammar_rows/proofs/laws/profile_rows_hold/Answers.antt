use Rattle.der_grammar_rows.proofs.laws.profile_rows_hold.Goals as goal
use Rattle.der_grammar_rows.proofs.Rows.{size_rows, header_fault_rows, part_fault_rows, contents_fault_rows}
use Rattle.der_grammar_rows.proofs.Rows.{missing_part_rows, inner_part_rows}
use Rattle.der_grammar_rows.proofs.Rows.{second_part_rows, last_part_rows, stamp_encoding_rows}
use Rattle.der_grammar_rows.proofs.Rows.{certificate_encoding_rows, signed_encoding_rows}
use Rattle.der_grammar_rows.proofs.Rows.{no_encoding_rows, open_rows}
use Rattle.der_grammar_rows.proofs.RowsRefuted.{no_fault_rows}

pub returns : goal.returns
returns c = record {
  sizes = size_rows;
  header_faults = header_fault_rows;
  part_faults = part_fault_rows;
  contents_faults = contents_fault_rows;
  missing_parts = missing_part_rows;
  inner_parts = inner_part_rows;
  second_parts = second_part_rows;
  last_parts = last_part_rows;
  stamp_encodings = stamp_encoding_rows;
  certificate_encodings = certificate_encoding_rows;
  signed_encodings = signed_encoding_rows;
  no_encodings = no_encoding_rows;
  openly = open_rows;
  no_faults = no_fault_rows;
}

-- What is printed of octets that may be a SignedData, by what reading them gives.
use Rattle.std.specs.Prelude.{ℕ, List, ◌++◌, Result, Ok, Err, codes}
use Rattle.cms_types.specs.SignedDataValue.{SignedDataValue, encoding, SignedContent}
use Rattle.cms_types.specs.declared.fault.CmsFault.{CmsFault}
use Rattle.cms_types.specs.CmsFaults.{cms_fault_text}
use Rattle.lines_shown.specs.Lines.{line}
use Rattle.real_files.specs.PartLines.{sum_line, part_lines}

-- its parts and the octets that are written of it, or the line of the fault
abbrev pub read_part : Result SignedDataValue CmsFault → List ℕ
read_part (Ok v) = part_lines v ++ sum_line (codes "written") (encoding (SignedContent v))
read_part (Err fault) = line (codes "read") (cms_fault_text fault)

-- The text of each fault of a pass: its code and its name.
use Rattle.std.specs.Prelude.{ℕ, List, ◌++◌, codes}
use Rattle.der_core.specs.FaultTexts.{fault_text}
use Rattle.cms_stream.specs.declared.stream_fault.StreamFault.{StreamFault}
use Rattle.cms_stream.specs.declared.stream_fault.StreamFault.TheVariants as stream

abbrev pub stream_fault_text : StreamFault → List ℕ
stream_fault_text (stream.Malformed fault) = codes "C1 " ++ fault_text fault
stream_fault_text stream.ReadFailed = codes "X1 ReadFailed"
stream_fault_text stream.TooLong = codes "X3 TooLong"

-- Worked rows: beginnings of inputs, and what can be said of them.
use Rattle.std.specs.Prelude.{◌++◌, take}
use Rattle.der_core.specs.declared.fault.Kind.TheVariants as kind
use Rattle.der_core.specs.Hex.{hex}
use Rattle.der_grammar.specs.Vectors.{exchanged_file, stamped_file}
use Rattle.der_core.specs.Faults.{Faults}
use Rattle.der_core.specs.OpenFaults.{FaultsOpenly, StatesAt}
use Rattle.der_grammar.specs.TooLarge.{IsTooLarge}
use Rattle.der_core.specs.Grammar.{file}
use Rattle.der_grammar.specs.Table.{request, content_info, encap, signer_infos}
use Rattle.der_grammar_rows.specs.FaultRows.{fault}

pub record OpenRows : Type 0 where
  -- 55 octets of the stamped file state that its eContentType has 11
  pub content_type : StatesAt (file content_info) (take 55 stamped_file) encap 11
  -- 65 octets, which end with the header of its signerInfos, state that these have 488
  pub signer_infos_header : StatesAt (file content_info) (take 65 stamped_file) signer_infos 488
  -- so they are too large for a buffer of 498
  pub too_large : IsTooLarge (take 65 stamped_file) 498
  -- and the eContentType alone is too large for a buffer of 10
  pub type_too_large : IsTooLarge (take 55 stamped_file) 10
  -- the signed file with its signed attributes exchanged has its fault also if it ends too early
  pub cut_exchanged : FaultsOpenly (file content_info) (take 180 exchanged_file) (fault kind.Order 148)
  -- the same beginning, as a whole input, has a fault at its front
  pub cut : Faults (file content_info) (take 180 exchanged_file) (fault kind.Overrun 0)
  -- a SignedData of version 2 has its fault also if the input ends soon after its version
  pub cut_version : FaultsOpenly (file content_info) (take 23 stamped_file ++ hex "0201 02 31") (fault kind.Value 25)
  -- an element whose length goes past the stated end of the enclosing one has its fault before either is complete
  pub begun_overrun : FaultsOpenly (file request) (hex "3006 0201 01 3005") (fault kind.Overrun 5)
  -- a ContentInfo that ends where its content must follow has a fault there, though its outer length states more
  pub begun : FaultsOpenly (file content_info) (hex "300f 0609 2a864886f70d010702 a002") (fault kind.End 15)

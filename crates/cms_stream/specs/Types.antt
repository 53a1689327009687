-- The contents of a contentType, octet by octet.
use Rattle.std.specs.Prelude.{◌≡◌, ℕ, ◌&&◌, List, ◌++◌}
use Rattle.der_core.specs.Lists.{is_same}
use Rattle.der_grammar.specs.Table.{id_signed_data}
use Rattle.cms_stream.specs.declared.type_test.SignedDataTest.{SignedDataTest}

-- whether the octets that were passed on so far, and those that follow, are those of id-signedData
abbrev pub Compared : SignedDataTest → List ℕ → Type 0
Compared t m = (zs : List ℕ) → is_same id_signed_data (m ++ zs) ≡ (t.same && is_same t.left.now zs)

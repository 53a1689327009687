-- Extensions and their encoding (RFC 5280, 4.1 and 4.2).
use Rattle.std.specs.Prelude.{ℕ, List, [], ◌++◌, Option, Some, None}
use Rattle.std.specs.List.{flat_map, AllByRecursion}
use Rattle.der_core.specs.Element.{el}
use Rattle.der_core.specs.declared.flag.Flag.{Flag}
use Rattle.der_core.specs.Values.{flag, HasLength, IsOid}

-- Extension ::= SEQUENCE { extnID OBJECT IDENTIFIER, critical BOOLEAN DEFAULT FALSE, extnValue OCTET STRING }
pub record ExtensionValue : Type 0 where
  pub id : List ℕ
  pub critical : Flag
  pub value : List ℕ

abbrev pub extension_parts : ExtensionValue → List ℕ
extension_parts e = el 0x06 e.id ++ (flag e.critical ++ el 0x04 e.value)

-- a list of extensions, one after the other
abbrev pub extensions_parts : List ExtensionValue → List ℕ
extensions_parts es = flat_map (λ e. el 0x30 (extension_parts e)) es

-- if present, such a list in an element with this identifier
abbrev pub optional_extensions : ℕ → Option (List ExtensionValue) → List ℕ
optional_extensions t None = []
optional_extensions t (Some es) = el t (extensions_parts es)

pub record GoodExtension (e : ExtensionValue) : Type 0 where
  pub id : IsOid e.id
  pub value : HasLength e.value
  pub size : HasLength (extension_parts e)

abbrev pub GoodExtensions : List ExtensionValue → Type 0
GoodExtensions es = AllByRecursion GoodExtension es

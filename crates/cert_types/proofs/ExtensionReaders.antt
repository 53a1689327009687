-- Extensions are read exactly when they are there.
use Rattle.std.proofs.Common.{◌≡◌, ℕ, true, List, [], ◌∷◌, ◌++◌, Option, Some, None, refl}
use Rattle.std.specs.Prelude.{IfSome}
use Rattle.std.specs.List.{AllByRecursion}
use Rattle.der_core.specs.Element.{is_tag, el}
use Rattle.der_core.specs.Values.{flag, HasLength, IsOid}
use Rattle.der_core.specs.Grammar.{opt, list}
use Rattle.der_grammar.specs.Table.{extension}
use Rattle.der_core.specs.Reading.{within, last, ◌then◌, whole_of, any_at, oid_in}
use Rattle.der_core.specs.Flags.{flag_at}
use Rattle.der_core.proofs.Fronts.{Apart, Others, front_apart}
use Rattle.der_core.proofs.Readers.{Nothing, IsReader, IsBody, last_reader, then_reader, whole_body, made_body}
use Rattle.der_core.proofs.Readers.{enc_option, GoodOption}
use Rattle.der_core.proofs.PartReaders.{Last, alike_body, alike_reader, oid_reader, octets_reader, flag_reader}
use Rattle.der_core.proofs.Lists.{many_body}
use Rattle.cert_types.specs.ExtensionValue.{ExtensionValue, extension_parts, extensions_parts, optional_extensions}
use Rattle.cert_types.specs.ExtensionValue.{GoodExtensions}
use Rattle.cert_types.specs.ExtensionReading.{extension_from, extension_in, extensions_in}

abbrev pub ExtensionParts : ExtensionValue → Type 0
ExtensionParts e = IsOid e.id × (Unit {0} × HasLength e.value)

pub extension_body : IsBody extension_in extension_parts ExtensionParts extension
unfolding extension_in
extension_body = made_body extension_from (λ e. (e.id, (e.critical, e.value))) (λ e. refl)
    (whole_of (within 0x06 oid_in then flag_at then within 0x04 any_at))
    (λ p. el 0x06 p.0 ++ (flag p.1.0 ++ el 0x04 p.1.1))
    (λ p. IsOid p.0 × (Unit {0} × HasLength p.1.1)) extension
    (whole_body _ _ _ _ _ _
    (then_reader _ _ _ _ _ oid_reader _ _ _ _ _ _ (then_reader _ _ _ _ _ flag_reader _ _ _ _ _ _ octets_reader
    (λ y r h l. refl)) (λ y r h l. tt)) tt tt) (λ p h. refl)

abbrev Listed : ExtensionValue → Type 0
Listed e = ExtensionParts e × HasLength (extension_parts e)

-- an extension that is read from a list is good
listed_good : (es : List ExtensionValue) → AllByRecursion Listed es → GoodExtensions es
listed_good [] h = tt
listed_good (e ∷ es) h = (record { id = h.0.0.0; value = h.0.0.1.1; size = h.0.1 }, listed_good es h.1)

good_listed : (es : List ExtensionValue) → GoodExtensions es → AllByRecursion Listed es
good_listed [] h = tt
good_listed (e ∷ es) h = (((h.0.id, (tt, h.0.value)), h.0.size), good_listed es h.1)

pub extensions_body : IsBody extensions_in extensions_parts GoodExtensions (list 0x30 extension)
extensions_body = alike_body extensions_parts extensions_parts (AllByRecursion Listed) GoodExtensions
    (λ es. refl) listed_good good_listed extensions_in (list 0x30 extension)
    (many_body 48 refl extension_in extension_parts ExtensionParts extension extension_body)

-- ---- the last part of a body, where there may be extensions

abbrev pub GoodOptional : Option (List ExtensionValue) → Type 0
GoodOptional o = IfSome o (λ es. GoodExtensions es × HasLength (extensions_parts es))

module _ (tag : ℕ) (id : is_tag tag ≡ true) where
  same_option : (o : Option (List ExtensionValue))
      → enc_option tag id extensions_in extensions_parts GoodExtensions (list 0x30 extension) extensions_body o
      ≡ optional_extensions tag o
  same_option None = refl
  same_option (Some es) = refl

  good_option : (o : Option (List ExtensionValue))
      → GoodOption tag id extensions_in extensions_parts GoodExtensions (list 0x30 extension) extensions_body o
      → GoodOptional o
  good_option None h = tt
  good_option (Some es) h = h

  option_good : (o : Option (List ExtensionValue)) → GoodOptional o
      → GoodOption tag id extensions_in extensions_parts GoodExtensions (list 0x30 extension) extensions_body o
  option_good None h = tt
  option_good (Some es) h = h

  pub last_extensions_reader : IsReader (last tag extensions_in) (optional_extensions tag) GoodOptional
      (opt tag (list 0x30 extension)) Last Nothing
  last_extensions_reader = alike_reader
      (enc_option tag id extensions_in extensions_parts GoodExtensions (list 0x30 extension) extensions_body)
      (optional_extensions tag) (GoodOption tag id extensions_in extensions_parts GoodExtensions
      (list 0x30 extension) extensions_body) GoodOptional
      same_option good_option option_good
      (last tag extensions_in) (opt tag (list 0x30 extension)) Last Last Nothing (λ r l. l)
      (last_reader tag id extensions_in extensions_parts GoodExtensions (list 0x30 extension) extensions_body)

-- their identifier distinguishes them from what comes before them
pub extensions_apart : (t : ℕ) (o : Option (List ExtensionValue)) (r : List ℕ) (us : List ℕ) → Others t us → Apart us r
    → Apart us (optional_extensions t o ++ r)
extensions_apart t None r us h l = l
extensions_apart t (Some es) r us h l = front_apart t (extensions_parts es) r us h

-- Reading a TSTInfo from the left.
use Rattle.std.specs.Prelude.{ℕ, List, [], ◌∷◌, Option, Result}
use Rattle.der_core.specs.declared.fault.Fault.{Fault}
use Rattle.der_core.specs.declared.flag.Flag.{Flag}
use Rattle.der_core.specs.Reading.{Spot, spot, within, maybe, last, ◌then◌, whole_of, made, oid_in, integer_in}
use Rattle.der_core.specs.Reading.{version_in}
use Rattle.der_core.specs.Flags.{flag_at}
use Rattle.der_lists.specs.Items.{explicit_opaque_in}
use Rattle.der_time.specs.TimeReading.{generalized_text_in}
use Rattle.cert_types.specs.ExtensionValue.{ExtensionValue}
use Rattle.cert_types.specs.ExtensionReading.{extensions_in}
use Rattle.tsp_types.specs.ImprintValue.{ImprintValue}
use Rattle.tsp_types.specs.ImprintReading.{imprint_in}
use Rattle.tsp_types.specs.TstValue.{AccuracyValue, TstValue}

abbrev pub accuracy_from : Option (List ℕ) × (Option (List ℕ) × Option (List ℕ)) → AccuracyValue
accuracy_from p = record { seconds = p.0; millis = p.1.0; micros = p.1.1 }

unfoldable pub accuracy_in : Spot → Result AccuracyValue Fault
accuracy_in s = made accuracy_from
    (whole_of (maybe 0x02 integer_in then maybe 0x80 integer_in then last 0x81 integer_in)) s

abbrev pub Parts : Type 0
Parts = List ℕ × (List ℕ × (ImprintValue × (List ℕ × (List ℕ
    × (Option AccuracyValue × (Flag × (Option (List ℕ) × (Option (List ℕ) × Option (List ExtensionValue)))))))))

abbrev pub tst_from : Parts → TstValue
tst_from p = record {
  policy = p.1.0;
  imprint = p.1.1.0;
  serial = p.1.1.1.0;
  time = p.1.1.1.1.0;
  accuracy = p.1.1.1.1.1.0;
  ordering = p.1.1.1.1.1.1.0;
  nonce = p.1.1.1.1.1.1.1.0;
  tsa = p.1.1.1.1.1.1.1.1.0;
  extensions = p.1.1.1.1.1.1.1.1.1;
}

unfoldable pub tst_in : Spot → Result TstValue Fault
tst_in s = made tst_from (whole_of (within 0x02 (version_in (1 ∷ [])) then within 0x06 oid_in
    then within 0x30 imprint_in then within 0x02 integer_in then within 0x18 generalized_text_in
    then maybe 0x30 accuracy_in then flag_at then maybe 0x02 integer_in then maybe 0xa0 explicit_opaque_in
    then last 0xa1 extensions_in)) s

unfoldable pub tst_at : List ℕ → Result TstValue Fault
tst_at bytes = whole_of (within 0x30 tst_in) (spot 0 bytes)

-- Reading a signer from the left.
use Rattle.std.proofs.Common.{inl, inr}
use Rattle.std.specs.Prelude.{ℕ, List, [], ◌∷◌, Option, Result, ◌⊎◌}
use Rattle.der_core.specs.declared.fault.Fault.{Fault}
use Rattle.der_core.specs.AlgorithmReading.{algorithm_in}
use Rattle.der_core.specs.Values.{AlgorithmValue}
use Rattle.der_core.specs.Reading.{Spot, within, either, element_at, ◌then◌, whole_of, made, named, any_at, integer_in}
use Rattle.der_core.specs.Reading.{version_in, maybe_filled, last_filled}
use Rattle.cms_types.specs.AttributeValue.{AttributeValue}
use Rattle.cms_types.specs.AttributeReading.{attributes_in, signed_attributes_in}
use Rattle.cms_types.specs.SignerValue.{SidValue, IssuerAndSerial, KeyId, SignerValue}

unfoldable pub issuer_and_serial_in : Spot → Result (List ℕ × List ℕ) Fault
issuer_and_serial_in s = whole_of (element_at 0x30 then within 0x02 integer_in) s

abbrev pub sid_from : (List ℕ × List ℕ) ⊎ List ℕ → SidValue
sid_from (inl p) = IssuerAndSerial p.0 p.1
sid_from (inr id) = KeyId id

unfoldable pub sid_at : Spot → Result (SidValue × Spot) Fault
sid_at s = named sid_from (either 0x30 issuer_and_serial_in 128 any_at) s

abbrev pub SignerParts : Type 0
SignerParts = List ℕ × (SidValue × (AlgorithmValue × (Option (List AttributeValue)
    × (AlgorithmValue × (List ℕ × Option (List AttributeValue))))))

abbrev pub signer_from : SignerParts → SignerValue
signer_from p = record {
  version = p.0;
  sid = p.1.0;
  digest_algorithm = p.1.1.0;
  signed_attributes = p.1.1.1.0;
  signature_algorithm = p.1.1.1.1.0;
  signature = p.1.1.1.1.1.0;
  unsigned_attributes = p.1.1.1.1.1.1;
}

unfoldable pub signer_in : Spot → Result SignerValue Fault
signer_in s = made signer_from (whole_of (within 0x02 (version_in (1 ∷ 3 ∷ []))
    then sid_at then within 0x30 algorithm_in then maybe_filled 0xa0 signed_attributes_in
    then within 0x30 algorithm_in then within 0x04 any_at then last_filled 0xa1 attributes_in)) s

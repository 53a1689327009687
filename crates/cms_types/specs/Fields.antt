-- The fields of a SignedData as values, independent of their place in memory.
use Rattle.std.specs.Prelude.{[], ◌∷◌, option_map}
use Rattle.cms_types.specs.declared.signer_id.SignerId.{SignerId}
use Rattle.cms_types.specs.declared.signer_id.SignerId.TheVariants as id
use Rattle.cms_types.specs.declared.signer.SignerFields.{SignerFields}
use Rattle.cms_types.specs.declared.signed_data.Encapsulated.{Encapsulated}
use Rattle.cms_types.specs.declared.signed_data.SignedDataFields.{SignedDataFields}
use Rattle.cms_types.specs.declared.content_info.Content.{Content}
use Rattle.cms_types.specs.declared.content_info.Content.TheVariants.{Signed, Other}
use Rattle.cms_types.specs.SignerValue.{SidValue, IssuerAndSerial, KeyId, SignerValue}
use Rattle.cms_types.specs.SignedDataValue.{EncapsulatedValue, SignedDataValue, ContentInfoValue, SignedContent}
use Rattle.cms_types.specs.SignedDataValue.{OtherContent}

abbrev pub sid_value : SignerId → SidValue
sid_value (id.IssuerAndSerial issuer serial) = IssuerAndSerial issuer.now serial
sid_value (id.KeyId key) = KeyId key.now

abbrev pub signer_value : SignerFields → SignerValue
signer_value s = record {
  version = s.version ∷ [];
  sid = sid_value s.sid;
  digest_algorithm = s.digest_algorithm;
  signed_attributes = s.signed_attributes;
  signature_algorithm = s.signature_algorithm;
  signature = s.signature.now;
  unsigned_attributes = s.unsigned_attributes;
}

abbrev pub encapsulated_value : Encapsulated → EncapsulatedValue
encapsulated_value e = record { content_type = e.content_type; content = option_map (λ b. b.now) e.content }

abbrev pub signed_data_value : SignedDataFields → SignedDataValue
signed_data_value d = record {
  version = d.version ∷ [];
  digest_algorithms = d.digest_algorithms;
  encapsulated = encapsulated_value d.encapsulated;
  certificates = d.certificates;
  crls = d.crls;
  signers = d.signers;
}

abbrev pub content_value : Content → ContentInfoValue
content_value (Signed d) = SignedContent (signed_data_value d)
content_value (Other id content) = OtherContent id content.now

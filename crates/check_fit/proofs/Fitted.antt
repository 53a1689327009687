-- A signer that fits, by each of the rules.
use Rattle.std.proofs.Common.{◌≡◌, ◌^◌, ◌<◌, true, List, ℕ, length, Some}
use Rattle.der_core.specs.Element.{el}
use Rattle.digests.specs.declared.algorithm.Alg.{Alg}
use Rattle.digests.specs.Algorithms.{Names}
use Rattle.digests.specs.Messages.{digest_of}
use Rattle.cms_types.specs.AttributeValue.{AttributeValue}
use Rattle.cms_types.specs.SignerValue.{SignerValue}
use Rattle.check_fit.specs.declared.policy.Policy.{Policy}
use Rattle.check_fit.specs.Attributes.{single_value}
use Rattle.check_fit.specs.Fitting.{Fits, id_content_type, id_message_digest, is_allowed}

pub fitted : (policy : Policy) (content econtent_type : List ℕ) (s : SignerValue) (attributes : List AttributeValue)
    (alg : Alg) → s.signed_attributes ≡ Some attributes
    → single_value attributes id_content_type ≡ Some (el 0x06 econtent_type) → length econtent_type < 2 ^ 32
    → Names s.digest_algorithm.oid s.digest_algorithm.parameters alg → is_allowed policy alg ≡ true
    → single_value attributes id_message_digest ≡ Some (el 0x04 (digest_of alg content))
    → Fits policy content econtent_type s
fitted policy content econtent_type s attributes alg present content_type size named allows digest = record {
  attributes = attributes;
  present = present;
  content_type = content_type;
  size = size;
  alg = alg;
  named = named;
  allows = allows;
  digest = digest;
}

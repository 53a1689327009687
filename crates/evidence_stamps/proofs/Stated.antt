-- What octets state, read step by step.
use Rattle.std.proofs.Common.{◌≡◌, ℕ, List, Some, refl}
use Rattle.cms_types.specs.SignedDataValue.{SignedDataValue, EncodesSignedData}
use Rattle.tsp_types.specs.TstValue.{TstValue, EncodesTst, id_tst_info}
use Rattle.evidence_stamps.specs.StateValue.{IsState}

-- what was read step by step is stated
pub state_of : (token : List ℕ) (v : SignedDataValue) → EncodesSignedData token v
    → v.encapsulated.content_type ≡ id_tst_info → (content : List ℕ) → v.encapsulated.content ≡ Some content
    → (x : TstValue) → EncodesTst content x → IsState token (record { signed = v; stated = x })
state_of token v encodes is_type content present x is = record {
  states = record {
    signed = v;
    encodes = encodes;
    econtent_type = is_type;
    content = content;
    present = present;
    encodes_stamp = is;
  };
  signed = refl;
}

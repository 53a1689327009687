-- A step of the proofs, which no statement depends on: the file with the token, in pieces of the old one with new
-- headers between them.
use Rattle.std.specs.Prelude.{◌≡◌, ℕ, ◌-◌, ◌<◌, List, [], ◌∷◌, ◌++◌, take, drop, Option, Some, None}
use Rattle.std.specs.List.{AllByRecursion}
use Rattle.der_core.specs.Element.{el}
use Rattle.der_grammar.specs.Table.{id_signed_data}
use Rattle.der_core.specs.Values.{HasLength, algorithm_element}
use Rattle.cms_types.specs.AttributeValue.{AttributeValue, attributes_parts, optional_attributes}
use Rattle.cms_types.specs.SignerValue.{SignerValue, sid_element}
use Rattle.cms_types.specs.SignedDataValue.{SignedDataValue, algorithms_parts, encapsulated_parts, optional_choices}
use Rattle.cms_types.specs.SignedDataValue.{signers_parts}
use Rattle.cms_types.specs.Tokens.{id_time_stamp_token}
use Rattle.tsp_types.specs.TstValue.{TstValue}
use Rattle.tsp_requester.specs.Attaching.{IsStamped}
use Rattle.tsp_requester.specs.declared.opening.Opening.{Opening}
use Rattle.tsp_requester.specs.declared.pieces.Pieces.{Pieces}

-- the parts of a SignedData before its signers
abbrev pub data_front : SignedDataValue → List ℕ
data_front v = el 0x02 v.version
    ++ (el 0x31 (algorithms_parts v.digest_algorithms)
    ++ (el 0x30 (encapsulated_parts v.encapsulated)
    ++ (optional_choices 0xa0 v.certificates
    ++ optional_choices 0xa1 v.crls)))

-- the parts of a signer before its unsigned attributes
abbrev pub signer_front : SignerValue → List ℕ
signer_front s = el 0x02 s.version
    ++ (sid_element s.sid
    ++ (algorithm_element s.digest_algorithm
    ++ (optional_attributes 0xa0 s.signed_attributes
    ++ (algorithm_element s.signature_algorithm
    ++ el 0x04 s.signature))))

-- the unsigned attributes one after the other, if there are any
abbrev pub unsigned_octets : Option (List AttributeValue) → List ℕ
unsigned_octets None = []
unsigned_octets (Some xs) = attributes_parts xs

pub record PiecesValue : Type 0 where
  pub data_front : List ℕ
  pub before : List ℕ
  pub signer_front : List ℕ
  pub unsigned : List ℕ
  pub behind : List ℕ

-- those of a file with this signer, of this number
abbrev pub pieces_of : SignedDataValue → (number : ℕ) → SignerValue → PiecesValue
pieces_of v number s = record {
  data_front = data_front v;
  before = signers_parts (take (number - 1) v.signers);
  signer_front = signer_front s;
  unsigned = unsigned_octets s.unsigned_attributes;
  behind = signers_parts (drop 1 (drop (number - 1) v.signers));
}

-- and as they are in the code
abbrev pub pieces_value : Pieces → PiecesValue
pieces_value p = record {
  data_front = p.data_front.now;
  before = p.before.now;
  signer_front = p.signer_front.now;
  unsigned = p.unsigned.now;
  behind = p.behind.now;
}

-- where the signer of this number begins: these are the octets of it and of those after it
pub record IsPlace (signers : List SignerValue) (number : ℕ) (s : SignerValue) (from : List ℕ) : Type 0 where
  pub positive : 0 < number
  pub others : List SignerValue
  pub are : drop (number - 1) signers ≡ s ∷ others
  pub octets : from ≡ signers_parts (s ∷ others)

-- the pieces of a file with a signer of this number, whose signature the token stamps
pub record IsCut (bytes : List ℕ) (number : ℕ) (token : List ℕ) (p : PiecesValue) : Type 0 where
  pub value : SignedDataValue
  pub signer : SignerValue
  pub stamp : TstValue
  pub stamped : IsStamped bytes number token value signer stamp
  pub from : List ℕ
  pub place : IsPlace value.signers number signer from
  pub is : p ≡ pieces_of value number signer

-- ---- the contents of the elements that change, from the inside

-- the OBJECT IDENTIFIERs id-aa-timeStampToken and id-signedData, whole
abbrev pub stamp_id : List ℕ
stamp_id = 0x06 ∷ 0x0b ∷ id_time_stamp_token

abbrev pub data_id : List ℕ
data_id = 0x06 ∷ 0x09 ∷ id_signed_data

abbrev pub attribute_inside : (token : List ℕ) → List ℕ
attribute_inside token = stamp_id ++ el 0x31 token

abbrev pub unsigned_inside : PiecesValue → (token : List ℕ) → List ℕ
unsigned_inside p token = p.unsigned ++ el 0x30 (attribute_inside token)

abbrev pub signer_inside : PiecesValue → (token : List ℕ) → List ℕ
signer_inside p token = p.signer_front ++ el 0xa1 (unsigned_inside p token)

abbrev pub signers_inside : PiecesValue → (token : List ℕ) → List ℕ
signers_inside p token = p.before ++ (el 0x30 (signer_inside p token) ++ p.behind)

abbrev pub data_inside : PiecesValue → (token : List ℕ) → List ℕ
data_inside p token = p.data_front ++ el 0x31 (signers_inside p token)

abbrev pub info_inside : PiecesValue → (token : List ℕ) → List ℕ
info_inside p token = data_id ++ el 0xa0 (el 0x30 (data_inside p token))

abbrev pub all_inside : PiecesValue → (token : List ℕ) → List (List ℕ)
all_inside p token = token ∷ attribute_inside token ∷ unsigned_inside p token ∷ signer_inside p
    token ∷ signers_inside p token ∷ data_inside p token ∷ el 0x30 (data_inside p token) ∷ info_inside p token ∷ []

abbrev pub file_of : PiecesValue → (token : List ℕ) → List ℕ
file_of p token = el 0x30 (info_inside p token)

abbrev pub FitInside : PiecesValue → (token : List ℕ) → Type 0
FitInside p token = AllByRecursion HasLength (all_inside p token)

-- ---- what is written before the token

abbrev pub opening_octets : Opening → List ℕ
opening_octets o = o.header ++ o.front.now

-- one after the other
abbrev pub openings_octets : List Opening → List ℕ
openings_octets [] = []
openings_octets (o ∷ os) = opening_octets o ++ openings_octets os

-- The lines of those parts of a SignedData of which `show signed` gives only the number, or nothing.
use Rattle.std.specs.Prelude.{ℕ, ◌+◌, List, [], ◌∷◌, ◌++◌, Option, Some, None, length, codes}
use Rattle.std.specs.Option.{option_map}
use Rattle.std.specs.Fmt.{decimal}
use Rattle.hex.specs.Hex.{encode_lower}
use Rattle.der_oid_text.specs.OidText.{text_of}
use Rattle.der_core.specs.Values.{AlgorithmValue}
use Rattle.digests.specs.Messages.{digest_of}
use Rattle.digests.specs.declared.algorithm.Alg.TheVariants.{Sha256}
use Rattle.cms_types.specs.AttributeValue.{AttributeValue, tail_of}
use Rattle.cms_types.specs.SignerValue.{SignerValue}
use Rattle.cms_types.specs.SignedDataValue.{SignedDataValue}
use Rattle.cms_types.specs.Tokens.{tokens_of}
use Rattle.lines_shown.specs.Lines.{line}

-- a number, or a dash
abbrev pub count_line : (name : List ℕ) → Option ℕ → List ℕ
count_line name None = line name (codes "-")
count_line name (Some count) = line name (decimal count)

-- how many octets there are, and their SHA-256
abbrev pub sum_line : (name octets : List ℕ) → List ℕ
sum_line name octets = line name (decimal (length octets) ++ codes " sha256 " ++ encode_lower (digest_of Sha256 octets))

-- the same of octets that may be absent
abbrev pub optional_sum_line : (name : List ℕ) → Option (List ℕ) → List ℕ
optional_sum_line name None = line name (codes "-")
optional_sum_line name (Some octets) = sum_line name octets

-- the digest algorithms that a SignedData lists
abbrev pub digest_lines : List AlgorithmValue → List ℕ
digest_lines [] = []
digest_lines (a ∷ others) = line (codes "lists") (text_of a.oid) ++ digest_lines others

-- attributes, by their types
abbrev pub attribute_line : AttributeValue → List ℕ
attribute_line a = line (codes "attribute") (text_of a.id)

abbrev pub attribute_lines : List AttributeValue → List ℕ
attribute_lines [] = []
attribute_lines (a ∷ others) = attribute_line a ++ attribute_lines others

-- signed attributes, and the octets that a signature over them is over: SET in the place of [0] (RFC 5652, 5.4)
abbrev pub signed_lines : Option (List AttributeValue) → List ℕ
signed_lines None = line (codes "signed") (codes "-")
signed_lines (Some attributes) = attribute_lines attributes ++ sum_line (codes "signed") (0x31 ∷ tail_of attributes)

-- tokens
abbrev pub token_lines : List (List ℕ) → List ℕ
token_lines [] = []
token_lines (token ∷ others) = sum_line (codes "token") token ++ token_lines others

-- a signer of this number
abbrev pub signer_lines : ℕ → SignerValue → List ℕ
signer_lines n s = line (codes "signer") (decimal n)
    ++ signed_lines s.signed_attributes
    ++ sum_line (codes "signature") s.signature
    ++ count_line (codes "unsigned") (option_map length s.unsigned_attributes)
    ++ token_lines (tokens_of s.unsigned_attributes)

-- the signers, from this number on
abbrev pub signers_lines : ℕ → List SignerValue → List ℕ
signers_lines n [] = []
signers_lines n (s ∷ others) = signer_lines n s ++ signers_lines (n + 1) others

abbrev pub part_lines : SignedDataValue → List ℕ
part_lines v = codes "parts" ++ (10 ∷ [])
    ++ digest_lines v.digest_algorithms
    ++ optional_sum_line (codes "content") v.encapsulated.content
    ++ count_line (codes "certificates") (option_map length v.certificates)
    ++ count_line (codes "crls") (option_map length v.crls)
    ++ signers_lines 1 v.signers

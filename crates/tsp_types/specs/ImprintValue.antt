-- Message imprints and their encoding (RFC 3161, 2.4.1).
use Rattle.std.specs.Prelude.{ℕ, List, ◌++◌}
use Rattle.der_core.specs.Element.{el}
use Rattle.der_core.specs.Values.{HasLength, AlgorithmValue, algorithm_element, GoodAlgorithm}

-- MessageImprint ::= SEQUENCE { hashAlgorithm AlgorithmIdentifier, hashedMessage OCTET STRING }
pub record ImprintValue : Type 0 where
  pub algorithm : AlgorithmValue
  pub digest : List ℕ

abbrev pub imprint_parts : ImprintValue → List ℕ
imprint_parts i = algorithm_element i.algorithm ++ el 0x04 i.digest

pub record GoodImprint (i : ImprintValue) : Type 0 where
  pub algorithm : GoodAlgorithm i.algorithm
  pub digest : HasLength i.digest
  pub size : HasLength (imprint_parts i)

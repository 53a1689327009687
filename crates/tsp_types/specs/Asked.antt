-- The request that is made from given arguments.
use Rattle.std.specs.Prelude.{ℕ, Bool, true, false, List, [], ◌∷◌, Option, Some, None}
use Rattle.der_core.specs.declared.flag.Flag.{Flag}
use Rattle.der_core.specs.declared.flag.Flag.TheVariants.{Absent, True}
use Rattle.der_core.specs.Values.{AlgorithmValue}
use Rattle.digests.specs.declared.algorithm.Alg.{Alg}
use Rattle.digests.specs.declared.value.Digest.{Digest}
use Rattle.digests.specs.Algorithms.{contents_of}
use Rattle.digests.specs.Digests.{alg_of, octets_of}
use Rattle.tsp_types.specs.ImprintValue.{ImprintValue}
use Rattle.tsp_types.specs.RequestValue.{RequestValue}

-- the identifier of the algorithm, with NULL parameters
abbrev pub algorithm_asked : Alg → AlgorithmValue
algorithm_asked a = record { oid = contents_of a; parameters = Some (0x05 ∷ 0x00 ∷ []) }

abbrev pub imprint_asked : Digest → ImprintValue
imprint_asked d = record { algorithm = algorithm_asked (alg_of d); digest = octets_of d }

-- a certificate is requested, or the default isn't encoded
abbrev pub flag_asked : Bool → Flag
flag_asked true = True
flag_asked false = Absent

abbrev pub asked : Digest → Option (List ℕ) → Option (List ℕ) → Bool → RequestValue
asked d policy nonce cert_req = record {
  imprint = imprint_asked d;
  policy = policy;
  nonce = nonce;
  cert_req = flag_asked cert_req;
  extensions = None;
}

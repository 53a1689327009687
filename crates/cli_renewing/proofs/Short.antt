-- A request without policy and nonce is short.
use Rattle.std.proofs.Common.{◌≡◌, ◌<◌, ◌^◌, None, false, length, refl, arith}
use Rattle.digests.specs.Algorithms.{length_of}
use Rattle.digests.specs.Digests.{alg_of, octets_of}
use Rattle.digests.specs.declared.value.Digest.{Digest}
use Rattle.tsp_types.specs.Asked.{asked, imprint_asked}
use Rattle.tsp_types.specs.ImprintValue.{imprint_parts}
use Rattle.tsp_types.specs.RequestValue.{request_parts}
use Rattle.tsp_types.proofs.LengthsMade.{body_sum, imprint_asked_length}

pub short_request : (d : Digest) → length (octets_of d) ≡ length_of (alg_of d)
    → length (request_parts (asked d None None false)) < 2 ^ 32
short_request d many =
    let small = (imprint_asked_length d many).1 in
    omega (
      arith,
      small,
      body_sum d None None false (length (imprint_parts (imprint_asked d))) 0 0 0 refl small refl refl refl,
    )

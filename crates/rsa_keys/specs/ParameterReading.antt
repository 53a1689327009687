-- Reading parameters of RSASSA-PSS from the left, and what they say.
use Rattle.std.specs.Prelude.{ℕ, Bool, true, ◌&&◌, nat_lt, nat_le, if◌then◌else◌, List, [], ◌∷◌, length, slice_index}
use Rattle.std.specs.Prelude.{Option, Some, None, Result, Ok, Err}
use Rattle.der_core.specs.Hex.{hex}
use Rattle.der_core.specs.Lists.{is_same}
use Rattle.der_core.specs.declared.fault.Fault.{Fault}
use Rattle.der_core.specs.AlgorithmReading.{algorithm_in}
use Rattle.der_core.specs.Reading.{Spot, spot, within, maybe, last, ◌then◌, whole_of, made, integer_in}
use Rattle.der_core.specs.Values.{AlgorithmValue}
use Rattle.digests.specs.declared.algorithm.Alg.{Alg}
use Rattle.digests.specs.declared.algorithm.Alg.TheVariants.{Sha1}
use Rattle.digests.specs.Named.{alg_named}
use Rattle.big_numbers.specs.Numbers.{os2ip}
use Rattle.rsa_keys.specs.declared.parameters.PssParameters.{PssParameters}
use Rattle.rsa_keys.specs.ParameterValue.{PssParts}

unfoldable pub explicit_algorithm_in : Spot → Result AlgorithmValue Fault
explicit_algorithm_in s = whole_of (within 0x30 algorithm_in) s

unfoldable pub explicit_integer_in : Spot → Result (List ℕ) Fault
explicit_integer_in s = whole_of (within 0x02 integer_in) s

abbrev pub parts_from : Option AlgorithmValue × (Option AlgorithmValue × (Option (List ℕ) × Option (List ℕ))) → PssParts
parts_from p = record { hash = p.0; mask = p.1.0; salt = p.1.1.0; trailer = p.1.1.1 }

unfoldable pub parts_in : Spot → Result PssParts Fault
parts_in s = made parts_from (whole_of (maybe 0xa0 explicit_algorithm_in then maybe 0xa1 explicit_algorithm_in
    then maybe 0xa2 explicit_integer_in then last 0xa3 explicit_integer_in)) s

unfoldable pub parts_at : List ℕ → Result PssParts Fault
parts_at octets = whole_of (within 0x30 parts_in) (spot 0 octets)

unfoldable pub algorithm_at : List ℕ → Result AlgorithmValue Fault
algorithm_at octets = explicit_algorithm_in (spot 0 octets)

abbrev pub hash_of : Option AlgorithmValue → Option Alg
hash_of None = Some Sha1
hash_of (Some a) = alg_named a

abbrev pub named_by : Result AlgorithmValue Fault → Option Alg
named_by (Err f) = None
named_by (Ok a) = alg_named a

abbrev pub mask_by : Option (List ℕ) → Option Alg
mask_by None = None
mask_by (Some p) = named_by (algorithm_at p)

abbrev pub mask_of : Option AlgorithmValue → Option Alg
mask_of None = Some Sha1
mask_of (Some a) = if is_same a.oid (hex "2a864886f70d010108") then mask_by a.parameters else None

abbrev pub salt_of : Option (List ℕ) → Option ℕ
salt_of None = Some 20
salt_of (Some c) = if nat_lt (slice_index c 0) 128 && nat_le (length c) 8 then Some (os2ip c) else None

abbrev pub is_trailer : Option (List ℕ) → Bool
is_trailer None = true
is_trailer (Some c) = is_same c (0x01 ∷ [])

abbrev pub all_of : Option Alg → Option Alg → Option ℕ → Option PssParameters
all_of None mask salt = None
all_of (Some h) None salt = None
all_of (Some h) (Some m) None = None
all_of (Some h) (Some m) (Some n) = Some (record { hash = h; mask = m; salt = n })

abbrev pub pss_of : Result PssParts Fault → Option PssParameters
pss_of (Err f) = None
pss_of (Ok p) = if is_trailer p.trailer then all_of (hash_of p.hash) (mask_of p.mask) (salt_of p.salt) else None

-- the parameters that octets encode
unfoldable pub pss_in : List ℕ → Option PssParameters
pss_in octets = pss_of (parts_at octets)

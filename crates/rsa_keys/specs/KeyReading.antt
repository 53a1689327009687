-- Reading a SubjectPublicKeyInfo from the left, and the key that it has.
use Rattle.std.specs.Prelude.{ℕ, ◌%◌, Bool, ◌&&◌, ◌==◌, nat_lt, nat_le, if◌then◌else◌, List, [], ◌∷◌, length}
use Rattle.std.specs.Prelude.{slice_index}
use Rattle.std.specs.Prelude.{Option, Some, None, Result, Ok, Err}
use Rattle.der_core.specs.Hex.{hex}
use Rattle.der_core.specs.Lists.{is_same}
use Rattle.der_core.specs.declared.fault.Fault.{Fault}
use Rattle.der_core.specs.AlgorithmReading.{algorithm_in}
use Rattle.der_core.specs.Reading.{Spot, spot, within, ◌then◌, whole_of, integer_in, bits_in}
use Rattle.der_core.specs.Values.{AlgorithmValue}
use Rattle.big_numbers.specs.Numbers.{bits_of, os2ip}
use Rattle.rsa_keys.specs.declared.key.Scheme.{Scheme}
use Rattle.rsa_keys.specs.declared.key.Scheme.TheVariants.{Any, Pss, PssWith}
use Rattle.rsa_keys.specs.declared.parameters.PssParameters.{PssParameters}
use Rattle.rsa_keys.specs.ParameterReading.{pss_in}
use Rattle.rsa_keys.specs.KeyValue.{KeyValue}

unfoldable pub numbers_in : Spot → Result (List ℕ × List ℕ) Fault
numbers_in s = whole_of (within 0x02 integer_in then within 0x02 integer_in) s

unfoldable pub numbers_at : List ℕ → Result (List ℕ × List ℕ) Fault
numbers_at octets = whole_of (within 0x30 numbers_in) (spot 0 octets)

unfoldable pub info_in : Spot → Result (AlgorithmValue × List ℕ) Fault
info_in s = whole_of (within 0x30 algorithm_in then within 0x03 bits_in) s

unfoldable pub info_at : List ℕ → Result (AlgorithmValue × List ℕ) Fault
info_at octets = whole_of (within 0x30 info_in) (spot 0 octets)

-- the octets of the number whose contents these are, if it is above 0
abbrev pub behind_sign : List ℕ → Option (List ℕ)
behind_sign [] = None
behind_sign (x ∷ xs) = if nat_le 128 x then Some (x ∷ xs) else None

abbrev pub unsigned : List ℕ → Option (List ℕ)
unsigned [] = None
unsigned (x ∷ xs) = if x == 0 then behind_sign xs else if nat_lt x 128 then Some (x ∷ xs) else None

abbrev pub both : Option (List ℕ) → Option (List ℕ) → Option (List ℕ × List ℕ)
both None y = None
both (Some x) None = None
both (Some x) (Some y) = Some (x, y)

abbrev pub both_unsigned : Result (List ℕ × List ℕ) Fault → Option (List ℕ × List ℕ)
both_unsigned (Err f) = None
both_unsigned (Ok p) = both (unsigned p.0) (unsigned p.1)

-- the octets of n and e in the contents of a BIT STRING
unfoldable pub key_numbers : List ℕ → Option (List ℕ × List ℕ)
key_numbers [] = None
key_numbers (x ∷ xs) = if x == 0 then both_unsigned (numbers_at xs) else None

abbrev pub with_null : Option (List ℕ) → Option Scheme
with_null None = None
with_null (Some p) = if is_same p (0x05 ∷ 0x00 ∷ []) then Some Any else None

abbrev pub scheme_with : Option PssParameters → Option Scheme
scheme_with None = None
scheme_with (Some v) = Some (PssWith v)

abbrev pub pss_scheme : Option (List ℕ) → Option Scheme
pss_scheme None = Some Pss
pss_scheme (Some p) = scheme_with (pss_in p)

-- the schemes that the algorithm of a key is for
unfoldable pub scheme_of : AlgorithmValue → Option Scheme
scheme_of a = if is_same a.oid (hex "2a864886f70d010101") then with_null a.parameters
    else if is_same a.oid (hex "2a864886f70d01010a") then pss_scheme a.parameters
    else None

unfoldable pub is_judged : List ℕ → List ℕ → Bool
is_judged n e =
    nat_lt 0 (slice_index n 0) && nat_le 512 (bits_of n) && nat_le (length n) 1024 && os2ip n % 2 == 1
    && nat_lt 0 (slice_index e 0) && nat_le (length e) 8 && os2ip e % 2 == 1 && nat_le 3 (os2ip e)

abbrev pub key_by : Option Scheme → Option (List ℕ × List ℕ) → Option KeyValue
key_by None p = None
key_by (Some s) None = None
key_by (Some s) (Some p) =
    if is_judged p.0 p.1 then Some (record { scheme = s; modulus = p.0; exponent = os2ip p.1 }) else None

abbrev pub key_of : Result (AlgorithmValue × List ℕ) Fault → Option KeyValue
key_of (Err f) = None
key_of (Ok i) = key_by (scheme_of i.0) (key_numbers i.1)

-- the key whose SubjectPublicKeyInfo octets are
unfoldable pub key_in : List ℕ → Option KeyValue
key_in octets = key_of (info_at octets)

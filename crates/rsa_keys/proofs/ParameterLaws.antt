-- What is read of parameters of RSASSA-PSS, and that all are read.
use Rattle.std.proofs.Common.{◌≡◌, ◌↔◌, ℕ, Bool, true, false, ◌&&◌, cond, List, [], ◌∷◌, ◌++◌, length, get_or, Option}
use Rattle.std.proofs.Common.{Some, None, Result, Ok, Err, refl, ap, sym, subst, ◌∙◌}
use Rattle.std.specs.Prelude.{IfSome, nat_lt, nat_le}
use Rattle.std.proofs.lemmas.Bool.{and_parts, and_from, cond-true, ltb-true, lt-ltb, leb-true, le-leb}
use Rattle.der_core.specs.declared.fault.Fault.{Fault}
use Rattle.der_core.specs.Hex.{hex}
use Rattle.der_core.specs.Element.{el, IsBytes}
use Rattle.der_core.specs.Lists.{is_same}
use Rattle.der_core.specs.Values.{AlgorithmValue, GoodAlgorithm, algorithm_element, algorithm_parts, optional_whole}
use Rattle.der_core.proofs.Encoded.{same}
use Rattle.der_core.proofs.SameOctets.{is_then_same}
use Rattle.digests.specs.declared.algorithm.Alg.{Alg}
use Rattle.digests.specs.declared.algorithm.Alg.TheVariants.{Sha1}
use Rattle.digests.specs.Algorithms.{Names}
use Rattle.digests.proofs.Named.{named_is, named_says}
use Rattle.big_numbers.specs.Numbers.{os2ip}
use Rattle.rsa_keys.specs.declared.parameters.PssParameters.{PssParameters}
use Rattle.rsa_keys.specs.ParameterValue.{IsHash, IsMask, IsPss, IsSalt, IsTrailer, PssParts, explicit_algorithm}
use Rattle.rsa_keys.specs.ParameterValue.{explicit_integer}
use Rattle.rsa_keys.specs.ParameterValue.{pss_parts}
use Rattle.rsa_keys.specs.ParameterReading.{algorithm_at, all_of, hash_of, is_trailer, mask_by, mask_of, named_by}
use Rattle.rsa_keys.specs.ParameterReading.{parts_at, pss_in}
use Rattle.rsa_keys.specs.ParameterReading.{pss_of, salt_of}
use Rattle.rsa_keys.proofs.Bytes.{bytes_before, bytes_behind, bytes_inside}
use Rattle.rsa_keys.proofs.ParameterReaders.{algorithm_again, algorithm_read, parts_again, parts_read}

abbrev some_alg : Alg → Option Alg
some_alg alg = Some alg

one_alg : (a b : Alg) → some_alg a ≡ some_alg b → a ≡ b
one_alg a b e = cc

-- ---- the hash function

hash_says : (o : Option AlgorithmValue) (alg : Alg) → hash_of o ≡ some_alg alg → IsHash o alg
hash_says None alg h = sym (one_alg Sha1 alg h)
hash_says (Some a) alg h = named_says a alg h

hash_is : (o : Option AlgorithmValue) (alg : Alg) → IsHash o alg → hash_of o ≡ some_alg alg
hash_is None alg h = ap some_alg (sym h)
hash_is (Some a) alg h = named_is a alg h

-- ---- that of MGF1

abbrev mgf1 : List ℕ
mgf1 = hex "2a864886f70d010108"

abbrev IsMaskBy : Option (List ℕ) → Alg → Type 0
IsMaskBy p alg =
    (b : AlgorithmValue) × (p ≡ Some (algorithm_element b)) × GoodAlgorithm b × Names b.oid b.parameters alg

abbrev some_list : List ℕ → Option (List ℕ)
some_list x = Some x

named_step : (p : List ℕ) (alg : Alg) (r : Result AlgorithmValue Fault) → IsBytes p → algorithm_at p ≡ r
    → named_by r ≡ some_alg alg → IsMaskBy (Some p) alg
named_step p alg (Err f) fits is h = absurd (let z : None ≡ some_alg alg = h in cc)
named_step p alg (Ok b) fits is h =
    let read = algorithm_read p b fits is in
    (b, ap some_list read.1, read.0, named_says b alg h)

by_says : (p : Option (List ℕ)) (alg : Alg) → IsBytes (optional_whole p) → mask_by p ≡ some_alg alg → IsMaskBy p alg
by_says None alg fits h = absurd (let z : None ≡ some_alg alg = h in cc)
by_says (Some p) alg fits h = named_step p alg (algorithm_at p) fits refl h

mask_step : (a : AlgorithmValue) (alg : Alg) (b : Bool) → IsBytes (optional_whole a.parameters)
    → is_same a.oid mgf1 ≡ b → cond b (mask_by a.parameters) None ≡ some_alg alg → IsMask (Some a) alg
mask_step a alg true fits e h =
    let m = by_says a.parameters alg fits h in
    (m.0, same a.oid mgf1 e, m.1, m.2, m.3)
mask_step a alg false fits e h = absurd (let z : None ≡ some_alg alg = h in cc)

mask_says : (o : Option AlgorithmValue) (alg : Alg) → IsBytes (explicit_algorithm 0xa1 o) → mask_of o ≡ some_alg alg
    → IsMask o alg
mask_says None alg fits h = sym (one_alg Sha1 alg h)
mask_says (Some a) alg fits h =
    let inner : IsBytes (algorithm_element a) = bytes_inside 0xa1 (algorithm_element a) fits in
    let parts : IsBytes (algorithm_parts a) = bytes_inside 0x30 (algorithm_parts a) inner in
    mask_step a alg (is_same a.oid mgf1) (bytes_behind (el 0x06 a.oid) (optional_whole a.parameters) parts) refl h

mask_is : (o : Option AlgorithmValue) (alg : Alg) → IsMask o alg → mask_of o ≡ some_alg alg
mask_is None alg h = ap some_alg (sym h)
mask_is (Some a) alg h =
    cond-true (is_same a.oid mgf1) (mask_by a.parameters) None (is_then_same a.oid mgf1 h.1)
    ∙ ap mask_by h.2
    ∙ ap named_by (algorithm_again h.0 h.3)
    ∙ named_is h.0 alg h.4

-- ---- the salt and the trailer

abbrev some_number : ℕ → Option ℕ
some_number n = Some n

one_number : (a b : ℕ) → some_number a ≡ some_number b → a ≡ b
one_number a b e = cc

salt_step : (c : List ℕ) (n : ℕ) (b : Bool) → (nat_lt (get_or c 0 0) 128 && nat_le (length c) 8) ≡ b
    → cond b (some_number (os2ip c)) None ≡ some_number n → IsSalt (Some c) n
salt_step c n true e h =
    let p = and_parts (nat_lt (get_or c 0 0) 128) (nat_le (length c) 8) e in
    (ltb-true (get_or c 0 0) 128 p.0, leb-true (length c) 8 p.1, sym (one_number (os2ip c) n h))
salt_step c n false e h = absurd (let z : None ≡ some_number n = h in cc)

salt_says : (o : Option (List ℕ)) (n : ℕ) → salt_of o ≡ some_number n → IsSalt o n
salt_says None n h = sym (one_number 20 n h)
salt_says (Some c) n h = salt_step c n (nat_lt (get_or c 0 0) 128 && nat_le (length c) 8) refl h

salt_is : (o : Option (List ℕ)) (n : ℕ) → IsSalt o n → salt_of o ≡ some_number n
salt_is None n h = ap some_number (sym h)
salt_is (Some c) n h =
    cond-true (nat_lt (get_or c 0 0) 128 && nat_le (length c) 8) (some_number (os2ip c)) None
    (and_from (nat_lt (get_or c 0 0) 128) (nat_le (length c) 8) (lt-ltb (get_or c 0 0) 128 h.0)
    (le-leb (length c) 8 h.1))
    ∙ ap some_number (sym h.2)

trailer_says : (o : Option (List ℕ)) → is_trailer o ≡ true → IsTrailer o
trailer_says None h = tt
trailer_says (Some c) h = same c (0x01 ∷ []) h

trailer_is : (o : Option (List ℕ)) → IsTrailer o → is_trailer o ≡ true
trailer_is None h = refl
trailer_is (Some c) h = is_then_same c (0x01 ∷ []) h

-- ---- the whole

abbrev some_pss : PssParameters → Option PssParameters
some_pss p = Some p

one_pss : (a b : PssParameters) → some_pss a ≡ some_pss b → a ≡ b
one_pss a b e = cc

record All (h m : Option Alg) (s : Option ℕ) (v : PssParameters) : Type 0 where
  pub hash : h ≡ some_alg v.hash
  pub mask : m ≡ some_alg v.mask
  pub salt : s ≡ some_number v.salt

all_say : (h m : Option Alg) (s : Option ℕ) (v : PssParameters) → all_of h m s ≡ some_pss v → All h m s v
all_say None m s v e = absurd (let z : None ≡ some_pss v = e in cc)
all_say (Some h) None s v e = absurd (let z : None ≡ some_pss v = e in cc)
all_say (Some h) (Some m) None v e = absurd (let z : None ≡ some_pss v = e in cc)
all_say (Some h) (Some m) (Some s) v e =
    let is = one_pss (record { hash = h; mask = m; salt = s }) v e in
    record {
      hash = ap (λ (p : PssParameters). some_alg p.hash) is;
      mask = ap (λ (p : PssParameters). some_alg p.mask) is;
      salt = ap (λ (p : PssParameters). some_number p.salt) is;
    }

pss_step : (octets : List ℕ) (p : PssParts) (v : PssParameters) (b : Bool) → IsBytes octets → parts_at octets ≡ Ok p
    → is_trailer p.trailer ≡ b
    → cond b (all_of (hash_of p.hash) (mask_of p.mask) (salt_of p.salt)) None ≡ some_pss v → IsPss octets v
pss_step octets p v true fits is t h =
    let read = parts_read octets p fits is in
    let all = all_say (hash_of p.hash) (mask_of p.mask) (salt_of p.salt) v h in
    let inner : IsBytes (pss_parts p) = bytes_inside 0x30 (pss_parts p) (subst IsBytes read.1 fits) in
    let integers : List ℕ = explicit_integer 0xa2 p.salt ++ explicit_integer 0xa3 p.trailer in
    let behind = bytes_behind (explicit_algorithm 0xa0 p.hash) (explicit_algorithm 0xa1 p.mask ++ integers) inner in
    record {
      parts = p;
      good = read.0;
      whole = read.1;
      hash = hash_says p.hash v.hash all.hash;
      mask = mask_says p.mask v.mask (bytes_before (explicit_algorithm 0xa1 p.mask) integers behind) all.mask;
      salt = salt_says p.salt v.salt all.salt;
      trailer = trailer_says p.trailer t;
    }
pss_step octets p v false fits is t h = absurd (let z : None ≡ some_pss v = h in cc)

read_step : (octets : List ℕ) (v : PssParameters) (r : Result PssParts Fault) → IsBytes octets → parts_at octets ≡ r
    → pss_of r ≡ some_pss v → IsPss octets v
read_step octets v (Err f) fits is h = absurd (let z : None ≡ some_pss v = h in cc)
read_step octets v (Ok p) fits is h = pss_step octets p v (is_trailer p.trailer) fits is refl h

pub pss_again : (octets : List ℕ) (v : PssParameters) → IsPss octets v → pss_in octets ≡ Some v
unfolding pss_in
pss_again octets v k =
    let p : PssParts = k.parts in
    ap (λ o. pss_of (parts_at o)) k.whole
    ∙ ap pss_of (parts_again p k.good)
    ∙ cond-true (is_trailer p.trailer) (all_of (hash_of p.hash) (mask_of p.mask) (salt_of p.salt)) None
    (trailer_is p.trailer k.trailer)
    ∙ ap (λ x. all_of x (mask_of p.mask) (salt_of p.salt)) (hash_is p.hash v.hash k.hash)
    ∙ ap (λ x. all_of (Some v.hash) x (salt_of p.salt)) (mask_is p.mask v.mask k.mask)
    ∙ ap (λ x. all_of (Some v.hash) (Some v.mask) x) (salt_is p.salt v.salt k.salt)

pub pss_says : (octets : List ℕ) (v : PssParameters) → IsBytes octets → (pss_in octets ≡ Some v) ↔ IsPss octets v
unfolding pss_in
pss_says octets v fits = (
  λ h. read_step octets v (parts_at octets) fits refl h,
  λ k. pss_again octets v k,
)

pub pss_found : (o : Option PssParameters) (octets : List ℕ) → IsBytes octets → o ≡ pss_in octets
    → IfSome o (λ p. IsPss octets p)
pss_found None octets fits e = tt
pss_found (Some p) octets fits e = (pss_says octets p fits).0 (sym e)

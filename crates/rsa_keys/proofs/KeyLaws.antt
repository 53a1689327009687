-- What is read of a key, and that each key is read.
use Rattle.std.proofs.Common.{◌≡◌, ◌↔◌, ℕ, ◌%◌, ◌<◌, ◌≤◌, Bool, true, false, cond, List, [], ◌∷◌, ◌++◌, length, get_or}
use Rattle.std.proofs.Common.{Option, Some}
use Rattle.std.proofs.Common.{None, Result, Ok, Err, refl, ap, sym, subst, ◌∙◌, arith}
use Rattle.std.proofs.Math.Nat.{mod-one}
use Rattle.std.specs.Prelude.{◌==◌, IfSome, option_map}
use Rattle.std.proofs.lemmas.Bool.{eq-eqb, eqb-true, cond-true}
use Rattle.der_core.specs.declared.fault.Fault.{Fault}
use Rattle.der_core.specs.Hex.{hex}
use Rattle.der_core.specs.Element.{el, IsBytes}
use Rattle.der_core.specs.Contents.{is_bits, ends_in_zeros}
use Rattle.der_core.specs.Lists.{is_same}
use Rattle.der_core.specs.Values.{AlgorithmValue, GoodAlgorithm, HasLength, IsInteger, algorithm_element}
use Rattle.der_core.specs.Values.{algorithm_parts}
use Rattle.der_core.specs.Values.{optional_whole}
use Rattle.der_core.proofs.Encoded.{same}
use Rattle.der_core.proofs.ReadLengths.{IsBytes-tail}
use Rattle.big_numbers.specs.Numbers.{os2ip}
use Rattle.rsa_keys.specs.declared.key.Scheme.{Scheme}
use Rattle.rsa_keys.specs.declared.key.Scheme.TheVariants.{Any, Pss, PssWith}
use Rattle.rsa_keys.specs.declared.parameters.PssParameters.{PssParameters}
use Rattle.rsa_keys.specs.ParameterReading.{pss_in}
use Rattle.rsa_keys.proofs.ParameterLaws.{pss_again, pss_says}
use Rattle.rsa_keys.specs.declared.key.RsaKey.{RsaKey}
use Rattle.rsa_keys.specs.KeyFields.{key_value}
use Rattle.rsa_keys.specs.KeyValue.{IsAlgorithm, IsJudged, IsRsaKey, KeyValue, positive, public_key}
use Rattle.rsa_keys.specs.KeyReading.{both, both_unsigned, info_at, is_judged, key_by, key_in, key_numbers, key_of}
use Rattle.rsa_keys.specs.KeyReading.{numbers_at}
use Rattle.rsa_keys.specs.KeyReading.{pss_scheme, scheme_of, scheme_with, unsigned, with_null}
use Rattle.rsa_keys.proofs.KeyReaders.{Info, info_again, info_parts, info_read, numbers_again, numbers_read}
use Rattle.rsa_keys.proofs.Bytes.{bytes_before, bytes_behind, bytes_inside}
use Rattle.rsa_keys.proofs.Judging.{judged_says}
use Rattle.rsa_keys.proofs.Signs.{integer_of, positive_size, unsigned_is, unsigned_says}
use Rattle.rsa_keys.proofs.Sizes.{key_size, numbers_size}

-- ---- the numbers

abbrev Numbers : Type 0
Numbers = List ℕ × List ℕ

abbrev some_numbers : Numbers → Option Numbers
some_numbers p = Some p

abbrev AreNumbers : List ℕ → List ℕ → List ℕ → Type 0
AreNumbers bits n e = (bits ≡ 0x00 ∷ public_key (positive n) (positive e)) × (0 < get_or n 0 0) × (0 < get_or e 0 0)

abbrev some_list : List ℕ → Option (List ℕ)
some_list x = Some x

one_pair : (p q : Numbers) → some_numbers p ≡ some_numbers q → p ≡ q
one_pair p q e = cc

both_says : (x y : Option (List ℕ)) (n e : List ℕ) → both x y ≡ some_numbers (n, e)
    → (x ≡ some_list n) × (y ≡ some_list e)
both_says None y n e h = absurd cc
both_says (Some x) None n e h = absurd cc
both_says (Some x) (Some y) n e h =
    let is = one_pair (x, y) (n, e) h in
    (ap (λ (r : Numbers). some_list r.0) is, ap (λ (r : Numbers). some_list r.1) is)

pair_says : (r : Result Numbers Fault) (xs n e : List ℕ) → numbers_at xs ≡ r → IsBytes xs
    → both_unsigned r ≡ some_numbers (n, e) → AreNumbers (0x00 ∷ xs) n e
pair_says (Err f) xs n e is fits h = absurd cc
pair_says (Ok p) xs n e is fits h =
    let b = both_says (unsigned p.0) (unsigned p.1) n e h in
    let m = unsigned_says p.0 n b.0 in
    let x = unsigned_says p.1 e b.1 in
    let read = numbers_read xs p.0 p.1 fits is in (
      ap (λ o. 0x00 ∷ o) read.1 ∙ ap (λ c. 0x00 ∷ public_key c p.1) m.0
          ∙ ap (λ c. 0x00 ∷ public_key (positive n) c) x.0,
      m.1,
      x.1,
    )

numbers_step : (x : ℕ) (xs n e : List ℕ) (b : Bool) → (x == 0) ≡ b → IsBytes xs
    → cond b (both_unsigned (numbers_at xs)) None ≡ some_numbers (n, e) → AreNumbers (x ∷ xs) n e
numbers_step x xs n e true is fits h =
    subst (λ y. AreNumbers (y ∷ xs) n e) (sym (eqb-true x 0 is)) (pair_says (numbers_at xs) xs n e refl fits h)
numbers_step x xs n e false is fits h = absurd cc

numbers_say : (bits n e : List ℕ) → IsBytes bits → key_numbers bits ≡ Some (n, e) → AreNumbers bits n e
unfolding key_numbers
numbers_say [] n e fits h = absurd cc
numbers_say (x ∷ xs) n e fits h = numbers_step x xs n e (x == 0) refl (IsBytes-tail x xs fits) h

good_integer : (n : List ℕ) → 0 < get_or n 0 0 → length n ≤ 1024 → IsInteger (positive n)
good_integer n h l = (integer_of n h, omega (arith, positive_size n))

numbers_are : (n e : List ℕ) → IsJudged n e → key_numbers (0x00 ∷ public_key (positive n) (positive e)) ≡ Some (n, e)
unfolding key_numbers
numbers_are n e j =
    let short : length e ≤ 8 = j.exponent_most in
    let read = numbers_again (positive n) (positive e) (good_integer n j.first j.most)
    (good_integer e j.exponent_first (omega arith)) (omega (arith, numbers_size n e j.most j.exponent_most)) in
    ap both_unsigned read
    ∙ ap (λ x. both x (unsigned (positive e))) (unsigned_is n j.first)
    ∙ ap (λ y. both (Some n) y) (unsigned_is e j.exponent_first)

-- ---- the algorithm

abbrev some_scheme : Scheme → Option Scheme
some_scheme s = Some s

one_scheme : (a b : Scheme) → some_scheme a ≡ some_scheme b → a ≡ b
one_scheme a b e = cc

abbrev rsa : List ℕ
rsa = hex "2a864886f70d010101"

abbrev pss : List ℕ
pss = hex "2a864886f70d01010a"

null_step : (p : List ℕ) (s : Scheme) (b : Bool) → is_same p (0x05 ∷ 0x00 ∷ []) ≡ b
    → cond b (some_scheme Any) None ≡ some_scheme s → (p ≡ 0x05 ∷ 0x00 ∷ []) × (Any ≡ s)
null_step p s true e h = (same p (0x05 ∷ 0x00 ∷ []) e, one_scheme Any s h)
null_step p s false e h = absurd (let z : None ≡ some_scheme s = h in cc)

null_says : (a : AlgorithmValue) (p : Option (List ℕ)) (s : Scheme) → a.parameters ≡ p → a.oid ≡ rsa
    → with_null p ≡ some_scheme s → IsAlgorithm s a
null_says a None s e o h = absurd (let z : None ≡ some_scheme s = h in cc)
null_says a (Some p) s e o h =
    let n = null_step p s (is_same p (0x05 ∷ 0x00 ∷ [])) refl h in
    subst (λ z. IsAlgorithm z a) n.1 (o, e ∙ ap some_list n.0)

with_step : (a : AlgorithmValue) (p : List ℕ) (s : Scheme) (r : Option PssParameters) → a.parameters ≡ Some p
    → a.oid ≡ pss → IsBytes p → pss_in p ≡ r → scheme_with r ≡ some_scheme s → IsAlgorithm s a
with_step a p s None e o fits is h = absurd (let z : None ≡ some_scheme s = h in cc)
with_step a p s (Some v) e o fits is h =
    subst (λ z. IsAlgorithm z a) (one_scheme (PssWith v) s h) (p, o, e, (pss_says p v fits).0 is)

scheme_by : (a : AlgorithmValue) (p : Option (List ℕ)) (s : Scheme) → a.parameters ≡ p → a.oid ≡ pss
    → IsBytes (optional_whole p) → pss_scheme p ≡ some_scheme s → IsAlgorithm s a
scheme_by a None s e o fits h = subst (λ z. IsAlgorithm z a) (one_scheme Pss s h) (o, e)
scheme_by a (Some p) s e o fits h = with_step a p s (pss_in p) e o fits refl h

scheme_step : (a : AlgorithmValue) (s : Scheme) (b c : Bool) → IsBytes (optional_whole a.parameters)
    → is_same a.oid rsa ≡ b → is_same a.oid pss ≡ c
    → cond b (with_null a.parameters) (cond c (pss_scheme a.parameters) None) ≡ some_scheme s → IsAlgorithm s a
scheme_step a s true c fits e f h = null_says a a.parameters s refl (same a.oid rsa e) h
scheme_step a s false true fits e f h = scheme_by a a.parameters s refl (same a.oid pss f) fits h
scheme_step a s false false fits e f h = absurd (let z : None ≡ some_scheme s = h in cc)

scheme_says : (a : AlgorithmValue) (s : Scheme) → IsBytes (algorithm_element a) → scheme_of a ≡ Some s
    → IsAlgorithm s a
unfolding scheme_of
scheme_says a s fits h =
    let parts : IsBytes (algorithm_parts a) = bytes_inside 0x30 (algorithm_parts a) fits in
    scheme_step a s (is_same a.oid rsa) (is_same a.oid pss)
    (bytes_behind (el 0x06 a.oid) (optional_whole a.parameters) parts) refl refl h

-- the scheme by an object identifier and parameters
abbrev chosen : List ℕ → Option (List ℕ) → Option Scheme
chosen o p = cond (is_same o rsa) (with_null p) (cond (is_same o pss) (pss_scheme p) None)

scheme_is : (a : AlgorithmValue) (s : Scheme) → IsAlgorithm s a → scheme_of a ≡ Some s
unfolding scheme_of
scheme_is a Any h = ap (λ o. chosen o a.parameters) h.0 ∙ ap with_null h.1
scheme_is a Pss h = ap (λ o. chosen o a.parameters) h.0 ∙ ap pss_scheme h.1
scheme_is a (PssWith v) h =
    ap (λ o. chosen o a.parameters) h.1 ∙ ap pss_scheme h.2 ∙ ap scheme_with (pss_again h.0 v h.3)

-- ---- the whole

zeros : (xs : List ℕ) → ends_in_zeros 0 xs ≡ true
zeros [] = refl
zeros (b ∷ []) = eq-eqb (b % 1) 0 (mod-one b)
zeros (b ∷ c ∷ bs) = zeros (c ∷ bs)

good_bits : (xs : List ℕ) → is_bits (0x00 ∷ xs) ≡ true
good_bits xs = zeros xs

abbrev some_key : KeyValue → Option KeyValue
some_key k = Some k

abbrev made : Scheme → Numbers → KeyValue
made s p = record { scheme = s; modulus = p.0; exponent = os2ip p.1 }

made_step : (s : Scheme) (p : Numbers) (key : KeyValue) (b : Bool) → is_judged p.0 p.1 ≡ b
    → cond b (some_key (made s p)) None ≡ some_key key → (is_judged p.0 p.1 ≡ true) × (made s p ≡ key)
made_step s p key true e h = (e, cc)
made_step s p key false e h = absurd cc

key_step : (octets : List ℕ) (a : AlgorithmValue) (bits : List ℕ) (key : KeyValue) (s : Option Scheme)
    (p : Option Numbers) → IsBytes (algorithm_element a) → IsBytes bits → GoodAlgorithm a
    → HasLength (info_parts (a, bits)) → octets ≡ el 0x30 (info_parts (a, bits)) → scheme_of a ≡ s
    → key_numbers bits ≡ p → key_by s p ≡ some_key key → IsRsaKey octets key
key_step octets a bits key None p first fits good size whole f g h = absurd cc
key_step octets a bits key (Some s) None first fits good size whole f g h = absurd cc
key_step octets a bits key (Some s) (Some p) first fits good size whole f g h =
    let m = made_step s p key (is_judged p.0 p.1) refl h in
    let numbers = numbers_say bits p.0 p.1 fits g in
    subst (λ k. IsRsaKey octets k) m.1 (record {
      algorithm = a;
      exponent = p.1;
      is = scheme_says a s first f;
      number = refl;
      judged = (judged_says p.0 p.1).0 m.0;
      good = good;
      size = subst (λ (o : List ℕ). HasLength (algorithm_element a ++ el 0x03 o)) numbers.0 size;
      whole = whole ∙ ap (λ o. el 0x30 (algorithm_element a ++ el 0x03 o)) numbers.0;
    })

read_step : (octets : List ℕ) (key : KeyValue) (r : Result Info Fault) → IsBytes octets → info_at octets ≡ r
    → key_of r ≡ some_key key → IsRsaKey octets key
read_step octets key (Err f) fits is h = absurd cc
read_step octets key (Ok i) fits is h =
    let read = info_read octets i fits is in
    let inside : IsBytes (info_parts i) = bytes_inside 0x30 (info_parts i) (subst IsBytes read.1 fits) in
    let bits : IsBytes i.1 = bytes_inside 0x03 i.1 (bytes_behind (algorithm_element i.0) (el 0x03 i.1) inside) in
    key_step octets i.0 i.1 key (scheme_of i.0) (key_numbers i.1)
    (bytes_before (algorithm_element i.0) (el 0x03 i.1) inside) bits read.0.0.0 read.0.1 read.1 refl refl h

key_again : (octets : List ℕ) (key : KeyValue) → IsRsaKey octets key → key_in octets ≡ Some key
unfolding key_in
key_again octets key k =
    let s : Scheme = key.scheme in
    let n : List ℕ = key.modulus in
    let e : List ℕ = k.exponent in
    let bits : List ℕ = 0x00 ∷ public_key (positive n) (positive e) in
    let short = key_size n e k.judged.most k.judged.exponent_most in
    let read = info_again (k.algorithm, bits)
    (k.good, (good_bits (public_key (positive n) (positive e)), omega (arith, short))) k.size in
    ap (λ o. key_of (info_at o)) k.whole
    ∙ ap key_of read
    ∙ ap (λ x. key_by x (key_numbers bits)) (scheme_is k.algorithm s k.is)
    ∙ ap (λ p. key_by (Some s) p) (numbers_are n e k.judged)
    ∙ cond-true (is_judged n e) (some_key (made s (n, e))) None ((judged_says n e).1 k.judged)
    ∙ ap (λ x. some_key (record { scheme = s; modulus = n; exponent = x })) (sym k.number)

pub keys_say : (octets : List ℕ) (key : KeyValue) → IsBytes octets → (key_in octets ≡ Some key) ↔ IsRsaKey octets key
unfolding key_in
keys_say octets key fits = (
  λ h. read_step octets key (info_at octets) fits refl h,
  λ k. key_again octets key k,
)

abbrev pub value_of : Option RsaKey → Option KeyValue
value_of o = option_map key_value o

pub found : (o : Option RsaKey) (octets : List ℕ) → IsBytes octets → value_of o ≡ key_in octets
    → IfSome o (λ k. IsRsaKey octets (key_value k))
found None octets fits e = tt
found (Some k) octets fits e = (keys_say octets (key_value k) fits).0 (sym e)

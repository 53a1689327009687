-- A key is read exactly when there is one.
use Rattle.std.proofs.Common.{◌≡◌, ℕ, true, List, ◌++◌, Ok, refl}
use Rattle.der_core.specs.Element.{el, IsBytes}
use Rattle.der_core.specs.Contents.{is_integer, is_bits}
use Rattle.der_core.specs.Form.{full}
use Rattle.der_core.specs.Grammar.{one, integer, bits, algorithm}
use Rattle.der_core.specs.Reading.{spot, within, whole_of, integer_in, bits_in}
use Rattle.der_core.specs.Values.{AlgorithmValue, GoodAlgorithm, IsInteger, HasLength, algorithm_element}
use Rattle.der_core.proofs.Readers.{Anything, IsReader, IsBody, then_reader, whole_body, within_reader}
use Rattle.der_core.proofs.PartReaders.{Always, integer_body, bits_body}
use Rattle.der_core.proofs.AlgorithmReader.{algorithm_reader}
use Rattle.rsa_keys.specs.KeyValue.{public_key}
use Rattle.rsa_keys.specs.KeyReading.{numbers_in, numbers_at, info_in, info_at}

pub integer_reader : IsReader (within 0x02 integer_in) (λ b. el 0x02 b) IsInteger (one 0x02 integer) Always Anything
integer_reader = within_reader 0x02 refl integer_in (λ b. b) (λ b. is_integer b ≡ true) integer integer_body

abbrev pub numbers_parts : List ℕ → List ℕ → List ℕ
numbers_parts n e = el 0x02 n ++ el 0x02 e

abbrev pub Pair : Type 0
Pair = List ℕ × List ℕ

abbrev pub AreIntegers : Pair → Type 0
AreIntegers p = IsInteger p.0 × IsInteger p.1

numbers_body : IsBody numbers_in (λ p. numbers_parts p.0 p.1) AreIntegers (one 0x02 integer (one 0x02 integer full))
unfolding numbers_in
numbers_body =
    whole_body _ _ _ _ _ _ (then_reader _ _ _ _ _ integer_reader _ _ _ _ _ _ integer_reader (λ y r h l. tt)) tt tt

pub numbers_whole : IsBody (whole_of (within 0x30 numbers_in)) (λ p. public_key p.0 p.1)
    (λ p. AreIntegers p × HasLength (numbers_parts p.0 p.1)) (one 0x30 (one 0x02 integer (one 0x02 integer full)) full)
numbers_whole = whole_body _ _ _ _ _ _
    (within_reader 0x30 refl numbers_in (λ p. numbers_parts p.0 p.1) AreIntegers _ numbers_body) tt tt

pub numbers_read : (octets n e : List ℕ) → IsBytes octets → numbers_at octets ≡ Ok (n, e)
    → (AreIntegers (n, e) × HasLength (numbers_parts n e)) × (octets ≡ public_key n e)
unfolding numbers_at
numbers_read octets n e fits h = numbers_whole.takes (spot 0 octets) (n, e) fits h

pub numbers_again : (n e : List ℕ) → IsInteger n → IsInteger e → HasLength (numbers_parts n e)
    → numbers_at (public_key n e) ≡ Ok (n, e)
unfolding numbers_at
numbers_again n e a b l = numbers_whole.again (n, e) 0 ((a, b), l)

bits_reader : IsReader (within 0x03 bits_in) (λ b. el 0x03 b) (λ b. (is_bits b ≡ true) × HasLength b)
    (one 0x03 bits) Always Anything
bits_reader = within_reader 0x03 refl bits_in (λ b. b) (λ b. is_bits b ≡ true) bits bits_body

abbrev pub Info : Type 0
Info = AlgorithmValue × List ℕ

abbrev pub info_parts : Info → List ℕ
info_parts p = algorithm_element p.0 ++ el 0x03 p.1

abbrev pub AreParts : Info → Type 0
AreParts p = GoodAlgorithm p.0 × ((is_bits p.1 ≡ true) × HasLength p.1)

info_body : IsBody info_in info_parts AreParts (one 0x30 algorithm (one 0x03 bits full))
unfolding info_in
info_body =
    whole_body _ _ _ _ _ _ (then_reader _ _ _ _ _ algorithm_reader _ _ _ _ _ _ bits_reader (λ y r h l. tt)) tt tt

info_whole :
    IsBody (whole_of (within 0x30 info_in)) (λ p. el 0x30 (info_parts p)) (λ p. AreParts p × HasLength (info_parts p))
    (one 0x30 (one 0x30 algorithm (one 0x03 bits full)) full)
info_whole = whole_body _ _ _ _ _ _ (within_reader 0x30 refl info_in info_parts AreParts _ info_body) tt tt

pub info_read : (octets : List ℕ) (p : AlgorithmValue × List ℕ) → IsBytes octets → info_at octets ≡ Ok p
    → (AreParts p × HasLength (info_parts p)) × (octets ≡ el 0x30 (info_parts p))
unfolding info_at
info_read octets p fits h = info_whole.takes (spot 0 octets) p fits h

pub info_again : (p : AlgorithmValue × List ℕ) → AreParts p → HasLength (info_parts p)
    → info_at (el 0x30 (info_parts p)) ≡ Ok p
unfolding info_at
info_again p a l = info_whole.again p 0 (a, l)

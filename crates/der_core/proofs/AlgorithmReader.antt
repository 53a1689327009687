-- An AlgorithmIdentifier is read exactly when there is one.
use Rattle.std.proofs.Common.{◌≡◌, ℕ, ◌<◌, ◌^◌, List, ◌++◌, length, Ok, refl, ap, subst}
use Rattle.std.specs.Prelude.{IfSome}
use Rattle.der_core.specs.Element.{el}
use Rattle.der_core.specs.Values.{optional_whole, IsOpaque, IsOid, AlgorithmValue, algorithm_parts, algorithm_element}
use Rattle.der_core.specs.Values.{GoodAlgorithm}
use Rattle.der_core.specs.Grammar.{one, algorithm}
use Rattle.der_core.specs.Reading.{Spot, within, ◌then◌, whole_of, oid_in, opaque_at}
use Rattle.der_core.specs.Standing.{Enters}
use Rattle.der_core.specs.AlgorithmReading.{algorithm_from, algorithm_in}
use Rattle.der_core.proofs.Readers.{Anything, IsReader, IsBody, then_reader, whole_body, made_body, within_reader}
use Rattle.der_core.proofs.PartReaders.{Always, alike_reader, oid_reader, opaque_reader}

abbrev pub AlgorithmParts : AlgorithmValue → Type 0
AlgorithmParts a = IsOid a.oid × IfSome a.parameters IsOpaque

pub algorithm_body : IsBody algorithm_in algorithm_parts AlgorithmParts algorithm
unfolding algorithm_in
algorithm_body =
    made_body algorithm_from (λ a. (a.oid, a.parameters)) (λ a. refl) (whole_of (within 0x06 oid_in then opaque_at))
    (λ p. el 0x06 p.0 ++ optional_whole p.1) (λ p. IsOid p.0 × IfSome p.1 IsOpaque) algorithm
    (whole_body _ _ _ _ _ _ (then_reader _ _ _ _ _ oid_reader _ _ _ _ _ _ opaque_reader (λ y r h l. tt)) refl tt)
    (λ p h. refl)

pub algorithm_reader :
    IsReader (within 0x30 algorithm_in) algorithm_element GoodAlgorithm (one 0x30 algorithm) Always Anything
algorithm_reader = alike_reader _ algorithm_element _ GoodAlgorithm (λ a. refl)
    (λ a h. record { oid = h.0.0; parameters = h.0.1; size = h.1 })
    (λ a h. ((h.oid, h.parameters), h.size)) _ _ _ Always Anything (λ r l. l)
    (within_reader 0x30 refl algorithm_in algorithm_parts AlgorithmParts algorithm algorithm_body)

-- what was entered and read is the whole element of the value
pub algorithm_whole : (c s s' : Spot) (a : AlgorithmValue) → Enters 48 s c s' → algorithm_in c ≡ Ok a
    → (el 0x30 c.rest ≡ algorithm_element a) × GoodAlgorithm a
algorithm_whole c s s' a k e =
    let t = algorithm_body.takes c a k.fits e in (
      ap (λ (b : List ℕ). el 0x30 b) t.1,
      record { oid = t.0.0; parameters = t.0.1; size = subst (λ (b : List ℕ). length b < 2 ^ 32) t.1 k.element.size },
    )

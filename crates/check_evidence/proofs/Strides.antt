-- Where the values of a list stand in its octets, if all have one length, which one octet states.
use Rattle.std.proofs.Common.{◌≡◌, ℕ, zero, suc, ◌+◌, ◌*◌, ◌<◌, ◌≤◌, List, [], ◌∷◌, ◌++◌, length, take, drop, get_or}
use Rattle.std.proofs.Common.{sym, ap, ◌∙◌, arith, All}
use Rattle.std.proofs.lemmas.List.{length-append}
use Rattle.std.proofs.lemmas.List.Concat.{flat_map-cons}
use Rattle.std.proofs.lemmas.List.Elements.{All-head, All-tail}
use Rattle.std.proofs.Math.Seq.{drop-append-add, take-append_seam}
use Rattle.der_core.specs.Element.{len, el}
use Rattle.der_core.proofs.Lengths.{len_0}
use Rattle.digests.specs.Algorithms.{length_of}
use Rattle.digests.specs.declared.algorithm.Alg.{Alg}
use Rattle.digests.specs.declared.algorithm.Alg.TheVariants.{Sha1, Sha224, Sha256, Sha384, Sha512, Sha512_224}
use Rattle.digests.specs.declared.algorithm.Alg.TheVariants.{Sha512_256}
use Rattle.evidence_types.specs.StampValue.{hash_list_parts}

abbrev Values : Type 0
Values = List (List ℕ)

abbrev pub AreLong : ℕ → Values → Type 0
AreLong size values = All (λ v. length v ≡ size) values

-- before the octets of a value are two others
short : (v : List ℕ) (size : ℕ) → size < 128 → length v ≡ size → el 4 v ≡ 4 ∷ size ∷ v
short v size small is =
    ap (λ (n : ℕ). 4 ∷ (len n ++ v)) is ∙ ap (λ (l : List ℕ). 4 ∷ (l ++ v)) (len_0 size small)

parts : (v : List ℕ) (values : Values) (size : ℕ) → size < 128 → AreLong size (v ∷ values)
    → hash_list_parts (v ∷ values) ≡ (4 ∷ size ∷ v) ++ hash_list_parts values
parts v values size small long = flat_map-cons (λ x. el 4 x) v values
    ∙ ap (λ (o : List ℕ). o ++ hash_list_parts values)
    (short v size small (All-head (λ x. length x ≡ size) v values long))

-- the octets of the value at a place
pub strides_at : (values : Values) (size place : ℕ) (d : List ℕ) → size < 128 → AreLong size values
    → place < length values → take size (drop (place * (size + 2) + 2) (hash_list_parts values)) ≡ get_or values place d
strides_at [] size place d small long below = absurd (omega (arith, below))
strides_at (v ∷ values) size zero d small long below =
    let own : size ≡ length v = sym (All-head (λ x. length x ≡ size) v values long) in
    let start : 0 * (size + 2) + 2 ≡ 2 = omega arith in
    ap (λ (n : ℕ). take size (drop n (hash_list_parts (v ∷ values)))) start
    ∙ ap (λ (o : List ℕ). take size (drop 2 o)) (parts v values size small long)
    ∙ ap (λ (n : ℕ). take n (v ++ hash_list_parts values)) own
    ∙ take-append_seam v (hash_list_parts values)
strides_at (v ∷ values) size (suc place) d small long below =
    let own : length v ≡ size = All-head (λ x. length x ≡ size) v values long in
    let start : suc place * (size + 2) + 2 ≡ length (4 ∷ size ∷ v) + (place * (size + 2) + 2) = omega (arith, own) in
    ap (λ (n : ℕ). take size (drop n (hash_list_parts (v ∷ values)))) start
    ∙ ap (λ (o : List ℕ). take size (drop (length (4 ∷ size ∷ v) + (place * (size + 2) + 2)) o))
    (parts v values size small long)
    ∙ ap (take size) (drop-append-add (4 ∷ size ∷ v) (hash_list_parts values) (place * (size + 2) + 2))
    ∙ strides_at values size place d small (All-tail (λ x. length x ≡ size) v values long) (omega (arith, below))

-- it is whole
pub stride_fits : (values : Values) (size place : ℕ) → size < 128 → AreLong size values → place < length values
    → place * (size + 2) + 2 + size ≤ length (hash_list_parts values)
stride_fits [] size place small long below = absurd (omega (arith, below))
stride_fits (v ∷ values) size zero small long below =
    let all = ap length (parts v values size small long) in
    let both = length-append (4 ∷ size ∷ v) (hash_list_parts values) in
    let own : length v ≡ size = All-head (λ x. length x ≡ size) v values long in
    omega (arith, all, both, own)
stride_fits (v ∷ values) size (suc place) small long below =
    let all = ap length (parts v values size small long) in
    let both = length-append (4 ∷ size ∷ v) (hash_list_parts values) in
    let own : length v ≡ size = All-head (λ x. length x ≡ size) v values long in
    let rest = stride_fits values size place small (All-tail (λ x. length x ≡ size) v values long)
    (omega (arith, below)) in
    let next : suc place * (size + 2) ≡ (size + 2) + place * (size + 2) = omega arith in
    omega (arith, all, both, own, rest, next)

-- a digest is so short
pub digests_are_short : (alg : Alg) → length_of alg < 128
digests_are_short Sha1 = omega arith
digests_are_short Sha224 = omega arith
digests_are_short Sha256 = omega arith
digests_are_short Sha384 = omega arith
digests_are_short Sha512 = omega arith
digests_are_short Sha512_224 = omega arith
digests_are_short Sha512_256 = omega arith

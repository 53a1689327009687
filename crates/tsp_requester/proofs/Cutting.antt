-- Where the pieces of a file are.
use Rattle.std.proofs.Common.{◌≡◌, ℕ, zero, suc, ◌-◌, ◌<◌, List, [], ◌∷◌, ◌++◌, length, take, drop, Option, Some, None}
use Rattle.std.proofs.Common.{refl, sym, ap, subst, ◌∙◌, append_assoc}
use Rattle.std.proofs.Common.{append-nil, arith, length-append}
use Rattle.std.specs.Prelude.{slice_get, IfSome}
use Rattle.std.specs.List.{AllByRecursion}
use Rattle.std.proofs.lemmas.Grind.{flat_map-append}
use Rattle.std.proofs.lemmas.List.{take-append-drop}
use Rattle.std.proofs.lemmas.List.Concat.{flat_map-cons}
use Rattle.std.proofs.Math.Seq.{take-append_seam}
use Rattle.der_core.specs.Element.{el}
use Rattle.der_core.specs.Values.{HasLength, algorithm_element}
use Rattle.der_lists.specs.Numbers.{of_number}
use Rattle.cms_types.specs.AttributeValue.{AttributeValue, attributes_parts, optional_attributes}
use Rattle.cms_types.specs.AttributeValue.{GoodUnsignedAttributes}
use Rattle.cms_types.specs.SignerValue.{SignerValue, sid_element, signer_parts, signer_element, GoodSigner}
use Rattle.cms_types.specs.SignedDataValue.{SignedDataValue, algorithms_parts, encapsulated_parts, optional_choices}
use Rattle.cms_types.specs.SignedDataValue.{signers_parts, signed_data_parts}
use Rattle.cms_types.specs.SignedDataValue.{GoodSignedData}
use Rattle.tsp_requester.specs.Pieces.{data_front, signer_front, IsPlace}

-- ---- fronts

five : (a b c d e f : List ℕ) → a ++ (b ++ (c ++ (d ++ (e ++ f)))) ≡ (a ++ (b ++ (c ++ (d ++ e)))) ++ f
five a b c d e f =
    sym (append_assoc a (b ++ (c ++ (d ++ e))) f ∙ ap (λ (x : List ℕ). a ++ x) (append_assoc b (c ++ (d ++ e)) f
    ∙ ap (λ (x : List ℕ). b ++ x) (append_assoc c (d ++ e) f ∙ ap (λ (x : List ℕ). c ++ x) (append_assoc d e f))))

pub data_parts_are : (v : SignedDataValue) → signed_data_parts v ≡ data_front v ++ el 0x31 (signers_parts v.signers)
data_parts_are v = five (el 0x02 v.version) (el 0x31 (algorithms_parts v.digest_algorithms))
    (el 0x30 (encapsulated_parts v.encapsulated))
    (optional_choices 0xa0 v.certificates) (optional_choices 0xa1 v.crls) (el 0x31 (signers_parts v.signers))

pub signer_parts_are : (s : SignerValue)
    → signer_parts s ≡ signer_front s ++ optional_attributes 0xa1 s.unsigned_attributes
signer_parts_are s =
    let rest : List ℕ = sid_element s.sid ++ (algorithm_element s.digest_algorithm
    ++ (optional_attributes 0xa0 s.signed_attributes
    ++ (algorithm_element s.signature_algorithm ++ el 0x04 s.signature))) in
    let u : List ℕ = optional_attributes 0xa1 s.unsigned_attributes in
    ap (λ (x : List ℕ). el 0x02 s.version ++ x) (five (sid_element s.sid) (algorithm_element s.digest_algorithm)
    (optional_attributes 0xa0 s.signed_attributes) (algorithm_element s.signature_algorithm) (el 0x04 s.signature) u)
    ∙ sym (append_assoc (el 0x02 s.version) rest u)

-- ---- signers by their number

pub place_number : (ss : List SignerValue) (n : ℕ) (s : SignerValue) (others : List SignerValue)
    → drop n ss ≡ s ∷ others → slice_get ss n ≡ Some s
place_number ss zero s others e = subst (λ (l : List SignerValue). slice_get l zero ≡ Some s) (sym e) refl
place_number [] (suc n) s others e = absurd cc
place_number (t ∷ ss) (suc n) s others e = place_number ss n s others e

pub no_place : (ss : List SignerValue) (n : ℕ) → drop n ss ≡ [] → slice_get ss n ≡ None
no_place [] zero e = refl
no_place [] (suc n) e = refl
no_place (t ∷ ss) zero e = absurd cc
no_place (t ∷ ss) (suc n) e = no_place ss n e

pub numbered : (ss : List SignerValue) (number : ℕ) (s : SignerValue) (from : List ℕ) → IsPlace ss number s from
    → of_number ss number ≡ Some s
numbered ss zero s from p = absurd (omega (arith, p.positive))
numbered ss (suc n) s from p =
    let e : suc n - 1 ≡ n = omega arith in place_number ss n s p.others (sym (ap (λ (m : ℕ). drop m ss) e) ∙ p.are)

pub unnumbered : (ss : List SignerValue) (number : ℕ) → 0 < number → drop (number - 1) ss ≡ []
    → of_number ss number ≡ None
unnumbered ss zero h e = absurd (omega arith)
unnumbered ss (suc n) h e = let f : suc n - 1 ≡ n = omega arith in no_place ss n (sym (ap (λ (m : ℕ). drop m ss) f) ∙ e)

pub good_at : (ss : List SignerValue) (n : ℕ) (s : SignerValue) (others : List SignerValue)
    → AllByRecursion GoodSigner ss
    → drop n ss ≡ s ∷ others → GoodSigner s
good_at ss zero s others h e = (subst (AllByRecursion GoodSigner) e h).0
good_at [] (suc n) s others h e = absurd cc
good_at (t ∷ ss) (suc n) s others h e = good_at ss n s others h.1 e

pub drop_next : (left : List SignerValue) (k : ℕ) (s : SignerValue) (others : List SignerValue) → 0 < k
    → left ≡ s ∷ others → drop k left ≡ drop (k - 1) others
drop_next left zero s others h e = absurd (omega arith)
drop_next left (suc n) s others h e =
    let f : suc n - 1 ≡ n = omega arith in ap (drop (suc n)) e ∙ sym (ap (λ (m : ℕ). drop m others) f)

-- ---- octets of signers

pub first_is : (s : SignerValue) (others : List SignerValue)
    → signers_parts (s ∷ others) ≡ el 0x30 (signer_parts s) ++ signers_parts others
first_is s others = flat_map-cons signer_element s others

pub split_at : (ss : List SignerValue) (n : ℕ)
    → signers_parts ss ≡ signers_parts (take n ss) ++ signers_parts (drop n ss)
split_at ss n = ap (λ (l : List SignerValue). signers_parts l) (sym (take-append-drop n ss))
    ∙ flat_map-append signer_element (take n ss) (drop n ss)

-- what comes before the octets at the end
pub before_is : (all front back : List ℕ) → all ≡ front ++ back → take (length all - length back) all ≡ front
before_is all front back e =
    let n : length all - length back ≡ length front = omega (arith, ap length e, length-append front back) in
    ap (λ (m : ℕ). take m all) n ∙ ap (take (length front)) e ∙ take-append_seam front back

-- ---- the parts of a signer

pub unsigned_front : (s : SignerValue) (xs : List AttributeValue) (b parts : List ℕ) → Some xs ≡ s.unsigned_attributes
    → b ≡ attributes_parts xs
    → GoodSigner s → parts ≡ signer_parts s
    → HasLength b × (parts ≡ signer_front s ++ el 0xa1 b)
unsigned_front s xs b parts e is good same =
    let fit : GoodUnsignedAttributes xs = subst (λ (o : Option (List AttributeValue)). IfSome o GoodUnsignedAttributes)
    (sym e) good.unsigned_attributes in (
      subst HasLength (sym is) fit.size,
      same ∙ signer_parts_are s
          ∙ ap (λ (o : Option (List AttributeValue)). signer_front s ++ optional_attributes 161 o) (sym e)
          ∙ ap (λ (l : List ℕ). signer_front s ++ el 0xa1 l) (sym is),
    )

pub no_unsigned_front : (s : SignerValue) (parts : List ℕ) → None ≡ s.unsigned_attributes → parts ≡ signer_parts s
    → parts ≡ signer_front s
no_unsigned_front s parts e same =
    same ∙ signer_parts_are s ∙ ap (λ (o : Option (List AttributeValue)). signer_front s ++ optional_attributes 161 o)
    (sym e) ∙ append-nil (signer_front s)

-- ---- what is cut

pub front_there : (v : SignedDataValue) (all octets : List ℕ) → all ≡ signers_parts v.signers → GoodSignedData v
    → octets ≡ signed_data_parts v
    → HasLength all × (octets ≡ data_front v ++ el 0x31 all)
front_there v all octets e good same = (
  subst HasLength (sym e) good.signers_size,
  same ∙ data_parts_are v ∙ ap (λ (l : List ℕ). data_front v ++ el 0x31 l) (sym e),
)

pub before_there : (ss : List SignerValue) (number : ℕ) (s : SignerValue) (all from : List ℕ) → all ≡ signers_parts ss
    → IsPlace ss number s from
    → take (length all - length from) all ≡ signers_parts (take (number - 1) ss)
before_there ss number s all from e place =
    before_is all (signers_parts (take (number - 1) ss)) from (e ∙ split_at ss (number - 1)
    ∙ ap (λ (l : List ℕ). signers_parts (take (number - 1) ss) ++ l)
    (ap (λ (l : List SignerValue). signers_parts l) place.are ∙ sym place.octets))

pub first_there : (ss : List SignerValue) (number : ℕ) (s : SignerValue) (from : List ℕ) → IsPlace ss number s from
    → from ≡ el 0x30 (signer_parts s) ++ signers_parts (drop 1 (drop (number - 1) ss))
first_there ss number s from place = place.octets ∙ first_is s place.others
    ∙ ap (λ (l : List SignerValue). el 0x30 (signer_parts s) ++ signers_parts (drop 1 l)) (sym place.are)

pub good_there : (v : SignedDataValue) (number : ℕ) (s : SignerValue) (from : List ℕ) → GoodSignedData v
    → IsPlace v.signers number s from → GoodSigner s
good_there v number s from good place = good_at v.signers (number - 1) s place.others good.signers place.are

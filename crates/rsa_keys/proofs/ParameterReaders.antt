-- Parameters of RSASSA-PSS are read exactly when there are some.
use Rattle.std.proofs.Common.{◌≡◌, ℕ, true, List, [], ◌∷◌, ◌++◌, Option, Some, None, Ok, refl, append_assoc}
use Rattle.std.specs.Prelude.{IfSome}
use Rattle.der_core.specs.Element.{is_tag, el, IsBytes}
use Rattle.der_core.specs.Form.{Form, full}
use Rattle.der_core.specs.Grammar.{one, opt, integer, algorithm}
use Rattle.der_core.specs.Reading.{spot, within, maybe, last, ◌then◌, whole_of}
use Rattle.der_core.specs.Values.{AlgorithmValue, GoodAlgorithm, IsInteger, HasLength, algorithm_element}
use Rattle.der_core.proofs.Fronts.{Apart, Others, front_apart, at_end_apart}
use Rattle.der_core.proofs.Readers.{Anything, Nothing, IsReader, IsBody, enc_option, GoodOption, maybe_reader}
use Rattle.der_core.proofs.Readers.{last_reader}
use Rattle.der_core.proofs.Readers.{then_reader, whole_body, within_reader, made_body}
use Rattle.der_core.proofs.PartReaders.{Last, Not, alike_reader}
use Rattle.der_core.proofs.AlgorithmReader.{algorithm_reader}
use Rattle.rsa_keys.specs.ParameterValue.{GoodExplicitAlgorithm, GoodExplicitInteger, GoodPss, PssParts}
use Rattle.rsa_keys.specs.ParameterValue.{explicit_algorithm}
use Rattle.rsa_keys.specs.ParameterValue.{explicit_integer, pss_parts}
use Rattle.rsa_keys.specs.ParameterReading.{algorithm_at, explicit_algorithm_in, explicit_integer_in, parts_at}
use Rattle.rsa_keys.specs.ParameterReading.{parts_from}
use Rattle.rsa_keys.specs.ParameterReading.{parts_in}
use Rattle.rsa_keys.proofs.KeyReaders.{integer_reader}

-- ---- contents of a part

abbrev algorithm_form : Form
algorithm_form = one 0x30 algorithm full

abbrev integer_form : Form
integer_form = one 0x02 integer full

algorithm_body : IsBody explicit_algorithm_in algorithm_element GoodAlgorithm algorithm_form
unfolding explicit_algorithm_in
algorithm_body = whole_body _ _ _ _ _ _ algorithm_reader tt tt

abbrev integer_element : List ℕ → List ℕ
integer_element c = el 0x02 c

integer_body : IsBody explicit_integer_in integer_element IsInteger integer_form
unfolding explicit_integer_in
integer_body = whole_body _ _ _ _ _ _ integer_reader tt tt

-- ---- a part that may be absent

module _ (tag : ℕ) (id : is_tag tag ≡ true) where
  abbrev algorithm_enc : Option AlgorithmValue → List ℕ
  algorithm_enc = enc_option tag id explicit_algorithm_in algorithm_element GoodAlgorithm algorithm_form algorithm_body

  abbrev AlgorithmIsGood : Option AlgorithmValue → Type 0
  AlgorithmIsGood =
      GoodOption tag id explicit_algorithm_in algorithm_element GoodAlgorithm algorithm_form algorithm_body

  same_algorithm : (o : Option AlgorithmValue) → algorithm_enc o ≡ explicit_algorithm tag o
  same_algorithm None = refl
  same_algorithm (Some a) = refl

  good_algorithm : (o : Option AlgorithmValue) → AlgorithmIsGood o → IfSome o GoodExplicitAlgorithm
  good_algorithm None h = tt
  good_algorithm (Some a) h = h

  algorithm_good : (o : Option AlgorithmValue) → IfSome o GoodExplicitAlgorithm → AlgorithmIsGood o
  algorithm_good None h = tt
  algorithm_good (Some a) h = h

  algorithm_option : IsReader (maybe tag explicit_algorithm_in) (explicit_algorithm tag)
      (λ o. IfSome o GoodExplicitAlgorithm) (opt tag algorithm_form) (Not tag) Anything
  algorithm_option = alike_reader algorithm_enc (explicit_algorithm tag) AlgorithmIsGood
      (λ o. IfSome o GoodExplicitAlgorithm) same_algorithm good_algorithm algorithm_good
      (maybe tag explicit_algorithm_in) (opt tag algorithm_form) (Not tag) (Not tag) Anything (λ r l. l)
      (maybe_reader tag id explicit_algorithm_in algorithm_element GoodAlgorithm algorithm_form algorithm_body)

  abbrev integer_enc : Option (List ℕ) → List ℕ
  integer_enc = enc_option tag id explicit_integer_in integer_element IsInteger integer_form integer_body

  abbrev IntegerIsGood : Option (List ℕ) → Type 0
  IntegerIsGood = GoodOption tag id explicit_integer_in integer_element IsInteger integer_form integer_body

  same_integer : (o : Option (List ℕ)) → integer_enc o ≡ explicit_integer tag o
  same_integer None = refl
  same_integer (Some c) = refl

  good_integer : (o : Option (List ℕ)) → IntegerIsGood o → IfSome o GoodExplicitInteger
  good_integer None h = tt
  good_integer (Some c) h = h

  integer_good : (o : Option (List ℕ)) → IfSome o GoodExplicitInteger → IntegerIsGood o
  integer_good None h = tt
  integer_good (Some c) h = h

  integer_option : IsReader (maybe tag explicit_integer_in) (explicit_integer tag)
      (λ o. IfSome o GoodExplicitInteger) (opt tag integer_form) (Not tag) Anything
  integer_option = alike_reader integer_enc (explicit_integer tag) IntegerIsGood (λ o. IfSome o GoodExplicitInteger)
      same_integer good_integer integer_good
      (maybe tag explicit_integer_in) (opt tag integer_form) (Not tag) (Not tag) Anything (λ r l. l)
      (maybe_reader tag id explicit_integer_in integer_element IsInteger integer_form integer_body)

  integer_last : IsReader (last tag explicit_integer_in) (explicit_integer tag)
      (λ o. IfSome o GoodExplicitInteger) (opt tag integer_form) Last Nothing
  integer_last = alike_reader integer_enc (explicit_integer tag) IntegerIsGood (λ o. IfSome o GoodExplicitInteger)
      same_integer good_integer integer_good
      (last tag explicit_integer_in) (opt tag integer_form) Last Last Nothing (λ r l. l)
      (last_reader tag id explicit_integer_in integer_element IsInteger integer_form integer_body)

algorithm_apart : (t : ℕ) (o : Option AlgorithmValue) (r us : List ℕ) → Others t us → Apart us r
    → Apart us (explicit_algorithm t o ++ r)
algorithm_apart t None r us h l = l
algorithm_apart t (Some a) r us h l = front_apart t (algorithm_element a) r us h

integer_apart : (t : ℕ) (o : Option (List ℕ)) (r us : List ℕ) → Others t us → Apart us r
    → Apart us (explicit_integer t o ++ r)
integer_apart t None r us h l = l
integer_apart t (Some c) r us h l = front_apart t (el 0x02 c) r us h

two_apart : (s t : Option (List ℕ)) (r us : List ℕ) → Others 0xa2 us → Others 0xa3 us → r ≡ []
    → Apart us ((explicit_integer 0xa2 s ++ explicit_integer 0xa3 t) ++ r)
two_apart s t r us h k l =
    rw (append_assoc (explicit_integer 0xa2 s) (explicit_integer 0xa3 t) r)
    (integer_apart 0xa2 s (explicit_integer 0xa3 t ++ r) us h (integer_apart 0xa3 t r us k (at_end_apart us r l)))

-- ---- the parts

abbrev Parts : Type 0
Parts = Option AlgorithmValue × (Option AlgorithmValue × (Option (List ℕ) × Option (List ℕ)))

abbrev GoodParts : Parts → Type 0
GoodParts p = IfSome p.0 GoodExplicitAlgorithm × (IfSome p.1.0 GoodExplicitAlgorithm
    × (IfSome p.1.1.0 GoodExplicitInteger × IfSome p.1.1.1 GoodExplicitInteger))

abbrev spelled : Parts → List ℕ
spelled p = explicit_algorithm 0xa0 p.0 ++ (explicit_algorithm 0xa1 p.1.0
    ++ (explicit_integer 0xa2 p.1.1.0 ++ explicit_integer 0xa3 p.1.1.1))

parts_reader : IsReader
    (maybe 0xa0 explicit_algorithm_in then maybe 0xa1 explicit_algorithm_in then maybe 0xa2 explicit_integer_in
    then last 0xa3 explicit_integer_in) spelled GoodParts
    (λ after. opt 0xa0 algorithm_form (opt 0xa1 algorithm_form (opt 0xa2 integer_form (opt 0xa3 integer_form after))))
    Last Nothing
parts_reader =
    let salt = then_reader _ _ _ _ _ (integer_option 0xa2 refl) _ _ _ _ _ _ (integer_last 0xa3 refl)
    (λ y r h l. (integer_apart 0xa3 y r (0xa2 ∷ []) (refl, tt) (at_end_apart (0xa2 ∷ []) r l)).0) in
    let mask = then_reader _ _ _ _ _ (algorithm_option 0xa1 refl) _ _ _ _ _ _ salt
    (λ y r h l. (two_apart y.0 y.1 r (0xa1 ∷ []) (refl, tt) (refl, tt) l).0) in
    then_reader _ _ _ _ _ (algorithm_option 0xa0 refl) _ _ _ _ _ _ mask
    (λ y r h l.
    rw (append_assoc (explicit_algorithm 0xa1 y.0) (explicit_integer 0xa2 y.1.0 ++ explicit_integer 0xa3 y.1.1) r)
    (algorithm_apart 0xa1 y.0 ((explicit_integer 0xa2 y.1.0 ++ explicit_integer 0xa3 y.1.1) ++ r) (0xa0 ∷ []) (refl, tt)
    (two_apart y.1.0 y.1.1 r (0xa0 ∷ []) (refl, tt) (refl, tt) l)).0)

abbrev parts_form : Form
parts_form =
    opt 0xa0 algorithm_form (opt 0xa1 algorithm_form (opt 0xa2 integer_form (opt 0xa3 integer_form full)))

abbrev ArePssParts : PssParts → Type 0
ArePssParts v = GoodParts (v.hash, (v.mask, (v.salt, v.trailer)))

parts_body : IsBody parts_in pss_parts ArePssParts parts_form
unfolding parts_in
parts_body =
    made_body parts_from (λ v. (v.hash, (v.mask, (v.salt, v.trailer)))) (λ v. refl) _ spelled GoodParts parts_form
    (whole_body _ _ _ _ _ _ parts_reader refl refl) (λ p h. refl)

parts_whole : IsBody (whole_of (within 0x30 parts_in)) (λ v. el 0x30 (pss_parts v))
    (λ v. ArePssParts v × HasLength (pss_parts v)) (one 0x30 parts_form full)
parts_whole =
    whole_body _ _ _ _ _ _ (within_reader 0x30 refl parts_in pss_parts ArePssParts parts_form parts_body) tt tt

pub parts_read : (octets : List ℕ) (v : PssParts) → IsBytes octets → parts_at octets ≡ Ok v
    → GoodPss v × (octets ≡ el 0x30 (pss_parts v))
unfolding parts_at
parts_read octets v fits h =
    let t = parts_whole.takes (spot 0 octets) v fits h in (
      record { hash = t.0.0.0; mask = t.0.0.1.0; salt = t.0.0.1.1.0; trailer = t.0.0.1.1.1; size = t.0.1 },
      t.1,
    )

pub parts_again : (v : PssParts) → GoodPss v → parts_at (el 0x30 (pss_parts v)) ≡ Ok v
unfolding parts_at
parts_again v g = parts_whole.again v 0 ((g.hash, (g.mask, (g.salt, g.trailer))), g.size)

pub algorithm_read : (octets : List ℕ) (a : AlgorithmValue) → IsBytes octets → algorithm_at octets ≡ Ok a
    → GoodAlgorithm a × (octets ≡ algorithm_element a)
unfolding algorithm_at
algorithm_read octets a fits h = algorithm_body.takes (spot 0 octets) a fits h

pub algorithm_again : (a : AlgorithmValue) → GoodAlgorithm a → algorithm_at (algorithm_element a) ≡ Ok a
unfolding algorithm_at
algorithm_again a g = algorithm_body.again a 0 g

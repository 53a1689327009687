-- Records that end with a token: their octets, and that they are good.
use Rattle.std.proofs.Common.{◌≡◌, ◌≢◌, ◌<◌, ℕ, Bool, true, false, List, [], ◌∷◌, ◌++◌, length, map}
use Rattle.std.proofs.Common.{Option, Some, None, drop, Result, Ok, Err, sym, ap, subst, ◌∙◌, arith, append_assoc}
use Rattle.std.proofs.Common.{append-nil}
use Rattle.std.specs.Prelude.{IfSome, IfOk}
use Rattle.std.specs.List.{AllByRecursion, flat_map}
use Rattle.std.proofs.lemmas.Grind.{flat_map-append}
use Rattle.std.proofs.lemmas.List.Concat.{flat_map-cons}
use Rattle.der_core.specs.Element.{el}
use Rattle.der_core.specs.Values.{HasLength, AlgorithmValue, algorithm_parts, algorithm_element, GoodAlgorithm}
use Rattle.digests.specs.declared.algorithm.Alg.{Alg}
use Rattle.digests.proofs.Named.{contents_formed, contents_short}
use Rattle.cms_types.specs.AttributeValue.{AttributeValue, GoodUnsignedAttributes, optional_attributes}
use Rattle.cms_types.specs.SignedDataValue.{algorithms_parts}
use Rattle.evidence_types.specs.StampValue.{StampValue, stamp_element, GoodStamp, IsSequence}
use Rattle.evidence_types.specs.StampValue.{hash_list_parts, hash_lists_parts, GoodHashList, GoodHashLists}
use Rattle.evidence_types.specs.EvidenceValue.{EncryptionValue, GoodEncryption, optional_encryption, EvidenceValue}
use Rattle.evidence_types.specs.EvidenceValue.{chain_parts, chain_element, GoodChain, chains_parts, evidence_parts}
use Rattle.evidence_types.specs.EvidenceValue.{GoodEvidence, EncodesEvidence}
use Rattle.evidence_making.specs.Made.{plain, lists_of, group_lists, stamp_with}
use Rattle.evidence_making.specs.Frames.{FrameValue, Lists, added, lists_inside, chain_inside, chains_inside}
use Rattle.evidence_making.specs.Frames.{algorithms_inside, record_inside}
use Rattle.evidence_making.proofs.Lengths.{inside_less, algorithms_less, chains_less, chain_less, stamp_less}
use Rattle.evidence_making.proofs.Lengths.{list_cons_length, parts_cons_length, lists_less_whole, plain_length}

-- ---- the record

-- digestAlgorithms, and whether the algorithm is added; the fields between it and the chains; the chains before that of
-- the token, and the archive time-stamps before it in its chain
pub record PlacedValue : Type 0 where
  pub algorithms : List AlgorithmValue
  pub adds : Bool
  pub crypto_infos : Option (List AttributeValue)
  pub encryption : Option EncryptionValue
  pub earlier : List (List StampValue)
  pub before : List StampValue

abbrev pub all_algorithms : Alg → Bool → List AlgorithmValue → List AlgorithmValue
all_algorithms alg true xs = xs ++ plain alg ∷ []
all_algorithms alg false xs = xs

abbrev pub value_of : Alg → PlacedValue → Lists → (token : List ℕ) → EvidenceValue
value_of alg p lists token = record {
  algorithms = all_algorithms alg p.adds p.algorithms;
  crypto_infos = p.crypto_infos;
  encryption = p.encryption;
  chains = p.earlier ++ (p.before ++ stamp_with alg lists token ∷ []) ∷ [];
}

abbrev pub frame_of : Alg → PlacedValue → FrameValue
frame_of alg p = record {
  alg = alg;
  algorithms = algorithms_parts p.algorithms;
  adds = p.adds;
  others = optional_attributes 0xa0 p.crypto_infos ++ optional_encryption 0xa1 p.encryption;
  chains = chains_parts p.earlier;
  stamps = chain_parts p.before;
}

pub record GoodPlaced (p : PlacedValue) : Type 0 where
  pub algorithms : AllByRecursion GoodAlgorithm p.algorithms
  pub crypto_infos : IfSome p.crypto_infos GoodUnsignedAttributes
  pub encryption : IfSome p.encryption GoodEncryption
  pub earlier : AllByRecursion GoodChain p.earlier
  pub before : AllByRecursion GoodStamp p.before

-- ---- lists with one more at the end

pub parts_more : {A : Type 0} (f : A → List ℕ) (xs : List A) (x : A) → flat_map f (xs ++ x ∷ []) ≡ flat_map f xs ++ f x
parts_more f xs x = flat_map-append f xs (x ∷ [])
    ∙ ap (λ (l : List ℕ). flat_map f xs ++ l) (flat_map-cons f x [] ∙ append-nil (f x))

pub all_more : {A : Type 0} (P : A → Type 0) (xs : List A) (x : A) → AllByRecursion P xs → P x
    → AllByRecursion P (xs ++ x ∷ [])
all_more P [] x h k = (k, tt)
all_more P (y ∷ xs) x h k = (h.0, all_more P xs x h.1 k)

pub not_none : {A : Type 0} (xs : List A) (x : A) → xs ++ x ∷ [] ≢ []
not_none [] x e = absurd cc
not_none (y ∷ xs) x e = absurd cc

-- ---- octets

module _ (alg : Alg) (p : PlacedValue) (lists : Lists) (token : List ℕ) where
  abbrev v : EvidenceValue
  v = value_of alg p lists token

  abbrev f : FrameValue
  f = frame_of alg p

  algorithms_are : (adds : Bool) (xs : List AlgorithmValue)
      → algorithms_parts (all_algorithms alg adds xs) ≡ algorithms_parts xs ++ added alg adds
  algorithms_are true xs = parts_more algorithm_element xs (plain alg)
  algorithms_are false xs = sym (append-nil (algorithms_parts xs))

  chain_is : chain_parts (p.before ++ stamp_with alg lists token ∷ []) ≡ chain_inside f lists token
  chain_is = parts_more stamp_element p.before (stamp_with alg lists token)

  chains_are : chains_parts v.chains ≡ chains_inside f lists token
  chains_are = parts_more chain_element p.earlier (p.before ++ stamp_with alg lists token ∷ [])
      ∙ ap (λ (b : List ℕ). chains_parts p.earlier ++ el 0x30 b) chain_is

  abbrev infos : List ℕ
  infos = optional_attributes 0xa0 p.crypto_infos

  abbrev encrypted : List ℕ
  encrypted = optional_encryption 0xa1 p.encryption

  pub parts_are : evidence_parts v ≡ record_inside f lists token
  parts_are =
      ap (λ (b : List ℕ). el 0x02 (1 ∷ []) ++ (el 0x30 b ++ (infos ++ (encrypted ++ el 0x30 (chains_parts v.chains)))))
      (algorithms_are p.adds p.algorithms)
      ∙ ap (λ (b : List ℕ). el 0x02 (1 ∷ []) ++ (el 0x30 (algorithms_inside f) ++ (infos ++ (encrypted ++ el 0x30 b))))
      chains_are
      ∙ ap (λ (b : List ℕ). el 0x02 (1 ∷ []) ++ (el 0x30 (algorithms_inside f) ++ b))
      (sym (append_assoc infos encrypted (el 0x30 (chains_inside f lists token))))

-- ---- good parts

pub plain_good : (alg : Alg) → GoodAlgorithm (plain alg)
plain_good alg = record {
  oid = (contents_formed alg, omega (arith, contents_short alg));
  parameters = tt;
  size = omega (arith, contents_short alg, plain_length 0x30 alg, inside_less 0x30 (algorithm_parts (plain alg)));
}

values_good : (values : List (List ℕ)) → HasLength (hash_list_parts values) → AllByRecursion HasLength values
values_good [] h = tt
values_good (v ∷ values) h =
    let e = list_cons_length v values in
    let value = inside_less 0x04 v in
    (omega (arith, h, e, value), values_good values (omega (arith, h, e)))

-- lists that each have a value, and some, if there are any
abbrev pub IsFilled : Lists → Type 0
IsFilled lists = IfSome lists (λ l. (l ≢ []) × AllByRecursion (λ values. values ≢ []) l)

lists_good : (lists : List (List (List ℕ))) → AllByRecursion (λ values. values ≢ []) lists
    → HasLength (hash_lists_parts lists) → AllByRecursion GoodHashList lists
lists_good [] filled h = tt
lists_good (values ∷ lists) filled h =
    let e = parts_cons_length values lists in
    let inside = inside_less 0x30 (hash_list_parts values) in (
      record {
        each = values_good values (omega (arith, h, e, inside));
        some = filled.0;
        size = omega (arith, h, e, inside);
      },
      lists_good lists filled.1 (omega (arith, h, e)),
    )

optional_good : (lists : Lists) → IsFilled lists → HasLength (lists_inside lists) → IfSome lists GoodHashLists
optional_good None filled h = tt
optional_good (Some lists) filled h = record { each = lists_good lists filled.1 h; some = filled.0; size = h }

each_filled : (values : List (List ℕ)) → AllByRecursion (λ l. l ≢ []) (map (λ (v : List ℕ). v ∷ []) values)
each_filled [] = tt
each_filled (v ∷ values) = ((λ e. absurd cc), each_filled values)

pub alone_filled : (values : List (List ℕ)) → IsFilled (lists_of values)
alone_filled [] = tt
alone_filled (v ∷ values) = ((λ e. absurd cc), each_filled (v ∷ values))

pub group_filled : (group values : List (List ℕ)) → group ≢ [] → IsFilled (group_lists group values)
group_filled group values some = ((λ e. absurd cc), (some, each_filled (drop 1 values)))

pub filled_by : (group : List (List ℕ)) → 0 < length group → group ≢ []
filled_by group some none = absurd (omega (arith, some, ap (λ (l : List (List ℕ)). length l) none))

-- ---- a good record

module _ (alg : Alg) (p : PlacedValue) (lists : Lists) (token : List ℕ) (good : GoodPlaced p)
    (sequence : IsSequence token) (filled : IsFilled lists)
    (fits : HasLength (record_inside (frame_of alg p) lists token)) where
  abbrev g : FrameValue
  g = frame_of alg p

  abbrev s : StampValue
  s = stamp_with alg lists token

  stamp_good : GoodStamp s
  stamp_good = record {
    algorithm = plain_good alg;
    attributes = tt;
    lists = optional_good lists filled (omega (arith, fits, lists_less_whole g lists token));
    stamp = sequence;
    size = omega (arith, fits, stamp_less g lists token);
  }

  chain_good : GoodChain (p.before ++ s ∷ [])
  chain_good = record {
    each = all_more GoodStamp p.before s good.before stamp_good;
    some = not_none p.before s;
    size = subst HasLength (sym (chain_is alg p lists token)) (omega (arith, fits, chain_less g lists token));
  }

  algorithms_good : (adds : Bool) → AllByRecursion GoodAlgorithm (all_algorithms alg adds p.algorithms)
  algorithms_good true = all_more GoodAlgorithm p.algorithms (plain alg) good.algorithms (plain_good alg)
  algorithms_good false = good.algorithms

  pub record_good : GoodEvidence (value_of alg p lists token)
  record_good = record {
    algorithms = algorithms_good p.adds;
    algorithms_size = subst HasLength (sym (algorithms_are alg p lists token p.adds p.algorithms))
        (omega (arith, fits, algorithms_less g lists token));
    crypto_infos = good.crypto_infos;
    encryption = good.encryption;
    chains = record {
      each = all_more GoodChain p.earlier (p.before ++ s ∷ []) good.earlier chain_good;
      some = not_none p.earlier (p.before ++ s ∷ []);
      size = subst HasLength (sym (chains_are alg p lists token)) (omega (arith, fits, chains_less g lists token));
    };
    size = subst HasLength (sym (parts_are alg p lists token)) fits;
  }

-- what is true of what was returned
pub both_ok : {X Y : Type 0} (r : Result X Y) (P Q R : X → Type 0) → ((x : X) → P x → Q x → R x) → IfOk r P → IfOk r Q
    → IfOk r R
both_ok (Ok x) P Q R f a b = f x a b
both_ok (Err e) P Q R f a b = tt

-- the octets with a token encode the record
pub encodes : (alg : Alg) (p : PlacedValue) (lists : Lists) (token octets : List ℕ) → GoodPlaced p
    → IsSequence token → IsFilled lists → octets ≡ el 0x30 (record_inside (frame_of alg p) lists token)
    → HasLength (record_inside (frame_of alg p) lists token) → EncodesEvidence octets (value_of alg p lists token)
encodes alg p lists token octets good sequence filled is fits = (
  is ∙ ap (λ (b : List ℕ). el 0x30 b) (sym (parts_are alg p lists token)),
  record_good alg p lists token good sequence filled fits,
)

-- ---- a record of one archive time-stamp

abbrev pub nothing_before : PlacedValue
nothing_before = record {
  algorithms = [];
  adds = true;
  crypto_infos = None;
  encryption = None;
  earlier = [];
  before = [];
}

pub nothing_good : GoodPlaced nothing_before
nothing_good = record { algorithms = tt; crypto_infos = tt; encryption = tt; earlier = tt; before = tt }

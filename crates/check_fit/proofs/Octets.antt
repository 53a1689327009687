-- The parts of what octets encode are octets.
use Rattle.std.proofs.Common.{◌≡◌, ℕ, Bool, true, false, cond, List, [], ◌∷◌, ◌++◌, length, Option, Some, None, refl}
use Rattle.std.proofs.Common.{sym, subst}
use Rattle.std.specs.Prelude.{IfSome, filter}
use Rattle.std.specs.Option.{option_and_then}
use Rattle.std.specs.List.{flat_map, AllByRecursion}
use Rattle.std.proofs.lemmas.List.{take_at, drop_at}
use Rattle.std.proofs.lemmas.List.Concat.{flat_map-cons}
use Rattle.der_core.specs.Element.{len, el, IsBytes}
use Rattle.der_grammar.specs.Table.{id_signed_data}
use Rattle.der_core.specs.Values.{algorithm_element}
use Rattle.der_core.proofs.ReadLengths.{IsBytes-take, IsBytes-drop, IsBytes-tail}
use Rattle.cms_types.specs.AttributeValue.{AttributeValue, joined, attribute_parts, attribute_element, attributes_parts}
use Rattle.cms_types.specs.AttributeValue.{optional_attributes}
use Rattle.cms_types.specs.SignerValue.{SignerValue, sid_element, signer_parts, signer_element}
use Rattle.cms_types.specs.SignedDataValue.{SignedDataValue, content_part, encapsulated_parts, optional_choices}
use Rattle.cms_types.specs.SignedDataValue.{algorithms_parts, signers_parts}
use Rattle.cms_types.specs.SignedDataValue.{signed_data_parts, EncodesSignedData}
use Rattle.cms_types.specs.Tokens.{is_token, tokens_of}
use Rattle.der_core.specs.Lists.{only}
use Rattle.check_fit.specs.Attributes.{occurrences, single_value}

pub front : (a b : List ℕ) → IsBytes (a ++ b) → IsBytes a
front a b h = subst IsBytes (take_at a b (length a) refl) (IsBytes-take (length a) (a ++ b) h)

pub back : (a b : List ℕ) → IsBytes (a ++ b) → IsBytes b
back a b h = subst IsBytes (drop_at a b (length a) refl) (IsBytes-drop (length a) (a ++ b) h)

pub body : (t : ℕ) (b : List ℕ) → IsBytes (el t b) → IsBytes b
body t b h = back (len (length b)) b (IsBytes-tail t (len (length b) ++ b) h)

each : {X : Type 0} (f : X → List ℕ) (xs : List X) → IsBytes (flat_map f xs) → AllByRecursion (λ x. IsBytes (f x)) xs
each f [] h = tt
each f (x ∷ xs) h = let g : IsBytes (f x ++ flat_map f xs) = subst IsBytes (flat_map-cons f x xs) h in
    (front (f x) (flat_map f xs) g, each f xs (back (f x) (flat_map f xs) g))

all_map : {X : Type 0} (P Q : X → Type 0) (xs : List X) → ((x : X) → P x → Q x) → AllByRecursion P xs
    → AllByRecursion Q xs
all_map P Q [] f h = tt
all_map P Q (x ∷ xs) f h = (f x h.0, all_map P Q xs f h.1)

kept : {X : Type 0} (P : X → Type 0) (x : X) (xs : List X) (b : Bool) → P x → AllByRecursion P xs
    → AllByRecursion P (cond b (x ∷ xs) xs)
kept P x xs true p h = (p, h)
kept P x xs false p h = h

all_filter : {X : Type 0} (P : X → Type 0) (test : X → Bool) (xs : List X) → AllByRecursion P xs
    → AllByRecursion P (filter test xs)
all_filter P test [] h = tt
all_filter P test (x ∷ xs) h = kept P x (filter test xs) (test x) h.0 (all_filter P test xs h.1)

all_append : {X : Type 0} (P : X → Type 0) (xs ys : List X) → AllByRecursion P xs → AllByRecursion P ys
    → AllByRecursion P (xs ++ ys)
all_append P [] ys h g = g
all_append P (x ∷ xs) ys h g = (h.0, all_append P xs ys h.1 g)

-- the values of each attribute are octets
abbrev pub ValuesAreOctets : List AttributeValue → Type 0
ValuesAreOctets xs = AllByRecursion (λ a. AllByRecursion IsBytes a.values) xs

values : (xs : List AttributeValue) → IsBytes (attributes_parts xs) → ValuesAreOctets xs
values xs h = all_map (λ a. IsBytes (attribute_element a)) (λ a. AllByRecursion IsBytes a.values) xs
    (λ a g. each (λ x. x) a.values (body 0x31 (joined a.values)
    (back (el 0x06 a.id) (el 0x31 (joined a.values)) (body 0x30 (attribute_parts a) g))))
    (each attribute_element xs h)

optional_values : (t : ℕ) (o : Option (List AttributeValue)) → IsBytes (optional_attributes t o)
    → IfSome o ValuesAreOctets
optional_values t None h = tt
optional_values t (Some xs) h = values xs (body t (attributes_parts xs) h)

all_values : (xs : List AttributeValue) → ValuesAreOctets xs → AllByRecursion IsBytes (flat_map (λ a. a.values) xs)
all_values [] h = tt
all_values (a ∷ xs) h = subst (AllByRecursion IsBytes) (sym (flat_map-cons (λ (b : AttributeValue). b.values) a xs))
    (all_append IsBytes a.values (flat_map (λ b. b.values) xs) h.0 (all_values xs h.1))

token_octets : (o : Option (List AttributeValue)) → IfSome o ValuesAreOctets → AllByRecursion IsBytes (tokens_of o)
token_octets None h = tt
token_octets (Some xs) h =
    all_values (filter is_token xs) (all_filter (λ a. AllByRecursion IsBytes a.values) is_token xs h)

-- so are those of a signer's signed attributes, and its tokens
pub record SignerOctets (s : SignerValue) : Type 0 where
  pub attributes : IfSome s.signed_attributes ValuesAreOctets
  pub each_token : AllByRecursion IsBytes (tokens_of s.unsigned_attributes)

signer_octets : (s : SignerValue) → IsBytes (signer_element s) → SignerOctets s
signer_octets s h =
    let parts = body 0x30 (signer_parts s) h in
    let p1 = back (el 0x02 s.version) _ parts in
    let p2 = back (sid_element s.sid) _ p1 in
    let p3 = back (algorithm_element s.digest_algorithm) _ p2 in
    let p4 = back (optional_attributes 0xa0 s.signed_attributes) _ p3 in
    let p5 = back (algorithm_element s.signature_algorithm) _ p4 in
    let p6 = back (el 0x04 s.signature) (optional_attributes 0xa1 s.unsigned_attributes) p5 in
    record {
      attributes = optional_values 0xa0 s.signed_attributes (front (optional_attributes 0xa0 s.signed_attributes) _ p3);
      each_token = token_octets s.unsigned_attributes (optional_values 0xa1 s.unsigned_attributes p6);
    }

pub signers_octets : (ss : List SignerValue) → IsBytes (signers_parts ss) → AllByRecursion SignerOctets ss
signers_octets ss h = all_map (λ s. IsBytes (signer_element s)) SignerOctets ss signer_octets (each signer_element ss h)

-- and a SignedData's content and certificates
pub record SignedOctets (v : SignedDataValue) : Type 0 where
  pub content : IfSome v.encapsulated.content IsBytes
  pub certificates : IfSome v.certificates (AllByRecursion IsBytes)
  pub signers : AllByRecursion SignerOctets v.signers

content_octets : (o : Option (List ℕ)) → IsBytes (content_part o) → IfSome o IsBytes
content_octets None h = tt
content_octets (Some b) h = body 0x04 b (body 0xa0 (el 0x04 b) h)

choices_octets : (t : ℕ) (o : Option (List (List ℕ))) → IsBytes (optional_choices t o)
    → IfSome o (AllByRecursion IsBytes)
choices_octets t None h = tt
choices_octets t (Some xs) h = each (λ x. x) xs (body t (joined xs) h)

pub signed_octets : (bytes : List ℕ) (v : SignedDataValue) → EncodesSignedData bytes v → IsBytes bytes → SignedOctets v
signed_octets bytes v encodes h =
    let whole =
    body 0x30 (el 0x06 id_signed_data ++ el 0xa0 (el 0x30 (signed_data_parts v))) (subst IsBytes encodes.0 h) in
    let parts = body 0x30 (signed_data_parts v)
    (body 0xa0 (el 0x30 (signed_data_parts v))
    (back (el 0x06 id_signed_data) (el 0xa0 (el 0x30 (signed_data_parts v))) whole)) in
    let p1 = back (el 0x02 v.version) _ parts in
    let p2 = back (el 0x31 (algorithms_parts v.digest_algorithms)) _ p1 in
    let encapsulated =
    body 0x30 (encapsulated_parts v.encapsulated) (front (el 0x30 (encapsulated_parts v.encapsulated)) _ p2) in
    let p3 = back (el 0x30 (encapsulated_parts v.encapsulated)) _ p2 in
    let p4 = back (optional_choices 0xa0 v.certificates) _ p3 in
    let p5 = back (optional_choices 0xa1 v.crls) (el 0x31 (signers_parts v.signers)) p4 in
    record {
      content = content_octets v.encapsulated.content
          (back (el 0x06 v.encapsulated.content_type) (content_part v.encapsulated.content) encapsulated);
      certificates = choices_octets 0xa0 v.certificates (front (optional_choices 0xa0 v.certificates) _ p3);
      signers = signers_octets v.signers (body 0x31 (signers_parts v.signers) p5);
    }

-- ---- the one value of an attribute

only_all : {X : Type 0} (P : X → Type 0) (xs : List X) (x : X) → AllByRecursion P xs → only xs ≡ Some x → P x
only_all P [] x h e = absurd cc
only_all P (y ∷ []) x h e = subst P (same y x e) h.0
  where
    same : {X : Type 0} (a b : X) → Some a ≡ Some b → a ≡ b
    same a b e = cc
only_all P (y ∷ z ∷ xs) x h e = absurd cc

pub one_octets : (attributes : List AttributeValue) (id value : List ℕ) → ValuesAreOctets attributes
    → single_value attributes id ≡ Some value → IsBytes value
one_octets attributes id value h e = go (only (occurrences attributes id)) refl e
  where
    go : (o : Option AttributeValue) → only (occurrences attributes id) ≡ o
        → option_and_then (λ a. only a.values) o ≡ Some value → IsBytes value
    go None is k = absurd cc
    go (Some a) is k = only_all IsBytes a.values value (only_all (λ b. AllByRecursion IsBytes b.values)
        (occurrences attributes id) a (all_filter (λ b. AllByRecursion IsBytes b.values) _ attributes h) is) k

-- The file with the token encodes the SignedData with it.
use Rattle.std.proofs.Common.{◌≡◌, ℕ, zero, suc, List, [], ◌∷◌, ◌++◌, Option, Some, None, refl, sym, subst, arith}
use Rattle.std.specs.Prelude.{IfSome, slice_get}
use Rattle.std.specs.List.{AllByRecursion}
use Rattle.der_core.specs.Values.{HasLength}
use Rattle.der_lists.specs.Numbers.{of_number}
use Rattle.cms_types.specs.AttributeValue.{AttributeValue, joined, attribute_parts, attributes_parts, GoodAttribute}
use Rattle.cms_types.specs.AttributeValue.{GoodUnsignedAttributes}
use Rattle.cms_types.specs.SignerValue.{SignerValue, signer_parts, GoodSigner}
use Rattle.cms_types.specs.SignedDataValue.{SignedDataValue, SignedContent, GoodSignedData, encoding, EncodesSignedData}
use Rattle.cms_types.specs.SignedDataValue.{content_info_parts}
use Rattle.tsp_types.specs.TstValue.{TstValue}
use Rattle.tsp_requester.specs.Attached.{token_attribute, with_attribute, stamped, changed, attached}
use Rattle.tsp_requester.specs.Attaching.{IsToken, HaveLengths, Attaches}

all_behind : {A : Type 0} (P : A → Type 0) (xs ys : List A) → AllByRecursion P xs → AllByRecursion P ys
    → AllByRecursion P (xs ++ ys)
all_behind P [] ys h k = k
all_behind P (x ∷ xs) ys h k = (h.0, all_behind P xs ys h.1 k)

some_behind : (xs : List AttributeValue) (a : AttributeValue) → xs ++ a ∷ [] ≡ [] → ⊥
some_behind [] a e = absurd cc
some_behind (x ∷ xs) a e = absurd cc

some_signer : (a b : SignerValue) → Some a ≡ Some b → a ≡ b
some_signer a b e = cc

nobody : (s : SignerValue) → None ≡ Some s → ⊥
nobody s e = absurd cc

good_attribute : (token : List ℕ) (stamp : TstValue) → IsToken token stamp → HasLength (joined (token ∷ []))
    → HasLength (attribute_parts (token_attribute token)) → GoodAttribute (token_attribute token)
good_attribute token stamp is set size = record {
  id = (refl, omega arith);
  values = (
    (
      0x30,
      content_info_parts (SignedContent is.signed),
      record { identifier = refl; size = is.encodes.1.2 },
      is.encodes.0,
    ),
    tt,
  );
  set = set;
  size = size;
}

good_attributes : (u : Option (List AttributeValue)) (a : AttributeValue) → IfSome u GoodUnsignedAttributes
    → GoodAttribute a
    → HasLength (attributes_parts (with_attribute a u)) → GoodUnsignedAttributes (with_attribute a u)
good_attributes None a h good size = record { each = (good, tt); some = some_behind [] a; size = size }
good_attributes (Some xs) a h good size =
    record { each = all_behind GoodAttribute xs (a ∷ []) h.each (good, tt); some = some_behind xs a; size = size }

good_signer : (s : SignerValue) (token : List ℕ) → GoodSigner s → GoodAttribute (token_attribute token)
    → HasLength (attributes_parts (with_attribute (token_attribute token) s.unsigned_attributes))
    → HasLength (signer_parts (stamped token s))
    → GoodSigner (stamped token s)
good_signer s token g a list size = record {
  version = g.version;
  sid = g.sid;
  digest_algorithm = g.digest_algorithm;
  signed_attributes = g.signed_attributes;
  signature_algorithm = g.signature_algorithm;
  signature = g.signature;
  unsigned_attributes = good_attributes s.unsigned_attributes (token_attribute token) g.unsigned_attributes a list;
  size = size;
}

good_at : (ss : List SignerValue) (n : ℕ) (s : SignerValue) → slice_get ss n ≡ Some s → AllByRecursion GoodSigner ss
    → GoodSigner s
good_at [] n s e h = absurd (nobody s e)
good_at (x ∷ ss) zero s e h = subst GoodSigner (some_signer x s e) h.0
good_at (x ∷ ss) (suc n) s e h = good_at ss n s e h.1

good_changed : (ss : List SignerValue) (n : ℕ) (s : SignerValue) (token : List ℕ) → slice_get ss n ≡ Some s
    → AllByRecursion GoodSigner ss
    → GoodSigner (stamped token s) → AllByRecursion GoodSigner (changed (stamped token) ss (suc n))
good_changed [] n s token e h good = absurd (nobody s e)
good_changed (x ∷ ss) zero s token e h good =
    (subst (λ (y : SignerValue). GoodSigner (stamped token y)) (sym (some_signer x s e)) good, h.1)
good_changed (x ∷ ss) (suc n) s token e h good = (h.0, good_changed ss n s token e h.1 good)

good_signers : (ss : List SignerValue) (number : ℕ) (s : SignerValue) (token : List ℕ) → of_number ss number ≡ Some s
    → AllByRecursion GoodSigner ss
    → (GoodSigner s → GoodSigner (stamped token s)) → AllByRecursion GoodSigner (changed (stamped token) ss number)
good_signers ss zero s token e h good = absurd (nobody s e)
good_signers ss (suc n) s token e h good = good_changed ss n s token e h (good (good_at ss n s e h))

good_data : (v : SignedDataValue) (number : ℕ) (s : SignerValue) (token : List ℕ) (stamp : TstValue)
    → of_number v.signers number ≡ Some s
    → IsToken token stamp → GoodSignedData v → HaveLengths v number s token → GoodSignedData (attached v number token)
good_data v number s token stamp e is g l = record {
  version = g.version;
  digest_algorithms = g.digest_algorithms;
  algorithms_size = g.algorithms_size;
  encapsulated = g.encapsulated;
  certificates = g.certificates;
  crls = g.crls;
  signers = good_signers v.signers number s token e g.signers
      (λ good. good_signer s token good (good_attribute token stamp is l.0 l.1.0) l.1.1.0 l.1.1.1.0);
  signers_size = l.1.1.1.1.0;
  size = l.1.1.1.1.1.0;
}

pub read_back : (bytes : List ℕ) (number : ℕ) (token : List ℕ) (w : SignedDataValue) → Attaches bytes number token w
    → EncodesSignedData (encoding (SignedContent w)) w
read_back bytes number token w h =
    let l = h.lengths in
    subst (λ (v : SignedDataValue). EncodesSignedData (encoding (SignedContent v)) v) (sym h.is) (
      refl,
      (
        good_data h.value number h.signer token h.stamp h.stamped.has.signer h.stamped.is_token
            h.stamped.has.encodes.1.0
            l,
        l.1.1.1.1.1.1.0,
        l.1.1.1.1.1.1.1.0,
      ),
    )

-- What comparisons of octets say of a token, and that a response answers or fails one rule, and never both.
use Rattle.std.proofs.Common.{◌≡◌, ℕ, zero, suc, Bool, true, false, List, [], ◌∷◌, Option, Some, None, refl, sym, ap}
use Rattle.std.proofs.Common.{subst, ◌∙◌, inl, inr, arith}
use Rattle.std.specs.Prelude.{◌↔◌, ◌⊎◌, IsTrue, IfSome, Any}
use Rattle.der_core.specs.Lists.{is_same}
use Rattle.der_core.proofs.Encoded.{same}
use Rattle.cert_types.specs.CertificateValue.{CertificateValue, EncodesCertificate}
use Rattle.cert_types.proofs.CertificateReaders.{certificate_unique}
use Rattle.cms_types.specs.AttributeValue.{AttributeValue}
use Rattle.cms_types.specs.SignerValue.{SignerValue}
use Rattle.cms_types.specs.SignedDataValue.{SignedDataValue, SignedContent}
use Rattle.cms_types.proofs.SignedDataReaders.{content_unique}
use Rattle.tsp_types.specs.ImprintValue.{ImprintValue}
use Rattle.tsp_types.specs.RequestValue.{RequestValue}
use Rattle.tsp_types.specs.ResponseValue.{ResponseValue}
use Rattle.tsp_types.specs.TstValue.{TstValue, EncodesTst}
use Rattle.tsp_types.proofs.TstReaders.{tst_unique}
use Rattle.check_names.specs.Naming.{MustName}
use Rattle.tsp_requester.specs.declared.rules.MatchFault.{MatchFault}
use Rattle.tsp_requester.specs.declared.rules.MatchFault.TheVariants as rule
use Rattle.tsp_requester.specs.Answering.{TokenValue, IsTimeStamp, IsGranted, SameImprint, HasNonce, HasPolicy, IsNamed}
use Rattle.tsp_requester.specs.Answering.{HasCertificate, HasWhatIsAsked}
use Rattle.tsp_requester.specs.Answering.{Answering, AsksFor, TokenFails, MatchFails}
use Rattle.der_core.proofs.SameOctets.{is_then_same}

never_both : (b : Bool) → b ≡ false → b ≡ true → ⊥
never_both b bad good = let z = sym bad ∙ good in cc

-- ---- the imprint, the nonce and the policy

pub imprint_when : (asked stamped : ImprintValue) (x r : Bool)
    → IsTrue x ↔ (asked.algorithm.oid ≡ stamped.algorithm.oid)
    → IsTrue r ↔ (asked.digest ≡ stamped.digest) → x ≡ true → IsTrue r ↔ SameImprint asked stamped
imprint_when asked stamped x r algorithms digests good =
    (λ h. record { algorithm = algorithms.0 good; digest = digests.0 h }, λ i. digests.1 i.digest)

pub other_algorithm : (asked stamped : ImprintValue) (x : Bool)
    → IsTrue x ↔ (asked.algorithm.oid ≡ stamped.algorithm.oid) → x ≡ false
    → IsTrue x ↔ SameImprint asked stamped
other_algorithm asked stamped x algorithms bad = (λ h. absurd (never_both x bad h), λ i. algorithms.1 i.algorithm)

abbrev some : List ℕ → Option (List ℕ)
some b = Some b

some_is : (a b : List ℕ) → some a ≡ some b → a ≡ b
some_is a b e = cc

-- one that was asked for, and one that is in the token
pub same_part : (o p : Option (List ℕ)) (a s : List ℕ) (r : Bool) → Some a ≡ o → Some s ≡ p → r ≡ is_same s a
    → IsTrue r ↔ IfSome o (λ n. p ≡ Some n)
same_part None p a s r e f at = absurd cc
same_part (Some n) None a s r e f at = absurd cc
same_part (Some n) (Some m) a s r e f at =
    let x = some_is a n e in
    let y = some_is s m f in
    ((λ h. ap some (sym y ∙ (same s a (sym at ∙ h) ∙ x))), (λ g. at ∙ is_then_same s a (y ∙ (some_is m n g ∙ sym x))))

pub same_policy : (o : Option (List ℕ)) (p a s : List ℕ) (r : Bool) → Some a ≡ o → s ≡ p → r ≡ is_same s a
    → IsTrue r ↔ IfSome o (λ n. p ≡ n)
same_policy None p a s r e f at = absurd cc
same_policy (Some n) p a s r e f at = let x = some_is a n e in
    ((λ h. sym f ∙ (same s a (sym at ∙ h) ∙ x)), (λ g. at ∙ is_then_same s a (f ∙ (g ∙ sym x))))

-- ---- the certificate

pub named_when : (attributes : List AttributeValue) (octets : List ℕ) (c : CertificateValue) (r : Bool)
    → EncodesCertificate octets c
    → IsTrue r ↔ MustName attributes c → IsTrue r ↔ IsNamed attributes octets
named_when attributes octets c r encodes iff = (
  (λ h. (c, encodes, iff.0 h)),
  (λ n. iff.1
      (subst (λ (d : CertificateValue). MustName attributes d) (certificate_unique octets n.0 c n.1 encodes) n.2)),
)

pub any_first : {A : Type 0} (P : A → Type 0) (x : A) (xs : List A) → P x → Any P (x ∷ xs)
any_first P x xs p = (0, x, omega arith, refl, p)

pub any_behind : {A : Type 0} (P : A → Type 0) (x : A) (xs : List A) → Any P xs → Any P (x ∷ xs)
any_behind P x xs (i, y, within, is, p) = (suc i, y, omega (arith, within), is, p)

pub any_of : {A : Type 0} (P : A → Type 0) (x : A) (xs : List A) → Any P (x ∷ xs) → P x ⊎ Any P xs
any_of P x xs (zero, y, within, is, p) = inl (subst P (sym is) p)
any_of P x xs (suc i, y, within, is, p) = inr (i, y, omega (arith, within), is, p)

pub any_none : {A : Type 0} (P : A → Type 0) → Any P [] → ⊥
any_none P (i, y, within, is, p) = absurd (omega (arith, within))

-- one of a list is one of those behind its first, which isn't one
pub not_first : {A : Type 0} (P : A → Type 0) (all left others : List A) (x : A) → Any P all ↔ Any P left
    → left ≡ x ∷ others → (P x → ⊥)
    → Any P all ↔ Any P others
not_first {A} P all left others x iff e never = (
  λ h. behind (any_of P x others (subst (λ (l : List A). Any P l) e (iff.0 h))),
  λ h. iff.1 (subst (λ (l : List A). Any P l) (sym e) (any_behind P x others h)),
)
  where
    behind : P x ⊎ Any P others → Any P others
    behind (inl p) = absurd (never p)
    behind (inr h) = h

pub is_first : {A : Type 0} (P : A → Type 0) (all left others : List A) (x : A) → Any P all ↔ Any P left
    → left ≡ x ∷ others → P x → Any P all
is_first {A} P all left others x iff e p = iff.1 (subst (λ (l : List A). Any P l) (sym e) (any_first P x others p))

pub none_left : {A : Type 0} (P : A → Type 0) (all left : List A) → Any P all ↔ Any P left → left ≡ [] → Any P all → ⊥
none_left {A} P all left iff e h = any_none P (subst (λ (l : List A). Any P l) e (iff.0 h))

pub certificate_when : (t : TokenValue) (attributes : List AttributeValue) (certificates : List (List ℕ)) (r : Bool)
    → Some attributes ≡ t.signer.signed_attributes → Some certificates ≡ t.signed.certificates
    → IsTrue r ↔ Any (IsNamed attributes) certificates → IsTrue r ↔ HasCertificate t
certificate_when t attributes certificates r at_a at_c iff = (
  λ h. record {
    attributes = attributes;
    states = sym at_a;
    certificates = certificates;
    carries = sym at_c;
    named = iff.0 h;
  },
  λ k. iff.1 (subst (λ (l : List (List ℕ)). Any (IsNamed attributes) l)
      (some_list k.certificates certificates (sym k.carries ∙ sym at_c))
      (subst (λ (l : List AttributeValue). Any (IsNamed l) k.certificates)
      (some_attributes k.attributes attributes (sym k.states ∙ sym at_a)) k.named)),
)
  where
    some_list : (a b : List (List ℕ)) → Some a ≡ Some b → a ≡ b
    some_list a b e = cc

    some_attributes : (a b : List AttributeValue) → Some a ≡ Some b → a ≡ b
    some_attributes a b e = cc

pub no_attributes : (t : TokenValue) → None ≡ t.signer.signed_attributes → HasCertificate t → ⊥
no_attributes t e k = let z = e ∙ k.states in cc

pub no_certificates : (t : TokenValue) → None ≡ t.signed.certificates → HasCertificate t → ⊥
no_certificates t e k = let z = e ∙ k.carries in cc

-- ---- the order

-- where a rule that asks for a fact fails first, or one behind it, the facts aren't all there
never_asks : {Fact Fails : Type 0} {rule failed : MatchFault} → ((Fact → ⊥) × (failed ≡ rule)) ⊎ (Fact × Fails) → Fact
    → (Fails → ⊥) → ⊥
never_asks (inl nay) fact more = nay.0 fact
never_asks (inr yea) fact more = more yea.1

never_asks_for : {A : Type 0} (Fact Fails : A → Type 0) {rule failed : MatchFault}
    → (((x : A) → Fact x → ⊥) × (failed ≡ rule)) ⊎ ((x : A) × Fact x × Fails x) → (x : A) → Fact x
    → ((y : A) → Fact y → Fails y → ⊥) → ⊥
never_asks_for Fact Fails (inl nay) x fact more = nay.0 x fact
never_asks_for Fact Fails (inr yea) x fact more = more yea.0 yea.1 yea.2

-- one rule fails first
asks_one : {Fact Left Right : Type 0} {rule a b : MatchFault} → ((Fact → ⊥) × (a ≡ rule)) ⊎ (Fact × Left)
    → ((Fact → ⊥) × (b ≡ rule)) ⊎ (Fact × Right)
    → (Left → Right → a ≡ b) → a ≡ b
asks_one (inl nay) (inl also) more = nay.1 ∙ sym also.1
asks_one (inl nay) (inr yea) more = absurd (nay.0 yea.0)
asks_one (inr yea) (inl nay) more = absurd (nay.0 yea.0)
asks_one (inr yea) (inr also) more = more yea.1 also.1

asks_for_one : {A : Type 0} (Fact Left Right : A → Type 0) {rule a b : MatchFault}
    → (((x : A) → Fact x → ⊥) × (a ≡ rule)) ⊎ ((x : A) × Fact x × Left x)
    → (((x : A) → Fact x → ⊥) × (b ≡ rule)) ⊎ ((x : A) × Fact x × Right x)
    → ((x y : A) → Fact x → Fact y → Left x → Right y → a ≡ b) → a ≡ b
asks_for_one Fact Left Right (inl nay) (inl also) more = nay.1 ∙ sym also.1
asks_for_one Fact Left Right (inl nay) (inr yea) more = absurd (nay.0 yea.0 yea.1)
asks_for_one Fact Left Right (inr yea) (inl nay) more = absurd (nay.0 yea.0 yea.1)
asks_for_one Fact Left Right (inr yea) (inr also) more = more yea.0 also.0 yea.1 also.1 yea.2 also.2

-- ---- octets are one token

same_signed : (v w : SignedDataValue) → SignedContent v ≡ SignedContent w → v ≡ w
same_signed v w e = cc

same_signer : (s t : SignerValue) → s ∷ [] ≡ t ∷ [] → s ≡ t
same_signer s t e = cc

pub one_token : (octets : List ℕ) (t u : TokenValue) → IsTimeStamp octets t → IsTimeStamp octets u → t ≡ u
one_token octets t u h k =
    let signed : t.signed ≡ u.signed = same_signed t.signed u.signed
    (content_unique octets (SignedContent t.signed) (SignedContent u.signed) h.encodes k.encodes) in
    let signer : t.signer ≡ u.signer = same_signer t.signer u.signer
    (sym h.one_signer ∙ (ap (λ (v : SignedDataValue). v.signers) signed ∙ k.one_signer)) in
    let content : h.content ≡ k.content = some_is h.content k.content
    (sym h.present ∙ (ap (λ (v : SignedDataValue). v.encapsulated.content) signed ∙ k.present)) in
    let stamp : t.stamp ≡ u.stamp = tst_unique k.content t.stamp u.stamp
    (subst (λ (b : List ℕ). EncodesTst b t.stamp) content h.encodes_stamp) k.encodes_stamp in
    ap (λ (v : SignedDataValue). made v t.signer t.stamp) signed
    ∙ (ap (λ (s : SignerValue). made u.signed s t.stamp) signer ∙ ap (λ (x : TstValue). made u.signed u.signer x) stamp)
  where
    made : SignedDataValue → SignerValue → TstValue → TokenValue
    made v s x = record { signed = v; signer = s; stamp = x }

-- ---- never both

abbrev Holds : ResponseValue → List ℕ → Type 0
Holds response octets = response.token ≡ Some octets

never_token : (request : RequestValue) (token : TokenValue) (failed : MatchFault) → TokenFails request token failed
    → SameImprint request.imprint token.stamp.imprint → HasNonce request token.stamp → HasPolicy request token.stamp
    → HasWhatIsAsked request token → ⊥
never_token request token failed l imprint nonce policy certificate =
    never_asks l imprint (λ m. never_asks m nonce (λ n. never_asks n policy (λ o. never_asks o certificate (λ p. p))))

pub never : (request : RequestValue) (response : ResponseValue) (failed : MatchFault) → Answering request response
    → MatchFails request response failed → ⊥
never request response failed a h =
    never_asks h a.granted (λ g. never_asks_for (Holds response)
    (λ octets. AsksFor (IsTimeStamp octets) rule.TokenMalformed (TokenFails request) failed) g a.octets a.holds
    (λ octets holds k.
    never_asks_for (IsTimeStamp octets) (λ token. TokenFails request token failed) k a.token (held octets holds)
    (λ token is l.
    let e : a.token ≡ token = one_token octets a.token token (held octets holds) is in
    never_token request token failed l
    (subst (λ (t : TokenValue). SameImprint request.imprint t.stamp.imprint) e a.imprint)
    (subst (λ (t : TokenValue). HasNonce request t.stamp) e a.nonce)
    (subst (λ (t : TokenValue). HasPolicy request t.stamp) e a.policy)
    (subst (λ (t : TokenValue). HasWhatIsAsked request t) e a.certificate))))
  where
    held : (octets : List ℕ) → response.token ≡ Some octets → IsTimeStamp octets a.token
    held octets holds =
        subst (λ (b : List ℕ). IsTimeStamp b a.token) (some_is a.octets octets (sym a.holds ∙ holds)) a.is_stamp

-- an answer that is a fault says that the response doesn't answer
pub refused : (request : RequestValue) (response : ResponseValue) (failed : MatchFault)
    → MatchFails request response failed
    → (false ≡ true → Answering request response) × (Answering request response → false ≡ true)
refused request response failed h = ((λ e. absurd cc), (λ a. absurd (never request response failed a h)))

-- ---- one rule

pub one_rule : (request : RequestValue) (response : ResponseValue) (a b : MatchFault) → MatchFails request response a
    → MatchFails request response b → a ≡ b
one_rule request response a b h k =
    asks_one h k (λ g l. asks_for_one (Holds response)
    (λ octets. AsksFor (IsTimeStamp octets) rule.TokenMalformed (TokenFails request) a)
    (λ octets. AsksFor (IsTimeStamp octets) rule.TokenMalformed (TokenFails request) b) g l (λ x y holds also m n.
    asks_for_one (IsTimeStamp x) (λ token. TokenFails request token a) (λ token. TokenFails request token b) m
    (same_octets x y (some_is x y (sym holds ∙ also)) n) (λ t u is too o p.
    of_token u (subst (λ (v : TokenValue). TokenFails request v a) (one_token x t u is too) o) p)))
  where
    same_octets : (x y : List ℕ) → x ≡ y → AsksFor (IsTimeStamp y) rule.TokenMalformed (TokenFails request) b
        → AsksFor (IsTimeStamp x) rule.TokenMalformed (TokenFails request) b
    same_octets x y e n =
        subst (λ (l : List ℕ). AsksFor (IsTimeStamp l) rule.TokenMalformed (TokenFails request) b) (sym e) n

    of_token : (token : TokenValue) → TokenFails request token a → TokenFails request token b → a ≡ b
    of_token token h k =
        asks_one h k (λ m n. asks_one m n (λ o p. asks_one o p (λ q r. asks_one q r (λ s t. absurd s))))

-- ---- a rule of the token fails

pub fails_token :
    (request : RequestValue) (response : ResponseValue) (octets : List ℕ) (token : TokenValue) (failed : MatchFault)
    → IsGranted response → Some octets ≡ response.token → IsTimeStamp octets token
    → TokenFails request token failed → MatchFails request response failed
fails_token request response octets token failed granted holds is h =
    inr (granted, inr (octets, sym holds, inr (token, is, h)))

-- a fact that a test denied
pub denied : (A : Type 0) (b : Bool) → IsTrue b ↔ A → b ≡ false → A → ⊥
denied A b iff bad a = never_both b bad (iff.1 a)

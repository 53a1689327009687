-- What is asked of a response can be decided: so it answers, or a rule fails first.
use Rattle.std.proofs.Common.{◌≡◌, ℕ, List, [], ◌∷◌, Option, Some, None, Result, Ok, Err, refl, sym, ap, subst, ◌∙◌}
use Rattle.std.proofs.Common.{inl, inr, ◌⊎◌}
use Rattle.std.specs.Prelude.{Any, IfSome}
use Rattle.std.specs.List.{AllByRecursion}
use Rattle.der_core.specs.declared.fault.Fault.{Fault}
use Rattle.der_core.specs.declared.flag.Flag.{Flag}
use Rattle.der_core.specs.declared.flag.Flag.TheVariants as flag
use Rattle.der_core.specs.Element.{IsBytes}
use Rattle.cert_types.specs.CertificateValue.{CertificateValue}
use Rattle.cert_types.specs.CertificateReading.{certificate_at}
use Rattle.cert_types.proofs.CertificateReaders.{certificate_takes, certificate_again, certificate_unique}
use Rattle.cms_types.specs.AttributeValue.{AttributeValue}
use Rattle.cms_types.specs.SignerValue.{SignerValue}
use Rattle.cms_types.specs.SignedDataValue.{SignedDataValue, ContentInfoValue, SignedContent, OtherContent}
use Rattle.cms_types.specs.SignedDataReading.{content_info_at}
use Rattle.cms_types.proofs.SignedDataReaders.{content_takes, signed_never, nothing_encoded, content_unique}
use Rattle.tsp_types.specs.RequestValue.{RequestValue}
use Rattle.tsp_types.specs.ResponseValue.{ResponseValue}
use Rattle.tsp_types.specs.TstValue.{TstValue}
use Rattle.tsp_types.specs.TstReading.{tst_at}
use Rattle.tsp_types.proofs.TstReaders.{tst_takes, tst_again}
use Rattle.check_names.specs.Naming.{MustName}
use Rattle.tsp_requester.specs.declared.rules.MatchFault.{MatchFault}
use Rattle.tsp_requester.specs.declared.rules.MatchFault.TheVariants as rule
use Rattle.tsp_types.specs.TstValue.{id_tst_info}
use Rattle.tsp_requester.specs.Answering.{TokenValue, IsTimeStamp, IsGranted, SameImprint, HasNonce, HasPolicy, IsNamed}
use Rattle.tsp_requester.specs.Answering.{HasCertificate, HasWhatIsAsked}
use Rattle.tsp_requester.specs.Answering.{Answering, TokenFails, MatchFails}
use Rattle.check_fit.proofs.Octets.{ValuesAreOctets, SignerOctets, SignedOctets, signed_octets}
use Rattle.check_names.proofs.Deciding.{Decided, both, either, implies, in_words, octets_same, if_some, must_name}
use Rattle.tsp_requester.proofs.AnsweringLaw.{any_first, any_behind, any_of, any_none}

-- one of a list
to : {A : Type 0} (P : A → Type 0) (x : A) (xs : List A) → P x ⊎ Any P xs → Any P (x ∷ xs)
to P x xs (inl p) = any_first P x xs p
to P x xs (inr h) = any_behind P x xs h

any_of_list : {A : Type 0} (P Q : A → Type 0) (xs : List A) → AllByRecursion Q xs → ((x : A) → Q x → Decided (P x))
    → Decided (Any P xs)
any_of_list P Q [] all d = inr (any_none P)
any_of_list P Q (x ∷ xs) all d = in_words (to P x xs) (any_of P x xs) (either (d x all.0) (any_of_list P Q xs all.1 d))

-- ---- a token

abbrev certificate_ok : CertificateValue → Result CertificateValue Fault
certificate_ok c = Ok c

is_named : (attributes : List AttributeValue) → ValuesAreOctets attributes → (octets : List ℕ) → IsBytes octets
    → Decided (IsNamed attributes octets)
is_named attributes values octets fits = go (certificate_at octets) refl
  where
    go : (r : Result CertificateValue Fault) → certificate_at octets ≡ r → Decided (IsNamed attributes octets)
    go (Err f) e =
        inr (λ n. let z : certificate_ok n.0 ≡ Err f = sym (certificate_again octets n.0 n.1) ∙ e in absurd cc)
    go (Ok c) e = let encodes = certificate_takes octets c fits e in
        in_words (λ m. (c, encodes, m)) (λ n. subst (λ (d : CertificateValue). MustName attributes d)
        (certificate_unique octets n.0 c n.1 encodes) n.2) (must_name attributes c values)

has_certificate : (t : TokenValue) → SignedOctets t.signed → SignerOctets t.signer → Decided (HasCertificate t)
has_certificate t octets values =
    go t.signer.signed_attributes t.signed.certificates refl refl values.attributes octets.certificates
  where
    some_list : (a b : List (List ℕ)) → Some a ≡ Some b → a ≡ b
    some_list a b e = cc

    some_attributes : (a b : List AttributeValue) → Some a ≡ Some b → a ≡ b
    some_attributes a b e = cc

    go : (o : Option (List AttributeValue)) (p : Option (List (List ℕ))) → t.signer.signed_attributes ≡ o
        → t.signed.certificates ≡ p
        → IfSome o ValuesAreOctets → IfSome p (AllByRecursion IsBytes) → Decided (HasCertificate t)
    go None p e f h k = inr (λ n. let z = sym e ∙ n.states in cc)
    go (Some xs) None e f h k = inr (λ n. let z = sym f ∙ n.carries in cc)
    go (Some xs) (Some cs) e f h k =
        in_words (λ a. record { attributes = xs; states = e; certificates = cs; carries = f; named = a })
        (λ n. subst (λ (l : List (List ℕ)). Any (IsNamed xs) l) (some_list n.certificates cs (sym n.carries ∙ f))
        (subst (λ (l : List AttributeValue). Any (IsNamed l) n.certificates)
        (some_attributes n.attributes xs (sym n.states ∙ e)) n.named))
        (any_of_list (IsNamed xs) IsBytes cs k (is_named xs h))

spelled_true : (f : Flag) → Decided (f ≡ flag.True)
spelled_true flag.Absent = inr (λ e. absurd cc)
spelled_true flag.False = inr (λ e. absurd cc)
spelled_true flag.True = inl refl

abbrev some : List ℕ → Option (List ℕ)
some b = Some b

same_some : (o : Option (List ℕ)) (n : List ℕ) → Decided (o ≡ Some n)
same_some None n = inr (λ e. absurd cc)
same_some (Some m) n = in_words (λ e. ap some e) (λ e. some_is m n e) (octets_same m n)
  where
    some_is : (a b : List ℕ) → Some a ≡ Some b → a ≡ b
    some_is a b e = cc

-- what a token's octets are: a token of octets, or none
record Stamp (octets : List ℕ) : Type 0 where
  pub token : TokenValue
  pub is : IsTimeStamp octets token
  pub values : SignedOctets token.signed
  pub signer : SignerOctets token.signer

abbrev info : ContentInfoValue → Result ContentInfoValue Fault
info c = Ok c

abbrev stamped : TstValue → Result TstValue Fault
stamped v = Ok v

stamp : (octets : List ℕ) → IsBytes octets → Stamp octets ⊎ ((t : TokenValue) → IsTimeStamp octets t → ⊥)
stamp octets fits = by_reading (content_info_at octets) refl
  where
    same_signed : (v w : SignedDataValue) → SignedContent v ≡ SignedContent w → v ≡ w
    same_signed v w e = cc

    same_content : (a b : List ℕ) (o : Option (List ℕ)) → o ≡ Some a → o ≡ Some b → a ≡ b
    same_content a b o e f = let z = sym e ∙ f in cc

    none_content : (a : List ℕ) (o : Option (List ℕ)) → o ≡ None → o ≡ Some a → ⊥
    none_content a o e f = let z = sym e ∙ f in absurd cc

    none_signer : (s : SignerValue) (l : List SignerValue) → l ≡ [] → l ≡ s ∷ [] → ⊥
    none_signer s l e f = let z = sym e ∙ f in absurd cc

    two_signers : (s x y : SignerValue) (l xs : List SignerValue) → l ≡ x ∷ y ∷ xs → l ≡ s ∷ [] → ⊥
    two_signers s x y l xs e f = let z = sym e ∙ f in absurd cc

    by_signers : (v : SignedDataValue) → content_info_at octets ≡ Ok (SignedContent v)
        → v.encapsulated.content_type ≡ id_tst_info
        → (content : List ℕ) → v.encapsulated.content ≡ Some content → (x : TstValue) → tst_at content ≡ Ok x
        → (l : List SignerValue) → v.signers ≡ l → AllByRecursion SignerOctets l → IsBytes content
        → Stamp octets ⊎ ((t : TokenValue) → IsTimeStamp octets t → ⊥)
    by_signers v e econtent_type content present x r [] f all bytes = inr (λ t h.
        let w = same_signed v t.signed (content_unique octets (SignedContent v) (SignedContent t.signed)
        (content_takes octets (SignedContent v) fits e) h.encodes) in
        none_signer t.signer t.signed.signers (sym (ap (λ (y : SignedDataValue). y.signers) w) ∙ f) h.one_signer)
    by_signers v e econtent_type content present x r (s ∷ []) f all bytes =
        let encodes = content_takes octets (SignedContent v) fits e in
        inl (record {
          token = record { signed = v; signer = s; stamp = x };
          is = record {
            encodes = encodes;
            econtent_type = econtent_type;
            content = content;
            present = present;
            encodes_stamp = tst_takes content x bytes r;
            one_signer = f;
          };
          values = signed_octets octets v encodes fits;
          signer = all.0;
        })
    by_signers v e econtent_type content present x r (s ∷ s' ∷ l) f all bytes = inr (λ t h.
        let w = same_signed v t.signed (content_unique octets (SignedContent v) (SignedContent t.signed)
        (content_takes octets (SignedContent v) fits e) h.encodes) in
        two_signers t.signer s s' t.signed.signers l (sym (ap (λ (y : SignedDataValue). y.signers) w) ∙ f) h.one_signer)

    by_stamp : (v : SignedDataValue) → content_info_at octets ≡ Ok (SignedContent v)
        → v.encapsulated.content_type ≡ id_tst_info → (content : List ℕ)
        → v.encapsulated.content ≡ Some content → IsBytes content
        → (r : Result TstValue Fault) → tst_at content ≡ r
        → Stamp octets ⊎ ((t : TokenValue) → IsTimeStamp octets t → ⊥)
    by_stamp v e econtent_type content present bytes (Err f) r = inr (λ t h.
        let w = same_signed v t.signed (content_unique octets (SignedContent v) (SignedContent t.signed)
        (content_takes octets (SignedContent v) fits e) h.encodes) in
        let c = same_content content h.content t.signed.encapsulated.content
        (sym (ap (λ (y : SignedDataValue). y.encapsulated.content) w) ∙ present) h.present in
        let z : stamped t.stamp ≡ Err f = sym (tst_again h.content t.stamp h.encodes_stamp) ∙ (ap tst_at (sym c) ∙ r) in
        absurd cc)
    by_stamp v e econtent_type content present bytes (Ok x) r =
        by_signers v e econtent_type content present x r v.signers refl
        (signed_octets octets v (content_takes octets (SignedContent v) fits e) fits).signers bytes

    by_content : (v : SignedDataValue) → content_info_at octets ≡ Ok (SignedContent v)
        → v.encapsulated.content_type ≡ id_tst_info
        → (o : Option (List ℕ)) → v.encapsulated.content ≡ o → IfSome o IsBytes
        → Stamp octets ⊎ ((t : TokenValue) → IsTimeStamp octets t → ⊥)
    by_content v e econtent_type None present bytes = inr (λ t h.
        let w = same_signed v t.signed (content_unique octets (SignedContent v) (SignedContent t.signed)
        (content_takes octets (SignedContent v) fits e) h.encodes) in
        none_content h.content t.signed.encapsulated.content
        (sym (ap (λ (y : SignedDataValue). y.encapsulated.content) w) ∙ present) h.present)
    by_content v e econtent_type (Some content) present bytes =
        by_stamp v e econtent_type content present bytes (tst_at content) refl

    by_kind : (v : SignedDataValue) → content_info_at octets ≡ Ok (SignedContent v)
        → Decided (v.encapsulated.content_type ≡ id_tst_info)
        → Stamp octets ⊎ ((t : TokenValue) → IsTimeStamp octets t → ⊥)
    by_kind v e (inl econtent_type) = by_content v e econtent_type v.encapsulated.content refl
        (signed_octets octets v (content_takes octets (SignedContent v) fits e) fits).content
    by_kind v e (inr nay) = inr (λ t h.
        let w = same_signed v t.signed (content_unique octets (SignedContent v) (SignedContent t.signed)
        (content_takes octets (SignedContent v) fits e) h.encodes) in
        nay (ap (λ (y : SignedDataValue). y.encapsulated.content_type) w ∙ h.econtent_type))

    by_reading : (r : Result ContentInfoValue Fault) → content_info_at octets ≡ r
        → Stamp octets ⊎ ((t : TokenValue) → IsTimeStamp octets t → ⊥)
    by_reading (Err f) e = inr (λ t h. nothing_encoded octets f e (SignedContent t.signed) h.encodes)
    by_reading (Ok (OtherContent id content)) e = inr (λ t h. signed_never octets t.signed id content e h.encodes)
    by_reading (Ok (SignedContent v)) e = by_kind v e (octets_same v.encapsulated.content_type id_tst_info)

-- ---- the order

granted : (response : ResponseValue) → Decided (IsGranted response)
granted response = either (octets_same response.status.number (0 ∷ [])) (octets_same response.status.number (1 ∷ []))

record TokenAnswers (request : RequestValue) (token : TokenValue) : Type 0 where
  pub imprint : SameImprint request.imprint token.stamp.imprint
  pub nonce : HasNonce request token.stamp
  pub policy : HasPolicy request token.stamp
  pub certificate : HasWhatIsAsked request token

abbrev OfToken : RequestValue → TokenValue → Type 0
OfToken request token = TokenAnswers request token ⊎ ((failed : MatchFault) × TokenFails request token failed)

token_answers : (request : RequestValue) (token : TokenValue) → SignedOctets token.signed → SignerOctets token.signer
    → OfToken request token
token_answers request token octets values =
    by_imprint (in_words (λ p. record { algorithm = p.0; digest = p.1 }) (λ i. (i.algorithm, i.digest)) (both
    (octets_same request.imprint.algorithm.oid token.stamp.imprint.algorithm.oid)
    (octets_same request.imprint.digest token.stamp.imprint.digest)))
  where
    by_certificate : SameImprint request.imprint token.stamp.imprint → HasNonce request token.stamp
        → HasPolicy request token.stamp
        → Decided (HasWhatIsAsked request token) → OfToken request token
    by_certificate i n p (inl c) = inl (record { imprint = i; nonce = n; policy = p; certificate = c })
    by_certificate i n p (inr nay) = inr (rule.CertMissing, inr (i, inr (n, inr (p, inl (nay, refl)))))

    by_policy : SameImprint request.imprint token.stamp.imprint → HasNonce request token.stamp
        → Decided (HasPolicy request token.stamp) → OfToken request token
    by_policy i n (inl p) =
        by_certificate i n p (implies (spelled_true request.cert_req) (has_certificate token octets values))
    by_policy i n (inr nay) = inr (rule.Policy, inr (i, inr (n, inl (nay, refl))))

    by_nonce : SameImprint request.imprint token.stamp.imprint → Decided (HasNonce request token.stamp)
        → OfToken request token
    by_nonce i (inl n) =
        by_policy i n (if_some (λ p. token.stamp.policy ≡ p) request.policy (λ p. octets_same token.stamp.policy p))
    by_nonce i (inr nay) = inr (rule.Nonce, inr (i, inl (nay, refl)))

    by_imprint : Decided (SameImprint request.imprint token.stamp.imprint) → OfToken request token
    by_imprint (inl i) =
        by_nonce i (if_some (λ n. token.stamp.nonce ≡ Some n) request.nonce (λ n. same_some token.stamp.nonce n))
    by_imprint (inr nay) = inr (rule.Imprint, inl (nay, refl))

abbrev OfResponse : RequestValue → ResponseValue → Type 0
OfResponse request response = Answering request response ⊎ ((failed : MatchFault) × MatchFails request response failed)

pub answers_or_fails : (request : RequestValue) (response : ResponseValue) → IfSome response.token IsBytes
    → Answering request response ⊎ ((failed : MatchFault) × MatchFails request response failed)
answers_or_fails request response octets = by_status (granted response)
  where
    by_answer : IsGranted response → (b : List ℕ) → response.token ≡ Some b → (t : TokenValue) → IsTimeStamp b t
        → TokenAnswers request t ⊎ ((failed : MatchFault) × TokenFails request t failed) → OfResponse request response
    by_answer g b holds t is (inl a) = inl (record {
      granted = g;
      octets = b;
      holds = holds;
      token = t;
      is_stamp = is;
      imprint = a.imprint;
      nonce = a.nonce;
      policy = a.policy;
      certificate = a.certificate;
    })
    by_answer g b holds t is (inr f) = inr (f.0, inr (g, inr (b, holds, inr (t, is, f.1))))

    by_stamp : IsGranted response → (b : List ℕ) → response.token ≡ Some b
        → Stamp b ⊎ ((t : TokenValue) → IsTimeStamp b t → ⊥) → OfResponse request response
    by_stamp g b holds (inl s) = by_answer g b holds s.token s.is (token_answers request s.token s.values s.signer)
    by_stamp g b holds (inr nay) = inr (rule.TokenMalformed, inr (g, inr (b, holds, inl (nay, refl))))

    by_token : IsGranted response → (o : Option (List ℕ)) → response.token ≡ o → IfSome o IsBytes
        → OfResponse request response
    by_token g None e fits = inr (rule.NoToken, inr (g, inl ((λ x f. let z = sym e ∙ f in absurd cc), refl)))
    by_token g (Some b) e fits = by_stamp g b e (stamp b fits)

    by_status : Decided (IsGranted response) → OfResponse request response
    by_status (inl g) = by_token g response.token refl octets
    by_status (inr nay) = inr (rule.Status, inl (nay, refl))

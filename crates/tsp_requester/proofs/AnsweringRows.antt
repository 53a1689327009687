-- The worked rows of answering, by computing.
use Rattle.std.proofs.Common.{◌≡◌, ℕ, zero, suc, nat_lt, true, List, [], ◌∷◌, get_or, Option, Some, None, Result, Ok}
use Rattle.std.proofs.Common.{Err, refl, sym, ap, subst, ◌∙◌, arith}
use Rattle.std.proofs.Common.{inl, inr}
use Rattle.std.specs.Prelude.{Any, ◌⊎◌}
use Rattle.std.proofs.lemmas.Bool.{ltb-true}
use Rattle.der_core.specs.declared.fault.Fault.{Fault}
use Rattle.der_core.specs.declared.flag.Flag.TheVariants as flag
use Rattle.der_core.specs.Element.{len, IsBytes}
use Rattle.der_core.specs.Hex.{hex}
use Rattle.der_core.specs.Lists.{every}
use Rattle.der_grammar.specs.Vectors.{digest_of_abc, stamping_certificate}
use Rattle.der_core.specs.AlgorithmReading.{algorithm_in}
use Rattle.der_core.specs.Flags.{flag_at}
use Rattle.der_core.specs.Reading.{further_at, length_at, next_at, expect_at, enter_at, end_at, element_at, optional_at}
use Rattle.der_core.specs.Reading.{none_at, opaque_at, many_from, many_in}
use Rattle.der_core.proofs.Refuted.{and_true}
use Rattle.der_lists.specs.Checked.{checked_from, checked_in, rank_at, tag_at}
use Rattle.der_lists.specs.Items.{opaque_item, opaque_front, front_at, explicit_opaque_in}
use Rattle.der_time.specs.TimeReading as times
use Rattle.cert_types.specs.CertificateValue.{CertificateValue, EncodesCertificate}
use Rattle.cert_types.specs.CertificateReading.{validity_in, explicit_version_in, explicit_extensions_in, tbs_in}
use Rattle.cert_types.specs.CertificateReading.{certificate_in, certificate_at}
use Rattle.cert_types.specs.DistinctExtensions.{distinct_from}
use Rattle.cert_types.specs.ExtensionReading.{extension_in}
use Rattle.cert_types.proofs.CertificateReaders.{certificate_takes, certificate_again, certificate_unique}
use Rattle.cms_types.specs.AttributeValue.{AttributeValue}
use Rattle.cms_types.specs.AttributeReading.{attribute_in, signed_attribute_in}
use Rattle.cms_types.specs.SignerReading.{issuer_and_serial_in, sid_at, signer_in}
use Rattle.cms_types.specs.SignerValue.{SignerValue}
use Rattle.cms_types.specs.SignedDataValue.{SignedDataValue, SignedContent, EncodesSignedData}
use Rattle.cms_types.specs.SignedDataReading.{explicit_octets_in, encapsulated_in, signed_data_in}
use Rattle.cms_types.specs.SignedDataReading.{explicit_signed_data_in, signed_content_in, content_info_in}
use Rattle.cms_types.specs.SignedDataReading.{content_info_at}
use Rattle.cms_types.proofs.SignedDataReaders.{content_takes, content_unique, nothing_encoded}
use Rattle.tsp_types.specs.ImprintReading.{imprint_in}
use Rattle.tsp_types.specs.RequestValue.{RequestValue}
use Rattle.tsp_types.specs.ResponseValue.{ResponseValue}
use Rattle.tsp_types.specs.TstReading.{accuracy_in, tst_in, tst_at}
use Rattle.digests.specs.Spelled.{sha256, sha512_256}
use Rattle.tsp_types.specs.TstRows.{policy_3, policy_4, abc_by_sha256}
use Rattle.tsp_types.specs.TstValue.{TstValue, EncodesTst}
use Rattle.tsp_types.specs.TstValue as tst
use Rattle.tsp_types.proofs.TstReaders.{tst_takes, tst_again}
use Rattle.check_names.specs.Naming.{MustName}
use Rattle.check_names.specs.NamingRows.{of_authority, digest_of_certificate, named_by, named_in_v1}
use Rattle.check_names.proofs.NamingRows.{naming_rows}
use Rattle.tsp_requester.specs.declared.rules.MatchFault.{MatchFault}
use Rattle.tsp_requester.specs.declared.rules.MatchFault.TheVariants as rule
use Rattle.tsp_types.specs.TstValue.{id_tst_info}
use Rattle.tsp_requester.specs.Answering.{TokenValue, IsTimeStamp, IsGranted, SameImprint, IsNamed, HasCertificate}
use Rattle.tsp_requester.specs.Answering.{TokenFails, MatchFails, Answering, HasNonce, HasPolicy, HasWhatIsAsked}
use Rattle.tsp_requester.specs.AnsweringRows.{stamp, stamped, naming, naming_another, bare, signed, token, unreadable}
use Rattle.tsp_requester.specs.AnsweringRows.{octets_of, request, response, granted}
use Rattle.tsp_requester.specs.AnsweringRows.{plain, with_certificate, other_digest, other_algorithm, AnsweringRows}
use Rattle.tsp_requester.specs.AnsweringRows.{Fails, FailingRows}
use Rattle.tsp_requester.proofs.AnsweringLaw.{any_first, any_behind, any_of, any_none, never, fails_token}

-- ---- octets that read

below_256 : (bytes : List ℕ) → every (λ b. nat_lt b 256) bytes ≡ true → IsBytes bytes
below_256 [] h i = omega arith
below_256 (b ∷ bytes) h zero = ltb-true b 256 (and_true (nat_lt b 256) (every (λ c. nat_lt c 256) bytes) h).0
below_256 (b ∷ bytes) h (suc i) = below_256 bytes (and_true (nat_lt b 256) (every (λ c. nat_lt c 256) bytes) h).1 i

abbrev Encoded : SignedDataValue → Type 0
Encoded v = EncodesSignedData (octets_of v) v

abbrev five : Option (List ℕ)
five = Some (5 ∷ [])

abbrev with_nonce : SignedDataValue
with_nonce = signed id_tst_info (Some (tst.encoding (stamp five))) None (naming ∷ [])

record Stamps : Type 0 where
  pub without : EncodesTst stamped (stamp None)
  pub nonce : EncodesTst (tst.encoding (stamp five)) (stamp five)
  pub authority : EncodesCertificate stamping_certificate of_authority

stamps : Stamps
unfolding len algorithm_in flag_at further_at length_at next_at expect_at enter_at end_at element_at optional_at none_at
    opaque_at many_from many_in
    checked_from checked_in opaque_item
    times.time_at validity_in explicit_version_in explicit_extensions_in tbs_in certificate_in certificate_at
    distinct_from extension_in imprint_in
    accuracy_in explicit_opaque_in tst_in tst_at
stamps = record {
  without = tst_takes stamped (stamp None) (below_256 stamped refl) refl;
  nonce = tst_takes (tst.encoding (stamp five)) (stamp five) (below_256 (tst.encoding (stamp five)) refl) refl;
  authority = certificate_takes stamping_certificate of_authority (below_256 stamping_certificate refl) refl;
}

read : (v : SignedDataValue) → every (λ b. nat_lt b 256) (octets_of v) ≡ true
    → content_info_at (octets_of v) ≡ Ok (SignedContent v) → Encoded v
read v small e = content_takes (octets_of v) (SignedContent v) (below_256 (octets_of v) small) e

record Tokens : Type 0 where
  pub alone : Encoded (token None naming)
  pub nonce : Encoded with_nonce
  pub certificate : Encoded (token (Some (stamping_certificate ∷ [])) naming)
  pub behind_another : Encoded (token (Some (unreadable ∷ stamping_certificate ∷ [])) naming)
  pub unreadable_alone : Encoded (token (Some (unreadable ∷ [])) naming)
  pub named_otherwise : Encoded (token (Some (stamping_certificate ∷ [])) naming_another)
  pub no_attributes : Encoded (token (Some (stamping_certificate ∷ [])) bare)
  pub other_type : Encoded (signed (hex "2a864886f70d010701") (Some stamped) None (naming ∷ []))
  pub no_content : Encoded (signed id_tst_info None None (naming ∷ []))
  pub no_stamp : Encoded (signed id_tst_info (Some (hex "3000")) None (naming ∷ []))
  pub no_signer : Encoded (signed id_tst_info (Some stamped) None [])
  pub two_signers : Encoded (signed id_tst_info (Some stamped) None (naming ∷ naming ∷ []))

tokens : Tokens
unfolding len algorithm_in further_at length_at next_at expect_at enter_at end_at element_at optional_at none_at
    opaque_at many_from many_in
    checked_from checked_in rank_at tag_at opaque_item opaque_front front_at
    attribute_in signed_attribute_in issuer_and_serial_in sid_at signer_in explicit_octets_in encapsulated_in
    signed_data_in explicit_signed_data_in
    signed_content_in content_info_in content_info_at
tokens = record {
  alone = read (token None naming) refl refl;
  nonce = read with_nonce refl refl;
  certificate = read (token (Some (stamping_certificate ∷ [])) naming) refl refl;
  behind_another = read (token (Some (unreadable ∷ stamping_certificate ∷ [])) naming) refl refl;
  unreadable_alone = read (token (Some (unreadable ∷ [])) naming) refl refl;
  named_otherwise = read (token (Some (stamping_certificate ∷ [])) naming_another) refl refl;
  no_attributes = read (token (Some (stamping_certificate ∷ [])) bare) refl refl;
  other_type = read (signed (hex "2a864886f70d010701") (Some stamped) None (naming ∷ [])) refl refl;
  no_content = read (signed id_tst_info None None (naming ∷ [])) refl refl;
  no_stamp = read (signed id_tst_info (Some (hex "3000")) None (naming ∷ [])) refl refl;
  no_signer = read (signed id_tst_info (Some stamped) None []) refl refl;
  two_signers = read (signed id_tst_info (Some stamped) None (naming ∷ naming ∷ [])) refl refl;
}

-- ---- responses that answer

abbrev token_of : (certificates : Option (List (List ℕ))) → SignerValue → TokenValue
token_of certificates s = record { signed = token certificates s; signer = s; stamp = stamp None }

is_stamp : (certificates : Option (List (List ℕ))) (s : SignerValue) → Encoded (token certificates s)
    → IsTimeStamp (octets_of (token certificates s)) (token_of certificates s)
is_stamp certificates s encodes = record {
  encodes = encodes;
  econtent_type = refl;
  content = stamped;
  present = refl;
  encodes_stamp = stamps.without;
  one_signer = refl;
}

abbrev nonce_token : TokenValue
nonce_token = record { signed = with_nonce; signer = naming; stamp = stamp five }

is_nonce : IsTimeStamp (octets_of with_nonce) nonce_token
is_nonce = record {
  encodes = tokens.nonce;
  econtent_type = refl;
  content = tst.encoding (stamp five);
  present = refl;
  encodes_stamp = stamps.nonce;
  one_signer = refl;
}

abbrev attributes : List AttributeValue
attributes = named_by digest_of_certificate ∷ []

named : IsNamed attributes stamping_certificate
named = (of_authority, stamps.authority, naming_rows.version_2_alone)

has : (certificates : List (List ℕ)) → Any (IsNamed attributes) certificates
    → HasCertificate (token_of (Some certificates) naming)
has certificates any =
    record { attributes = attributes; states = refl; certificates = certificates; carries = refl; named = any }

unasked : flag.Absent ≡ flag.True → ⊥
unasked e = absurd cc

unasked_too : flag.False ≡ flag.True → ⊥
unasked_too e = absurd cc

-- a token that answers, in a response that grants it
answering : (asked : RequestValue) (answer : ResponseValue) (t : TokenValue) → IsGranted answer
    → answer.token ≡ Some (octets_of t.signed) → IsTimeStamp (octets_of t.signed) t
    → SameImprint asked.imprint t.stamp.imprint → HasNonce asked t.stamp → HasPolicy asked t.stamp
    → HasWhatIsAsked asked t → Answering asked answer
answering asked answer t grants holds is_stamp imprint nonce policy certificate = record {
  granted = grants;
  octets = octets_of t.signed;
  holds = holds;
  token = t;
  is_stamp = is_stamp;
  imprint = imprint;
  nonce = nonce;
  policy = policy;
  certificate = certificate;
}

pub answering_rows : AnsweringRows
answering_rows = record {
  plainly = answering _ _ (token_of None naming) (inl refl) refl (is_stamp None naming tokens.alone)
      (record { algorithm = refl; digest = refl }) tt tt (λ e. absurd (unasked e));
  with_mods = answering _ _ (token_of None naming) (inr refl) refl (is_stamp None naming tokens.alone)
      (record { algorithm = refl; digest = refl }) tt tt (λ e. absurd (unasked e));
  spelled_false = answering _ _ (token_of None naming) (inl refl) refl (is_stamp None naming tokens.alone)
      (record { algorithm = refl; digest = refl }) tt tt (λ e. absurd (unasked_too e));
  same_policy = answering _ _ (token_of None naming) (inl refl) refl (is_stamp None naming tokens.alone)
      (record { algorithm = refl; digest = refl }) tt refl (λ e. absurd (unasked e));
  no_parameters = answering _ _ (token_of None naming) (inl refl) refl (is_stamp None naming tokens.alone)
      (record { algorithm = refl; digest = refl }) tt tt (λ e. absurd (unasked e));
  same_nonce = answering _ _ nonce_token (inl refl) refl is_nonce
      (record { algorithm = refl; digest = refl }) refl tt (λ e. absurd (unasked e));
  nonce_unasked = answering _ _ nonce_token (inl refl) refl is_nonce
      (record { algorithm = refl; digest = refl }) tt tt (λ e. absurd (unasked e));
  certificate = answering _ _ (token_of (Some (stamping_certificate ∷ [])) naming) (inl refl) refl
      (is_stamp (Some (stamping_certificate ∷ [])) naming tokens.certificate)
      (record { algorithm = refl; digest = refl }) tt tt
      (λ e. has (stamping_certificate ∷ []) (any_first (IsNamed attributes) stamping_certificate [] named));
  behind_another = answering _ _ (token_of (Some (unreadable ∷ stamping_certificate ∷ [])) naming) (inl refl) refl
      (is_stamp (Some (unreadable ∷ stamping_certificate ∷ [])) naming tokens.behind_another)
      (record { algorithm = refl; digest = refl }) tt tt
      (λ e. has (unreadable ∷ stamping_certificate ∷ [])
      (any_behind (IsNamed attributes) unreadable (stamping_certificate ∷ [])
      (any_first (IsNamed attributes) stamping_certificate [] named)));
}

-- ---- responses that don't

fails : (asked : RequestValue) (answer : ResponseValue) (failed : MatchFault) → MatchFails asked answer failed
    → Fails asked answer failed
fails asked answer failed h = (h, λ a. never asked answer failed a h)

-- octets that differ at this place
differ : (n a b : ℕ) (xs ys : List ℕ) → get_or xs n 0 ≡ a → get_or ys n 0 ≡ b → (a ≡ b → ⊥) → xs ≡ ys → ⊥
differ n a b xs ys p q apart e = apart (sym p ∙ (ap (λ (l : List ℕ). get_or l n 0) e ∙ q))

not_granted : (status : List ℕ) (t : Option (List ℕ)) → (status ≡ 0 ∷ [] → ⊥) → (status ≡ 1 ∷ [] → ⊥)
    → Fails plain (response status t) rule.Status
not_granted status t nay never_one = fails plain (response status t) rule.Status (inl (never_granted, refl))
  where
    never_granted : IsGranted (response status t) → ⊥
    never_granted (inl e) = nay e
    never_granted (inr e) = never_one e

longer : (a b c : ℕ) → a ∷ b ∷ [] ≡ c ∷ [] → ⊥
longer a b c e = absurd cc

-- the octets of a SignedData are no token
no_token : (v : SignedDataValue) → Encoded v → ((t : TokenValue) → t.signed ≡ v → IsTimeStamp (octets_of v) t → ⊥)
    → Fails plain (granted v) rule.TokenMalformed
no_token v encodes nay = fails plain (granted v) rule.TokenMalformed (inr (
  inl refl,
  inr (
    octets_of v,
    refl,
    inl (
      (λ t is. nay t (same_signed t.signed v
          (content_unique (octets_of v) (SignedContent t.signed) (SignedContent v) is.encodes encodes)) is),
      refl,
    ),
  ),
))
  where
    same_signed : (x y : SignedDataValue) → SignedContent x ≡ SignedContent y → x ≡ y
    same_signed x y e = cc

abbrev kind_of : SignedDataValue → List ℕ
kind_of v = v.encapsulated.content_type

abbrev content_of : SignedDataValue → Option (List ℕ)
content_of v = v.encapsulated.content

abbrev signers_of : SignedDataValue → List SignerValue
signers_of v = v.signers

none_some : (b : List ℕ) → None ≡ Some b → ⊥
none_some b e = absurd cc

some_is : (a b : List ℕ) → Some a ≡ Some b → a ≡ b
some_is a b e = cc

none_one : (s : SignerValue) → [] ≡ s ∷ [] → ⊥
none_one s e = absurd cc

two_one : (a b s : SignerValue) → a ∷ b ∷ [] ≡ s ∷ [] → ⊥
two_one a b s e = absurd cc

abbrev tst_ok : TstValue → Result TstValue Fault
tst_ok v = Ok v

unread_stamp : (x : TstValue) (f : Fault) (r : Result TstValue Fault) → r ≡ Err f → r ≡ Ok x → ⊥
unread_stamp x f r e h = let z = sym e ∙ h in absurd cc

-- a rule of the token fails
token_fails : (asked : RequestValue) (certificates : Option (List (List ℕ))) (s : SignerValue) (failed : MatchFault)
    → Encoded (token certificates s)
    → TokenFails asked (token_of certificates s) failed → Fails asked (granted (token certificates s)) failed
token_fails asked certificates s failed encodes h =
    fails asked (granted (token certificates s)) failed
    (fails_token asked (granted (token certificates s)) (octets_of (token certificates s))
    (token_of certificates s) failed (inl refl) refl (is_stamp certificates s encodes) h)

unread_certificate : (c : CertificateValue) (f : Fault) (r : Result CertificateValue Fault) → r ≡ Err f → r ≡ Ok c → ⊥
unread_certificate c f r e h = let z = sym e ∙ h in absurd cc

only_of : {A : Type 0} (P : A → Type 0) (x : A) → Any P (x ∷ []) → P x
only_of {A} P x h = go (any_of P x [] h)
  where
    go : P x ⊎ Any P [] → P x
    go (inl p) = p
    go (inr n) = absurd (any_none P n)

some_list : (a b : List (List ℕ)) → Some a ≡ Some b → a ≡ b
some_list a b e = cc

some_attributes : (a b : List AttributeValue) → Some a ≡ Some b → a ≡ b
some_attributes a b e = cc

-- ---- which rule

no_certificates : (s : SignerValue) → HasCertificate (token_of None s) → ⊥
no_certificates s h = none_list h.certificates h.carries
  where
    none_list : (l : List (List ℕ)) → None ≡ Some l → ⊥
    none_list l e = absurd cc

no_attributes : (certificates : Option (List (List ℕ))) → HasCertificate (token_of certificates bare) → ⊥
no_attributes certificates h = none_attributes h.attributes h.states
  where
    none_attributes : (l : List AttributeValue) → None ≡ Some l → ⊥
    none_attributes l e = absurd cc

-- of these attributes, and the one element of a token
one_element : (s : SignerValue) (l : List AttributeValue) (x : List ℕ) → s.signed_attributes ≡ Some l
    → HasCertificate (token_of (Some (x ∷ [])) s) → IsNamed l x
one_element s l x states h = only_of (IsNamed l) x
    (subst (λ (cs : List (List ℕ)). Any (IsNamed l) cs) (some_list h.certificates (x ∷ []) (sym h.carries))
    (subst (λ (k : List AttributeValue). Any (IsNamed k) h.certificates)
    (some_attributes h.attributes l (sym h.states ∙ states)) h.named))

never_unreadable : (l : List AttributeValue) → IsNamed l unreadable → ⊥
unfolding len further_at length_at next_at expect_at enter_at certificate_in certificate_at
never_unreadable l n = unread_certificate n.0 _ (certificate_at unreadable) refl (certificate_again unreadable n.0 n.1)

never_other : IsNamed (named_in_v1 ∷ named_by digest_of_abc ∷ []) stamping_certificate → ⊥
never_other n =
    naming_rows.other_differs (subst (λ (c : CertificateValue). MustName (named_in_v1 ∷ named_by digest_of_abc ∷ []) c)
    (certificate_unique stamping_certificate n.0 of_authority n.1 stamps.authority) n.2).names

never_sequence : (t : TokenValue) → IsTimeStamp (hex "3000") t → ⊥
unfolding len further_at length_at next_at expect_at enter_at content_info_in content_info_at
never_sequence t is = nothing_encoded (hex "3000") _ refl (SignedContent t.signed) is.encodes

never_stamp : (x : TstValue) → EncodesTst (hex "3000") x → ⊥
unfolding len further_at length_at next_at expect_at enter_at tst_in tst_at
never_stamp x h = unread_stamp x _ (tst_at (hex "3000")) refl (tst_again (hex "3000") x h)

same_imprint : SameImprint abc_by_sha256 abc_by_sha256
same_imprint = record { algorithm = refl; digest = refl }

other_hash : SameImprint other_digest abc_by_sha256 → ⊥
other_hash i = differ 0 0 0xba other_digest.digest digest_of_abc refl refl (λ e. absurd (omega (arith, e))) i.digest

other_oid : SameImprint other_algorithm abc_by_sha256 → ⊥
other_oid i = differ 8 6 1 sha512_256 sha256 refl refl (λ e. absurd (omega (arith, e))) i.algorithm

another_policy : policy_3 ≡ policy_4 → ⊥
another_policy e = differ 2 3 4 policy_3 policy_4 refl refl (λ z. absurd (omega (arith, z))) e

pub failing_rows : FailingRows
unfolding len
failing_rows = record {
  rejected = not_granted (2 ∷ []) (Some (octets_of (token None naming)))
      (differ 0 2 0 (2 ∷ []) (0 ∷ []) refl refl (λ e. absurd (omega (arith, e))))
      (differ 0 2 1 (2 ∷ []) (1 ∷ []) refl refl (λ e. absurd (omega (arith, e))));
  rejected_without =
      not_granted (2 ∷ []) None (differ 0 2 0 (2 ∷ []) (0 ∷ []) refl refl (λ e. absurd (omega (arith, e))))
      (differ 0 2 1 (2 ∷ []) (1 ∷ []) refl refl (λ e. absurd (omega (arith, e))));
  longer_status = not_granted (0 ∷ 0 ∷ []) None (longer 0 0 0) (longer 0 0 1);
  no_token = fails plain (response (0 ∷ []) None) rule.NoToken (inr (inl refl, inl ((λ b e. none_some b e), refl)));
  no_signed_data = fails plain (response (0 ∷ []) (Some (hex "3000"))) rule.TokenMalformed
      (inr (inl refl, inr (hex "3000", refl, inl (never_sequence, refl))));
  other_type = no_token (signed (hex "2a864886f70d010701") (Some stamped) None (naming ∷ [])) tokens.other_type
      (λ t e is. differ 7 7 9 (hex "2a864886f70d010701") id_tst_info refl refl (λ z. absurd (omega (arith, z)))
      (sym (ap kind_of e) ∙ is.econtent_type));
  no_content = no_token (signed id_tst_info None None (naming ∷ [])) tokens.no_content
      (λ t e is. none_some is.content (sym (ap content_of e) ∙ is.present));
  no_stamp = no_token (signed id_tst_info (Some (hex "3000")) None (naming ∷ [])) tokens.no_stamp
      (λ t e is. never_stamp t.stamp (subst (λ (b : List ℕ). EncodesTst b t.stamp)
      (some_is is.content (hex "3000") (sym is.present ∙ ap content_of e)) is.encodes_stamp));
  no_signer = no_token (signed id_tst_info (Some stamped) None []) tokens.no_signer
      (λ t e is. none_one t.signer (sym (ap signers_of e) ∙ is.one_signer));
  two_signers = no_token (signed id_tst_info (Some stamped) None (naming ∷ naming ∷ [])) tokens.two_signers
      (λ t e is. two_one naming naming t.signer (sym (ap signers_of e) ∙ is.one_signer));
  other_octets = token_fails (request other_digest None None flag.Absent) None naming rule.Imprint tokens.alone
      (inl (other_hash, refl));
  another_algorithm = token_fails (request other_algorithm None None flag.Absent) None naming rule.Imprint tokens.alone
      (inl (other_oid, refl));
  imprint_first = token_fails (request other_digest None five flag.Absent) None naming rule.Imprint tokens.alone
      (inl (other_hash, refl));
  no_nonce = token_fails (request abc_by_sha256 None five flag.Absent) None naming rule.Nonce tokens.alone
      (inr (same_imprint, inl ((λ e. absurd (none_some (5 ∷ []) e)), refl)));
  other_nonce = fails (request abc_by_sha256 None (Some (6 ∷ [])) flag.Absent) (granted with_nonce) rule.Nonce
      (fails_token (request abc_by_sha256 None (Some (6 ∷ [])) flag.Absent) (granted with_nonce)
      (octets_of with_nonce) nonce_token rule.Nonce
      (inl refl) refl is_nonce
      (inr (
        same_imprint,
        inl (
          (λ e. absurd (differ 0 5 6 (5 ∷ []) (6 ∷ []) refl refl (λ z. absurd (omega (arith, z)))
              (some_is (5 ∷ []) (6 ∷ []) e))),
          refl,
        ),
      )));
  nonce_first = token_fails (request abc_by_sha256 (Some policy_4) five flag.Absent) None naming rule.Nonce tokens.alone
      (inr (same_imprint, inl ((λ e. absurd (none_some (5 ∷ []) e)), refl)));
  other_policy =
      token_fails (request abc_by_sha256 (Some policy_4) None flag.Absent) None naming rule.Policy tokens.alone
      (inr (same_imprint, inr (tt, inl (another_policy, refl))));
  policy_first = token_fails (request abc_by_sha256 (Some policy_4) None flag.True) None naming rule.Policy tokens.alone
      (inr (same_imprint, inr (tt, inl (another_policy, refl))));
  no_certificate = token_fails with_certificate None naming rule.CertMissing tokens.alone
      (inr (same_imprint, inr (tt, inr (tt, inl ((λ f. no_certificates naming (f refl)), refl)))));
  unreadable_alone =
      token_fails with_certificate (Some (unreadable ∷ [])) naming rule.CertMissing tokens.unreadable_alone
      (inr (
        same_imprint,
        inr (
          tt,
          inr (
            tt,
            inl ((λ f. never_unreadable attributes (one_element naming attributes unreadable refl (f refl))), refl),
          ),
        ),
      ));
  named_otherwise = token_fails with_certificate
      (Some (stamping_certificate ∷ [])) naming_another rule.CertMissing tokens.named_otherwise
      (inr (
        same_imprint,
        inr (
          tt,
          inr (
            tt,
            inl (
              (λ f. never_other (one_element naming_another
                  (named_in_v1 ∷ named_by digest_of_abc ∷ []) stamping_certificate refl (f refl))),
              refl,
            ),
          ),
        ),
      ));
  no_attributes =
      token_fails with_certificate (Some (stamping_certificate ∷ [])) bare rule.CertMissing tokens.no_attributes
      (inr (
        same_imprint,
        inr (tt, inr (tt, inl ((λ f. no_attributes (Some (stamping_certificate ∷ [])) (f refl)), refl))),
      ));
}

-- The worked rows of the token and of the file hold.
use Rattle.std.proofs.Common.{◌≡◌, ℕ, zero, suc, ◌<◌, ◌≤◌, true, false, List, [], ◌∷◌, get_or, All, Option, Some, None}
use Rattle.std.proofs.Common.{Result, Ok, Err, refl, sym, ap, subst}
use Rattle.std.proofs.Common.{◌∙◌, arith, lit<, lit≤, inl, inr}
use Rattle.std.specs.Prelude.{Any, IfSome, codes}
use Rattle.der_core.specs.Element.{len, el}
use Rattle.der_core.specs.Lists.{is_same}
use Rattle.der_grammar.specs.Vectors.{time_stamp, time_stamp_token, signed_file, stamped_file}
use Rattle.der_time.specs.Calendar.{days_before_month}
use Rattle.der_time.specs.Moments.{utc_moment, in_places, generalized_moment}
use Rattle.cert_types.specs.CertificateValue.{CertificateValue, encoding}
use Rattle.sha2.specs.Sha256 as sha256
use Rattle.digests.specs.Messages.{digest_of}
use Rattle.digests.specs.declared.algorithm.Alg.TheVariants.{Sha256}
use Rattle.digests.proofs.Rows.{abc_rows}
use Rattle.cms_types.specs.AttributeValue.{AttributeValue}
use Rattle.cms_types.specs.SignerValue.{SignerValue}
use Rattle.cms_types.specs.SignedDataValue.{SignedDataValue, EncodesSignedData}
use Rattle.cms_types.specs.declared.fault.CmsFault.{CmsFault}
use Rattle.check_fit.specs.Attributes.{single_value}
use Rattle.check_fit.specs.Fitting.{Fits}
use Rattle.check_fit.specs.FittingRows.{strict, id_data}
use Rattle.check_fit.specs.declared.rules.SignerRule.{SignerRule}
use Rattle.check_fit.specs.declared.rules.SignerRule.TheVariants as signer
use Rattle.check_fit.specs.declared.rules.TokenRule.{TokenRule}
use Rattle.check_fit.specs.declared.rules.TokenRule.TheVariants as token
use Rattle.check_fit.specs.declared.rules.Refused.TheVariants as refused
use Rattle.trust_lists.specs.Entries.{EntryValue}
use Rattle.trust_lists.specs.Asking.{Asked}
use Rattle.trust_lists.specs.declared.role.Role.TheVariants.{Signer, Tsa}
use Rattle.check_verdict.specs.Trusted.{Holds, asked}
use Rattle.check_names.specs.Naming.{id_signing_certificate_v2, Occurs, Matches, NamesIfAny, NamesInV2, MustName}
use Rattle.check_names.specs.NamingRows.{of_authority, digest_of_certificate}
use Rattle.check_verdict.specs.Filters.{StopsAt}
use Rattle.tsp_types.specs.TstValue.{id_tst_info, EncodesTst}
use Rattle.check_verdict.specs.Passing.{Terms, of_octets, StampedUnder, Passes}
use Rattle.check_verdict.specs.TokenRules.{IsTstReading, claimed, token_claim, Reads, LeftForToken, token_filter}
use Rattle.check_verdict.specs.TokenRules.{TokenFails}
use Rattle.check_verdict.specs.Verdicts.{IsStamped, SignedUnder, IsMoment, IsLeast, SignerPasses, Yes, IsSigners}
use Rattle.check_verdict.specs.Verdicts.{LeftForSigner, signer_filter, SignerFails, TokensFail}
use Rattle.check_verdict.specs.Verdicts.{FirstBad, Refuses}
use Rattle.check_verdict.specs.Rows.{of_signer, of_another_authority, with_another_key, tst, digest_of_stamp}
use Rattle.check_verdict.specs.Rows.{stamp_at, signed_data, attributes_over, token_signer, token_data}
use Rattle.check_verdict.specs.Rows.{file_attributes, file_signer, stamps, file_data, of_file, of_token, trusted, terms}
use Rattle.check_verdict.specs.Rows.{ten_oclock, a_second_before}
use Rattle.check_verdict.specs.Rows.{half_a_second_later, signs, attests, both, TokenRows, FileRows}
use Rattle.check_verdict.proofs.Lists.{any_of_none}
use Rattle.check_fit.proofs.FitLaw.{fit_from}
use Rattle.check_fit.proofs.Fitted.{fitted}
use Rattle.check_names.proofs.HashNames.{names_v2, other_hash}
use Rattle.check_verdict.proofs.Claims.{claim_from}
use Rattle.check_verdict.proofs.Tokens as tokens_law
use Rattle.check_verdict.proofs.NamedCertificates.{all_encoded, spelled_v2, hash_with_another_key, must_name}
use Rattle.check_verdict.proofs.Rows.{value_rows}

-- ---- lists of one, two and three

pub one_of : {A : Type 0} (P : A → Type 0) (x : A) → P x → Any P (x ∷ [])
one_of P x p = (0, x, omega arith, refl, p)

pub in_one : {A : Type 0} (P : A → Type 0) (x : A) → Any P (x ∷ []) → P x
in_one P x (zero, y, within, is, p) = subst P (sym is) p
in_one P x (suc i, y, within, is, p) = absurd (omega (arith, within))

pub first_of : {A : Type 0} (P : A → Type 0) (x : A) (xs : List A) → P x → Any P (x ∷ xs)
first_of P x xs p = (0, x, omega arith, refl, p)

pub after_first : {A : Type 0} (P : A → Type 0) (x : A) (xs : List A) → Any P xs → Any P (x ∷ xs)
after_first P x xs (i, y, within, is, p) = (suc i, y, omega (arith, within), is, p)

pub none_of : {A : Type 0} (P : A → Type 0) → All P []
none_of P k d lt = absurd (omega (arith, lt))

pub all_and : {A : Type 0} (P : A → Type 0) (x : A) (xs : List A) → P x → All P xs → All P (x ∷ xs)
all_and P x xs p h zero d lt = p
all_and P x xs p h (suc k) d lt = h k d (omega (arith, lt))

-- ---- digests and moments, computed

stamp_digest : digest_of Sha256 time_stamp ≡ digest_of_stamp
unfolding digest_of sha256.sha256 sha256.digest_bytes sha256.hash_after sha256.compress sha256.rounds sha256.schedule
    sha256.first_words
stamp_digest = refl

certificate_digest : digest_of Sha256 (encoding of_authority) ≡ digest_of_certificate
unfolding len digest_of sha256.sha256 sha256.digest_bytes sha256.hash_after sha256.compress sha256.rounds
    sha256.schedule sha256.first_words
certificate_digest = refl

abd_digest : is_same tst.imprint.digest (digest_of Sha256 (codes "abd")) ≡ false
unfolding digest_of sha256.sha256 sha256.digest_bytes sha256.hash_after sha256.compress sha256.rounds sha256.schedule
    sha256.first_words
abd_digest = refl

stamped_at : generalized_moment tst.time ≡ ten_oclock
unfolding generalized_moment in_places days_before_month
stamped_at = refl

-- ---- the token

abbrev pub element : List ℕ → Option (List ℕ)
element d = Some (el 0x04 d)

-- the signer of a token fits a content with this digest
fits_over : (stamp digest : List ℕ) → digest_of Sha256 stamp ≡ digest
    → Fits strict stamp id_tst_info (token_signer digest)
unfolding len
fits_over stamp digest is = fitted _ _ _ _ (attributes_over digest) Sha256
    refl refl (lit< tt) (record { contents = refl; plain = tt }) refl (ap element (sym is))

pub token_fits : Fits strict time_stamp id_tst_info (token_signer digest_of_stamp)
token_fits = fits_over time_stamp digest_of_stamp stamp_digest

names_it : (digest : List ℕ) → NamesInV2 (attributes_over digest) of_authority
names_it digest =
    names_v2 (attributes_over digest) digest_of_certificate of_authority (subst (λ (b : List ℕ). single_value
    (attributes_over digest) id_signing_certificate_v2 ≡ Some b) spelled_v2 refl) all_encoded.authority
    certificate_digest

not_empty : (a : AttributeValue) (xs : List AttributeValue) → a ∷ xs ≡ [] → ⊥
not_empty a xs e = absurd cc

pub token_names : (digest : List ℕ) → MustName (attributes_over digest) of_authority
token_names digest =
    must_name (attributes_over digest) of_authority (λ occurs. occurs refl) (λ e. not_empty _ _ e) (names_it digest)

-- an entry of the authority at a moment
pub attested_at : (digest : List ℕ) (m : ℕ) (from until : Option ℕ) (trust : List EntryValue) (ls : List Asked)
    → Holds (attests from until) m
    → (terms trust ls).vouches (asked of_authority (token_signer digest) (attributes_over digest)) ≡ true
    → StampedUnder (terms trust ls) (token_signer digest) (attributes_over digest) m (attests from until)
unfolding len
attested_at digest m from until trust ls h answered =
    record {
      role = refl;
      matches = (refl, refl);
      named = token_names digest;
      purpose = (refl, refl);
      period = h;
      vouched = answered;
    }

abbrev its_signer : SignerValue
its_signer = token_signer digest_of_stamp

abbrev its_attributes : List AttributeValue
its_attributes = attributes_over digest_of_stamp

attested : (from until : Option ℕ) (trust : List EntryValue) (ls : List Asked) → Holds (attests from until) ten_oclock
    → (terms trust ls).vouches of_token ≡ true
    → StampedUnder (terms trust ls) its_signer its_attributes ten_oclock (attests from until)
attested from until trust ls h answered = attested_at digest_of_stamp ten_oclock from until trust ls h answered

-- a token of the authority over abc, whose content has this digest and this time, passes at its moment
pub passing_over : (token stamp digest time : List ℕ) (m : ℕ)
    → EncodesSignedData token (signed_data (3 ∷ []) id_tst_info stamp (token_signer digest))
    → EncodesTst stamp (stamp_at time) → digest_of Sha256 stamp ≡ digest → generalized_moment time ≡ m
    → (trust : List EntryValue) (ls : List Asked)
    → Any (StampedUnder (terms trust ls) (token_signer digest) (attributes_over digest) m) trust
    → Passes (terms trust ls) token (codes "abc") m
passing_over token stamp digest time m encodes encodes_stamp is moment trust ls any = record {
  signed = signed_data (3 ∷ []) id_tst_info stamp (token_signer digest);
  encodes = encodes;
  econtent_type = refl;
  content = stamp;
  present = refl;
  signer = token_signer digest;
  one_signer = refl;
  attributes = attributes_over digest;
  has = refl;
  fits = fits_over stamp digest is;
  stamp = stamp_at time;
  encodes_stamp = encodes_stamp;
  calm = tt;
  imprint = record {
    alg = Sha256;
    named = record { contents = refl; plain = refl };
    allows = refl;
    digest = sym abc_rows.sha256;
  };
  moment = moment;
  entry = any;
}

pub passing : (trust : List EntryValue) (ls : List Asked)
    → Any (StampedUnder (terms trust ls) its_signer its_attributes ten_oclock) trust
    → Passes (terms trust ls) time_stamp_token (codes "abc") ten_oclock
passing = passing_over time_stamp_token time_stamp digest_of_stamp tst.time ten_oclock value_rows.reads_token
    value_rows.reads_time_stamp stamp_digest stamped_at

pub valid : (from until : Option ℕ) → IfSome from (λ first. first ≤ ten_oclock)
    → IfSome until (λ last. ten_oclock ≤ last)
    → Holds (attests from until) ten_oclock
unfolding utc_moment days_before_month
valid from until first last =
    record { valid_from = lit≤ tt; valid_until = lit≤ tt; trusted_from = first; trusted_until = last }

abbrev okay : SignedDataValue → Result SignedDataValue CmsFault
okay v = Ok v

same_value : (v w : SignedDataValue) → okay v ≡ okay w → v ≡ w
same_value v w e = cc

reads : Reads time_stamp_token (Ok token_data) (Ok tst)
reads = record {
  is_signed = value_rows.reads_token;
  is_stamp = λ v content e present.
      subst (λ (b : List ℕ). IsTstReading b (Ok tst)) (is v content e present) value_rows.reads_time_stamp;
}
  where
    some : (a b : List ℕ) → Some a ≡ Some b → a ≡ b
    some a b e = cc

    is : (v : SignedDataValue) (content : List ℕ) → okay token_data ≡ okay v → v.encapsulated.content ≡ Some content
        → time_stamp ≡ content
    is v content e present = some time_stamp content
        (ap (λ (x : SignedDataValue). x.encapsulated.content) (same_value token_data v e) ∙ present)

claim : token_claim strict (of_octets (codes "abc")) (Ok token_data) (Ok tst) ≡ Ok (claimed its_signer tst)
claim = claim_from strict (Ok token_data) (Ok tst) token_data time_stamp its_signer tst Sha256
    (of_octets (codes "abc")) refl refl refl refl token_fits refl tt refl
    (ap (λ (digest : List ℕ). Some digest) abc_rows.sha256)

other_claim : token_claim strict (of_octets (codes "abd")) (Ok token_data) (Ok tst) ≡ Err token.ImprintDiffers
other_claim = rw (fit_from strict time_stamp id_tst_info its_signer token_fits, abd_digest) refl

-- the filter of this number leaves nothing
failing : (trust : List EntryValue) (ls : List Asked) (n : ℕ)
    → StopsAt (LeftForToken (terms trust ls) (claimed its_signer tst)) 5 trust n
    → TokenFails (terms trust ls) time_stamp_token (codes "abc") (token_filter n)
failing trust ls n stops = record {
  signed = Ok token_data;
  stamp = Ok tst;
  reads = reads;
  first = inr (claimed its_signer tst, claim, record { filter = n; stops = stops; is = refl });
}

-- of an entry of a signer nothing is left
not_stamping : (trust : List EntryValue) (ls : List Asked) (n : ℕ) (e : EntryValue) → e.role ≡ Signer
    → LeftForToken (terms trust ls) (claimed its_signer tst) (suc n) e → ⊥
not_stamping trust ls zero e r p = let z = sym r ∙ p.0 in cc
not_stamping trust ls (suc zero) e r p = let z = sym r ∙ p.0.0 in cc
not_stamping trust ls (suc (suc zero)) e r p = let z = sym r ∙ p.0.0.0 in cc
not_stamping trust ls (suc (suc (suc zero))) e r p = let z = sym r ∙ p.0.0.0.0 in cc
not_stamping trust ls (suc (suc (suc (suc n)))) e r p = let z = sym r ∙ p.0.0.0.0.0 in cc

attested_left : (from until : Option ℕ) (trust : List EntryValue) (ls : List Asked)
    → LeftForToken (terms trust ls) (claimed its_signer tst) 3 (attests from until)
unfolding len
attested_left from until trust ls = (((refl, (refl, refl)), token_names digest_of_stamp), (refl, refl))

attested_until : (until : ℕ) (trust : List EntryValue) (ls : List Asked) → until < ten_oclock
    → LeftForToken (terms trust ls) (claimed its_signer tst) 4 (attests None (Some until)) → ⊥
attested_until until trust ls lt p = let h : Holds (attests None (Some until)) ten_oclock =
    subst (λ (m : ℕ). Holds (attests None (Some until)) m) stamped_at p.1 in
    let le : ten_oclock ≤ until = h.trusted_until in omega (arith, lt, le)

attested_then : (from until : Option ℕ) (trust : List EntryValue) (ls : List Asked)
    → Holds (attests from until) ten_oclock
    → LeftForToken (terms trust ls) (claimed its_signer tst) 4 (attests from until)
attested_then from until trust ls h =
    (attested_left from until trust ls, subst (λ (m : ℕ). Holds (attests from until) m) (sym stamped_at) h)

pub open_then : Holds (attests None None) ten_oclock
open_then = valid None None tt tt

abbrev Left : List EntryValue → List Asked → ℕ → EntryValue → Type 0
Left trust ls k e = LeftForToken (terms trust ls) (claimed its_signer tst) k e

pub nobody : (P : EntryValue → Type 0) → All (λ e. P e → ⊥) []
nobody P k d lt = absurd (omega (arith, lt))

pub nor : (P : EntryValue → Type 0) (e : EntryValue) (es : List EntryValue) → (P e → ⊥) → All (λ x. P x → ⊥) es
    → All (λ x. P x → ⊥) (e ∷ es)
nor P e es never none zero d lt = never
nor P e es never none (suc k) d lt = none k d (omega (arith, lt))

unknown_stops : (ls : List Asked) → StopsAt (Left (signs None None ∷ []) ls) 5 (signs None None ∷ []) 0
unknown_stops ls = let t : List EntryValue = signs None None ∷ [] in
    record {
      within = lit< tt;
      left = λ lt. absurd (omega (arith, lt));
      none = nor (Left t ls 1) (signs None None) [] (not_stamping t ls 0 (signs None None) refl) (nobody (Left t ls 1));
    }

ended_stops : (ls : List Asked)
    → StopsAt (Left (attests None (Some a_second_before) ∷ []) ls) 5 (attests None (Some a_second_before) ∷ []) 3
ended_stops ls = let e : EntryValue = attests None (Some a_second_before) in let t : List EntryValue = e ∷ [] in
    record {
      within = lit< tt;
      left = λ lt. one_of (Left t ls 3) e (attested_left None (Some a_second_before) t ls);
      none = nor (Left t ls 4) e [] (attested_until a_second_before t ls (lit< tt)) (nobody (Left t ls 4));
    }

unanswered_stops : StopsAt (Left (attests None None ∷ []) (of_file ∷ [])) 5 (attests None None ∷ []) 4
unfolding len
unanswered_stops =
    let e : EntryValue = attests None None in let t : List EntryValue = e ∷ [] in let ls : List Asked = of_file ∷ [] in
    record {
      within = lit< tt;
      left = λ lt. one_of (Left t ls 4) e (attested_then None None t ls open_then);
      none = nor (Left t ls 5) e [] (λ p. unanswered p.1) (nobody (Left t ls 5));
    }
  where
    unanswered : false ≡ true → ⊥
    unanswered e = absurd cc

-- the certificate with another key isn't the one that the token names
another_digest : digest_of Sha256 (encoding of_another_authority) ≡ hash_with_another_key
unfolding len digest_of sha256.sha256 sha256.digest_bytes sha256.hash_after sha256.compress sha256.rounds
    sha256.schedule sha256.first_words
another_digest = refl

other_octets : (a b : ℕ) → a ≡ 0xb5 → b ≡ 0xdf → a ≡ b → ⊥
other_octets a b p q e = omega (arith, p, q, e)

differs : digest_of_certificate ≡ hash_with_another_key → ⊥
differs e = other_octets _ _ refl refl (ap (λ (l : List ℕ). get_or l 0 0) e)

never_names : NamesInV2 its_attributes of_another_authority → ⊥
never_names n = other_hash its_attributes digest_of_certificate of_another_authority
    (subst (λ (b : List ℕ). single_value its_attributes
    id_signing_certificate_v2 ≡ Some b) spelled_v2 refl) all_encoded.authority (λ e. differs (e ∙ another_digest)) n

abbrev another_attests : EntryValue
another_attests = trusted Tsa None None of_another_authority

named_at_all : Occurs its_attributes id_signing_certificate_v2
named_at_all e = not_empty _ _ e

not_named_stops : StopsAt (Left (another_attests ∷ []) (of_token ∷ [])) 5 (another_attests ∷ []) 1
not_named_stops =
    let t : List EntryValue = another_attests ∷ [] in
    let ls : List Asked = of_token ∷ [] in
    record {
      within = lit< tt;
      left = λ lt. one_of (Left t ls 1) another_attests (refl, (refl, refl));
      none = nor (Left t ls 2) another_attests [] (λ p. never_names (p.1.names.v2 named_at_all)) (nobody (Left t ls 2));
    }

passing_second :
    Passes (terms (another_attests ∷ attests None None ∷ []) (of_token ∷ [])) time_stamp_token (codes "abc") ten_oclock
unfolding len
passing_second =
    let t : List EntryValue = another_attests ∷ attests None None ∷ [] in
    let ls : List Asked = of_token ∷ [] in
    let Under : EntryValue → Type 0 = StampedUnder (terms t ls) its_signer its_attributes ten_oclock in
    passing t ls (after_first Under another_attests (attests None None ∷ [])
    (one_of Under (attests None None) (attested None None t ls open_then refl)))

passing_one : (from until : Option ℕ) → Holds (attests from until) ten_oclock
    → Passes (terms (attests from until ∷ []) (of_token ∷ [])) time_stamp_token (codes "abc") ten_oclock
unfolding len
passing_one from until h =
    let t : List EntryValue = attests from until ∷ [] in
    let ls : List Asked = of_token ∷ [] in
    passing t ls (one_of (StampedUnder (terms t ls) its_signer its_attributes ten_oclock) (attests from until)
    (attested from until t ls h refl))

pub token_rows : TokenRows
token_rows = record {
  passes = passing_one None None open_then;
  until_then = passing_one None (Some ten_oclock) (valid None (Some ten_oclock) tt (lit≤ tt));
  from_then = passing_one (Some ten_oclock) None (valid (Some ten_oclock) None (lit≤ tt) tt);
  second = passing_second;
  other_octets = record { signed = Ok token_data; stamp = Ok tst; reads = reads; first = inl other_claim };
  unknown = failing (signs None None ∷ []) (of_token ∷ []) 0 (unknown_stops (of_token ∷ []));
  not_named = failing (another_attests ∷ []) (of_token ∷ []) 1 not_named_stops;
  ended = failing (attests None (Some a_second_before) ∷ []) (of_token ∷ []) 3 (ended_stops (of_token ∷ []));
  unanswered = failing (attests None None ∷ []) (of_file ∷ []) 4 unanswered_stops;
}

-- ---- the file

abbrev pub abc : List ℕ
abc = codes "abc"

abbrev who : SignerValue
who = file_signer stamps

pub file_fits : (unsigned : Option (List AttributeValue)) → Fits strict abc id_data (file_signer unsigned)
unfolding len
file_fits unsigned = fitted _ _ _ _ file_attributes Sha256
    refl refl (lit< tt) (record { contents = refl; plain = tt }) refl (ap element (sym abc_rows.sha256))

pub file_named : (c : CertificateValue) → NamesIfAny file_attributes c
file_named c = record { v1 = λ occurs. absurd (occurs refl); v2 = λ occurs. absurd (occurs refl) }

valid_signs : (from until : Option ℕ) → IfSome from (λ first. first ≤ ten_oclock)
    → IfSome until (λ last. ten_oclock ≤ last)
    → Holds (signs from until) ten_oclock
unfolding utc_moment days_before_month
valid_signs from until first last =
    record { valid_from = lit≤ tt; valid_until = lit≤ tt; trusted_from = first; trusted_until = last }

signed_at : (from until : Option ℕ) (trust : List EntryValue) (ls : List Asked) → Holds (signs from until) ten_oclock
    → (terms trust ls).vouches of_file ≡ true
    → SignedUnder (terms trust ls) who file_attributes ten_oclock (signs from until)
signed_at from until trust ls h answered =
    record { role = refl; matches = (refl, refl); named = file_named of_signer; period = h; vouched = answered }

stamped_ten : (trust : List EntryValue) (ls : List Asked) → Passes (terms trust ls) time_stamp_token abc ten_oclock
    → IsStamped (terms trust ls) who ten_oclock
stamped_ten trust ls p = one_of (λ token. Passes (terms trust ls) token abc ten_oclock) time_stamp_token p

is_ten : (trust : List EntryValue) (ls : List Asked) (n : ℕ) → Passes (terms trust ls) time_stamp_token abc ten_oclock
    → IsStamped (terms trust ls) who n → n ≡ ten_oclock
is_ten trust ls n p k = tokens_law.one_moment (terms trust ls) time_stamp_token (of_octets abc) n ten_oclock
    (in_one (λ token. Passes (terms trust ls) token abc n) time_stamp_token k) p

-- a file of one signer is accepted with the signer's first moment
pub accepted_at : (trust : List EntryValue) (ls : List Asked) (file : List ℕ) (unsigned : Option (List AttributeValue))
    → EncodesSignedData file (file_data unsigned)
    → (m : ℕ) → IsLeast (IsMoment (terms trust ls) (file_signer unsigned)) m → Yes (terms trust ls) file None m
accepted_at trust ls file unsigned encodes m least =
    let t : Terms = terms trust ls in
    let s : SignerValue = file_signer unsigned in
    let passes : SignerPasses t abc id_data s m = record { fits = file_fits unsigned; earliest = least } in
    record {
      signed = file_data unsigned;
      encodes = encodes;
      content = abc;
      is_content = refl;
      accepts = record {
        each = all_and (λ x. (n : ℕ) × SignerPasses t abc id_data x n) s [] (m, passes)
            (none_of (λ x. (n : ℕ) × SignerPasses t abc id_data x n));
        latest = record {
          has = one_of (λ x. SignerPasses t abc id_data x m) s passes;
          greatest = λ n k. (in_one (λ x. SignerPasses t abc id_data x n) s k).earliest.least m least.has;
        };
      };
    }

accepted_with : (trust : List EntryValue) (ls : List Asked) → Passes (terms trust ls) time_stamp_token abc ten_oclock
    → Any (SignedUnder (terms trust ls) who file_attributes ten_oclock) trust
    → Yes (terms trust ls) stamped_file None ten_oclock
accepted_with trust ls p any =
    accepted_at trust ls stamped_file stamps value_rows.reads_stamped_file ten_oclock (record {
      has = record { stamped = stamped_ten trust ls p; attributes = file_attributes; has = refl; entry = any };
      least = λ n k. (let e = is_ten trust ls n p k.stamped in omega (arith, e));
    })

pub refused_first : (t : Terms) (Bad : SignerValue → Type 0) (s : SignerValue) → Bad s
    → FirstBad t abc id_data (s ∷ []) 1 Bad
refused_first t Bad s bad = record {
  counts = lit< tt;
  before = none_of (λ x. (n : ℕ) × SignerPasses t abc id_data x n);
  signer = s;
  is = refl;
  bad = bad;
}

refused_by : (trust : List EntryValue) (ls : List Asked) (failed : SignerRule)
    → SignerFails (terms trust ls) abc id_data who failed
    → Refuses (terms trust ls) stamped_file None (refused.Signer 1 failed)
refused_by trust ls failed bad = (
  file_data stamps,
  value_rows.reads_stamped_file,
  abc,
  refl,
  refused_first (terms trust ls) (λ s. SignerFails (terms trust ls) abc id_data s failed) who bad,
)

abbrev Stays : List EntryValue → List Asked → SignerValue → ℕ → EntryValue → Type 0
Stays trust ls s k e = LeftForSigner (terms trust ls) s file_attributes k e

runs_out : (trust : List EntryValue) (ls : List Asked) (n : ℕ) → StopsAt (Stays trust ls who) 3 trust n
    → SignerFails (terms trust ls) abc id_data who (signer_filter n)
runs_out trust ls n stops = inr (inl (record {
  fits = file_fits stamps;
  attributes = file_attributes;
  has = refl;
  filter = n;
  stops = stops;
  is = refl;
}))

-- an entry of an authority doesn't stay
no_signer : (trust : List EntryValue) (ls : List Asked) (s : SignerValue) (n : ℕ) (e : EntryValue) → e.role ≡ Tsa
    → Stays trust ls s (suc n) e → ⊥
no_signer trust ls s zero e r p = let z = sym r ∙ p.role in cc
no_signer trust ls s (suc zero) e r p = let z = sym r ∙ p.0.role in cc
no_signer trust ls s (suc (suc n)) e r p = let z = sym r ∙ p.0.0.role in cc

-- where the token passes, an entry stays that holds at its moment, and another doesn't
stays_then : (trust : List EntryValue) (ls : List Asked) (from until : Option ℕ) (c : CertificateValue)
    → Matches who.sid c → Passes (terms trust
    ls) time_stamp_token abc ten_oclock → Holds (trusted Signer from until c) ten_oclock
    → Stays trust ls who 2 (trusted Signer from until c)
stays_then trust ls from until c matches p h =
    (record { role = refl; matches = matches; period = λ n k. (ten_oclock, stamped_ten trust ls p, h) }, file_named c)

not_then : (trust : List EntryValue) (ls : List Asked) (e : EntryValue)
    → Passes (terms trust ls) time_stamp_token abc ten_oclock
    → (Holds e ten_oclock → ⊥) → IsSigners (terms trust ls) who e → ⊥
not_then trust ls e p never i = let x = i.period ten_oclock (stamped_ten trust ls p) in
    never (subst (λ (m : ℕ). Holds e m) (is_ten trust ls x.0 p x.1) x.2)

too_early : Holds (signs (Some half_a_second_later) None) ten_oclock → ⊥
too_early h = let le : half_a_second_later ≤ ten_oclock = h.trusted_from in omega (arith, le)

over : Holds (signs None (Some a_second_before)) ten_oclock → ⊥
over h = let le : ten_oclock ≤ a_second_before = h.trusted_until in omega (arith, le)

-- where no token passes, the period is not asked
stays_anyway :
    (trust : List EntryValue) (ls : List Asked) (unsigned : Option (List AttributeValue)) (from until : Option ℕ)
    → ((m : ℕ) → IsStamped (terms trust ls) (file_signer unsigned) m → ⊥) → (terms trust ls).vouches of_file ≡ true
    → Stays trust ls (file_signer unsigned) 3 (signs from until)
stays_anyway trust ls unsigned from until none answered = (
  (record { role = refl; matches = (refl, refl); period = λ n k. absurd (none n k) }, file_named of_signer),
  answered,
)

refused_token : (from until : Option ℕ) (rest : List EntryValue) (ls : List Asked) (failed : TokenRule)
    → (terms (signs from until ∷ rest) ls).vouches of_file ≡ true
    → TokenFails (terms (signs from until ∷ rest) ls) time_stamp_token abc failed
    → Refuses (terms (signs from until ∷ rest) ls) stamped_file None (refused.Token 1 1 failed)
refused_token from until rest ls failed answered f =
    let trust : List EntryValue = signs from until ∷ rest in
    let t : Terms = terms trust ls in
    let none : (m : ℕ) → IsStamped t who m
    → ⊥ = λ m k. tokens_law.never_both t time_stamp_token (of_octets abc) m failed
    (in_one (λ token. Passes t token abc m) time_stamp_token k) f in
    let fails : TokensFail t abc id_data who 1 failed = record {
      signs = record {
        fits = file_fits stamps;
        attributes = file_attributes;
        has = refl;
        entry = first_of (Stays trust ls who 3) (signs from until) rest
            (stays_anyway trust ls stamps from until none answered);
      };
      none = none;
      first = time_stamp_token;
      others = [];
      are = refl;
      is_first = refl;
      fails = f;
    } in (
      file_data stamps,
      value_rows.reads_stamped_file,
      abc,
      refl,
      refused_first t (λ s. TokensFail t abc id_data s 1 failed) who fails,
    )

-- ---- the rows of the file

abbrev with_token : EntryValue → List EntryValue
with_token e = e ∷ attests None None ∷ []

passes_behind : (e : EntryValue) (ls : List Asked) → (terms (with_token e) ls).vouches of_token ≡ true
    → Passes (terms (with_token e) ls) time_stamp_token abc ten_oclock
passes_behind e ls answered =
    let t : List EntryValue = with_token e in
    let Under : EntryValue → Type 0 = StampedUnder (terms t ls) its_signer its_attributes ten_oclock in
    passing t ls (after_first Under e (attests None None ∷ [])
    (one_of Under (attests None None) (attested None None t ls open_then answered)))

answered_both : (trust : List EntryValue)
    → ((terms trust both).vouches of_file ≡ true) × ((terms trust both).vouches of_token ≡ true)
unfolding len
answered_both trust = (refl, refl)

accepted_behind : (from until : Option ℕ) → Holds (signs from until) ten_oclock
    → Yes (terms (with_token (signs from until)) both) stamped_file None ten_oclock
accepted_behind from until h =
    let e : EntryValue = signs from until in
    let t : List EntryValue = with_token e in
    let answered = answered_both t in
    accepted_with t both (passes_behind e both answered.1)
    (first_of (SignedUnder (terms t both) who file_attributes ten_oclock) e (attests None None ∷ [])
    (signed_at from until t both h answered.0))

two_lines_accepted : Yes (terms (signs None (Some a_second_before) ∷ with_token (signs (Some ten_oclock) None)) both)
    stamped_file None ten_oclock
two_lines_accepted =
    let e : EntryValue = signs None (Some a_second_before) in
    let f : EntryValue = signs (Some ten_oclock) None in
    let t : List EntryValue = e ∷ with_token f in
    let Under : EntryValue → Type 0 = StampedUnder (terms t both) its_signer its_attributes ten_oclock in
    let Signed : EntryValue → Type 0 = SignedUnder (terms t both) who file_attributes ten_oclock in
    let answered = answered_both t in
    accepted_with t both (passing t both (after_first Under e (with_token f)
    (after_first Under f (attests None None ∷ [])
    (one_of Under (attests None None) (attested None None t both open_then answered.1)))))
    (after_first Signed e (with_token f) (first_of Signed f (attests None None ∷ [])
    (signed_at (Some ten_oclock) None t both (valid_signs (Some ten_oclock) None (lit≤ tt) tt) answered.0)))

nobody_stops : StopsAt (Stays [] both who) 3 [] 0
nobody_stops = record { within = lit< tt; left = λ lt. absurd (omega (arith, lt)); none = nobody (Stays [] both who 1) }

late_stops : StopsAt (Stays (with_token (signs (Some half_a_second_later) None)) both who) 3
    (with_token (signs (Some half_a_second_later) None)) 0
late_stops =
    let e : EntryValue = signs (Some half_a_second_later) None in
    let t : List EntryValue = with_token e in
    let P : EntryValue → Type 0 = Stays t both who 1 in
    record {
      within = lit< tt;
      left = λ lt. absurd (omega (arith, lt));
      none = nor P e (attests None None ∷ []) (not_then t both e (passes_behind e both (answered_both t).1) too_early)
          (nor P (attests None None) [] (no_signer t both who 0 (attests None None) refl) (nobody P));
    }

open_signs : Holds (signs None None) ten_oclock
open_signs = valid_signs None None tt tt

false_true : false ≡ true → ⊥
false_true e = absurd cc

unsigned_answers : (trust : List EntryValue)
    → ((terms trust (of_token ∷ [])).vouches of_file ≡ false) × ((terms trust (of_token ∷ [])).vouches of_token ≡ true)
unfolding len
unsigned_answers trust = (refl, refl)

unsigned_stops : StopsAt (Stays (with_token (signs None None)) (of_token ∷ []) who) 3 (with_token (signs None None)) 2
unsigned_stops =
    let e : EntryValue = signs None None in
    let t : List EntryValue = with_token e in
    let ls : List Asked = of_token ∷ [] in
    let P : EntryValue → Type 0 = Stays t ls who 3 in
    record {
      within = lit< tt;
      left = λ lt. first_of (Stays t ls who 2) e (attests None None ∷ [])
          (stays_then t ls None None of_signer (refl, refl) (passes_behind e ls (unsigned_answers t).1) open_signs);
      none = nor P e (attests None None ∷ []) (λ p. false_true (sym (unsigned_answers t).0 ∙ p.1))
          (nor P (attests None None) [] (no_signer t ls who 2 (attests None None) refl) (nobody P));
    }

abbrev another : EntryValue
another = trusted Signer None None with_another_key

valid_another : Holds another ten_oclock
unfolding utc_moment days_before_month
valid_another = record { valid_from = lit≤ tt; valid_until = lit≤ tt; trusted_from = tt; trusted_until = tt }

another_answer : (trust : List EntryValue)
    → (terms trust both).vouches (asked with_another_key who file_attributes) ≡ false
unfolding len
another_answer trust = refl

two_keys_stop : StopsAt (Stays (signs None (Some a_second_before) ∷ with_token another) both who) 3
    (signs None (Some a_second_before) ∷ with_token another) 2
two_keys_stop =
    let e : EntryValue = signs None (Some a_second_before) in
    let t : List EntryValue = e ∷ with_token another in
    let Under : EntryValue → Type 0 = StampedUnder (terms t both) its_signer its_attributes ten_oclock in
    let P : EntryValue → Type 0 = Stays t both who 3 in
    let passes =
    passing t both (after_first Under e (with_token another) (after_first Under another (attests None None ∷ [])
    (one_of Under (attests None None) (attested None None t both open_then (answered_both t).1)))) in
    record {
      within = lit< tt;
      left = λ lt. after_first (Stays t both who 2) e (with_token another)
          (first_of (Stays t both who 2) another (attests None None ∷ [])
          (stays_then t both None None with_another_key (refl, refl) passes valid_another));
      none = nor P e (with_token another) (λ p. not_then t both e passes over p.0.0)
          (nor P another (attests None None ∷ []) (λ p. false_true (sym (another_answer t) ∙ p.1))
          (nor P (attests None None) [] (no_signer t both who 2 (attests None None) refl) (nobody P)));
    }

ended_token : TokenFails
    (terms (signs None None ∷ attests None (Some a_second_before) ∷ []) both) time_stamp_token abc token.Period
ended_token =
    let e : EntryValue = attests None (Some a_second_before) in
    let t : List EntryValue = signs None None ∷ e ∷ [] in
    let P : EntryValue → Type 0 = Left t both 4 in
    failing t both 3 (record {
      within = lit< tt;
      left = λ lt. after_first (Left t both 3) (signs None None) (e ∷ [])
          (one_of (Left t both 3) e (attested_left None (Some a_second_before) t both));
      none = nor P (signs None None) (e ∷ []) (not_stamping t both 3 (signs None None) refl)
          (nor P e [] (attested_until a_second_before t both (lit< tt)) (nobody P));
    })

file_answers : (trust : List EntryValue)
    → ((terms trust (of_file ∷ [])).vouches of_file ≡ true) × ((terms trust (of_file ∷ [])).vouches of_token ≡ false)
unfolding len
file_answers trust = (refl, refl)

unanswered_token : (e : EntryValue) → e.role ≡ Signer
    → TokenFails (terms (with_token e) (of_file ∷ [])) time_stamp_token abc token.SignatureFails
unanswered_token e r =
    let t : List EntryValue = with_token e in
    let ls : List Asked = of_file ∷ [] in
    let P : EntryValue → Type 0 = Left t ls 5 in
    failing t ls 4 (record {
      within = lit< tt;
      left = λ lt. after_first (Left t ls 4) e (attests None None ∷ [])
          (one_of (Left t ls 4) (attests None None) (attested_then None None t ls open_then));
      none = nor P e (attests None None ∷ []) (not_stamping t ls 4 e r)
          (nor P (attests None None) [] (λ p. false_true (sym (file_answers t).1 ∙ p.1)) (nobody P));
    })

unstamped : Refuses (terms (with_token (signs (Some half_a_second_later) None)) both) signed_file None
    (refused.Signer 1 signer.NoToken)
unstamped =
    let e : EntryValue = signs (Some half_a_second_later) None in
    let t : List EntryValue = with_token e in
    let s : SignerValue = file_signer None in
    let no_stamp : (m : ℕ) → IsStamped (terms t both) s m
    → ⊥ = λ m k. any_of_none (λ token. Passes (terms t both) token abc m) [] refl k in
    let fails : SignerFails (terms t both) abc id_data s signer.NoToken = inr (inr (
      record {
        fits = file_fits None;
        attributes = file_attributes;
        has = refl;
        entry = first_of (Stays t both s 3) e (attests None None ∷ [])
            (stays_anyway t both None (Some half_a_second_later) None no_stamp (answered_both t).0);
      },
      refl,
      refl,
    )) in (
      file_data None,
      value_rows.reads_signed_file,
      abc,
      refl,
      refused_first (terms t both) (λ x. SignerFails (terms t both) abc id_data x signer.NoToken) s fails,
    )

pub file_rows : FileRows
file_rows = record {
  accepted = accepted_behind None None open_signs;
  from_then = accepted_behind (Some ten_oclock) None (valid_signs (Some ten_oclock) None (lit≤ tt) tt);
  two_lines = two_lines_accepted;
  nobody = refused_by [] both signer.UnknownSigner (runs_out [] both 0 nobody_stops);
  too_late = refused_by (with_token (signs (Some half_a_second_later) None)) both signer.UnknownSigner
      (runs_out (with_token (signs (Some half_a_second_later) None)) both 0 late_stops);
  unsigned = refused_by (with_token (signs None None)) (of_token ∷ []) signer.SignatureFails
      (runs_out (with_token (signs None None)) (of_token ∷ []) 2 unsigned_stops);
  two_keys = refused_by (signs None (Some a_second_before) ∷ with_token another) both signer.SignatureFails
      (runs_out (signs None (Some a_second_before) ∷ with_token another) both 2 two_keys_stop);
  ended = refused_token None None (attests None (Some a_second_before) ∷ []) both token.Period
      (answered_both (signs None None ∷ attests None (Some a_second_before) ∷ [])).0 ended_token;
  late_and_unanswered =
      refused_token (Some half_a_second_later) None (attests None None ∷ []) (of_file ∷ []) token.SignatureFails
      (file_answers (with_token (signs (Some half_a_second_later) None))).0
      (unanswered_token (signs (Some half_a_second_later) None) refl);
  late_and_unstamped = unstamped;
}

-- The worked rows hold.
use Rattle.std.proofs.Common.{◌≡◌, ℕ, true, false, List, [], ◌∷◌, ◌++◌, Option, None, refl, ap, sym, ◌∙◌, inl, inr}
use Rattle.hex.specs.Hex.{encode_with}
use Rattle.der_core.specs.Element.{len}
use Rattle.der_core.specs.Lists.{is_same}
use Rattle.der_grammar.specs.Vectors.{signer_name, authority_name, time_stamp_token, stamped_file}
use Rattle.cms_types.specs.AttributeValue.{AttributeValue}
use Rattle.cms_types.specs.SignerValue.{SignerValue, IssuerAndSerial}
use Rattle.cms_types.specs.SignedDataValue.{SignedDataValue, EncodesSignedData}
use Rattle.trust_lists.specs.Asking.{Asked}
use Rattle.trust_lists.specs.Entries.{EntryValue}
use Rattle.trust_lists.specs.declared.role.Role.{Role}
use Rattle.trust_lists.specs.declared.role.Role.TheVariants.{Signer, Tsa}
use Rattle.check_names.specs.Naming.{Matches}
use Rattle.check_names.specs.NamingRows.{of_authority}
use Rattle.check_verdict.specs.Rows.{of_signer, token_data, early_data, token_signer, digest_of_stamp}
use Rattle.check_verdict.specs.Rows.{digest_of_early_stamp, attributes_over, file_attributes}
use Rattle.check_verdict.specs.Rows.{file_signer, file_data, stamps, stamps_of, early_token, both_stamps, of_file}
use Rattle.check_verdict.specs.Rows.{of_token, of_early_token, trusted}
use Rattle.check_verdict.specs.Trusted.{asked}
use Rattle.check_fit.proofs.Readings.{one_value}
use Rattle.check_verdict.proofs.Rows.{value_rows, early_reads, twice_reads}
use Rattle.check_questions.specs.FileQuestions.{Joined, InOrder, IsUnder, OfEntry, OfEntries, IsSigned, OfToken}
use Rattle.check_questions.specs.FileQuestions.{OfSigner, AreQuestionsOf}
use Rattle.check_questions.specs.Rows.{signer, authority, without_attributes, FileRows, SignerRows, TextRows}

-- ---- lists

two_parts : {B : Type 0} (First Others : List B → Type 0) (xs ys : List B) → First xs → Others ys
    → Joined First Others (xs ++ ys)
two_parts First Others xs ys h g = record { first = xs; is_first = h; others = ys; are_others = g; is = refl }

then : {A B : Type 0} (Has : A → List B → Type 0) (x : A) (xs : List A) (ys zs : List B) → Has x ys → InOrder Has xs zs
    → InOrder Has (x ∷ xs) (ys ++ zs)
then Has x xs ys zs h g = two_parts (Has x) (InOrder Has xs) ys zs h g

-- ---- entries

under : (role : Role) (s : SignerValue) (e : EntryValue) (q : Asked) → IsUnder role s e q → OfEntry role s e (q ∷ [])
under role s e q h = inl (q, h, refl)

not_under : (role : Role) (s : SignerValue) (e : EntryValue) → (e.role ≡ role → ⊥) → OfEntry role s e []
not_under role s e differs = inr (λ q h. differs h.has_role, refl)

signer_differs : Signer ≡ Tsa → ⊥
signer_differs e = absurd cc

tsa_differs : Tsa ≡ Signer → ⊥
tsa_differs e = absurd cc

not_matching : (role : Role) (s : SignerValue) (e : EntryValue) → (Matches s.sid e.certificate → ⊥)
    → OfEntry role s e []
not_matching role s e differs = inr (λ q h. differs h.matches, refl)

own_question : (unsigned : Option (List AttributeValue)) → IsUnder Signer (file_signer unsigned) signer of_file
own_question unsigned =
    record { has_role = refl; matches = (refl, refl); attributes = file_attributes; has = refl; is = refl }

abbrev of_stamp : List ℕ → Asked
of_stamp digest = asked of_authority (token_signer digest) (attributes_over digest)

stamp_question : (digest : List ℕ) → IsUnder Tsa (token_signer digest) authority (of_stamp digest)
stamp_question digest =
    record { has_role = refl; matches = (refl, refl); attributes = attributes_over digest; has = refl; is = refl }

-- what a trust list says of the file's signer and of the tokens' one
record Trusts (trust : List EntryValue) (own : List Asked) (stamped : List ℕ → List Asked) : Type 0 where
  pub asks_signer : (unsigned : Option (List AttributeValue)) → OfEntries Signer (file_signer unsigned) trust own
  pub asks_stamp : (digest : List ℕ) → OfEntries Tsa (token_signer digest) trust (stamped digest)

abbrev none_asked : List ℕ → List Asked
none_asked digest = []

abbrev one_asked : List ℕ → List Asked
one_asked digest = of_stamp digest ∷ []

empty : Trusts [] [] none_asked
empty = record { asks_signer = λ u. refl; asks_stamp = λ d. refl }

-- with one more entry before the others
with_signer : (trust : List EntryValue) (own : List Asked) (stamped : List ℕ → List Asked) → Trusts trust own stamped
    → Trusts (signer ∷ trust) (of_file ∷ own) stamped
with_signer trust own stamped t = record {
  asks_signer = λ u. then (OfEntry Signer (file_signer u)) signer trust (of_file ∷ []) own
      (under Signer (file_signer u) signer of_file (own_question u)) (t.asks_signer u);
  asks_stamp = λ d. then (OfEntry Tsa (token_signer d)) signer trust [] (stamped d)
      (not_under Tsa (token_signer d) signer signer_differs) (t.asks_stamp d);
}

with_authority : (trust : List EntryValue) (own : List Asked) (stamped : List ℕ → List Asked) → Trusts trust own stamped
    → Trusts (authority ∷ trust) own (λ digest. of_stamp digest ∷ stamped digest)
with_authority trust own stamped t = record {
  asks_signer = λ u. then (OfEntry Signer (file_signer u)) authority trust [] own
      (not_under Signer (file_signer u) authority tsa_differs) (t.asks_signer u);
  asks_stamp = λ d. then (OfEntry Tsa (token_signer d)) authority trust (of_stamp d ∷ []) (stamped d)
      (under Tsa (token_signer d) authority (of_stamp d) (stamp_question d)) (t.asks_stamp d);
}

names_differ : authority_name ≡ signer_name → ⊥
names_differ e = absurd (let z : true ≡ false = ap (is_same authority_name) e in cc)

signer_name_differs : Matches (IssuerAndSerial signer_name (5 ∷ [])) of_authority → ⊥
signer_name_differs h = names_differ h.0

authority_name_differs : Matches (IssuerAndSerial authority_name (7 ∷ [])) of_signer → ⊥
authority_name_differs h = names_differ (sym h.0)

exchanged : Trusts (trusted Tsa None None of_signer ∷ trusted Signer None None of_authority ∷ []) [] none_asked
exchanged = record {
  asks_signer = λ u. then (OfEntry Signer (file_signer u)) (trusted Tsa None None of_signer)
      (trusted Signer None None of_authority ∷ []) [] []
      (not_under Signer (file_signer u) (trusted Tsa None None of_signer) tsa_differs)
      (then (OfEntry Signer (file_signer u)) (trusted Signer None None of_authority) [] [] []
      (not_matching Signer (file_signer u) (trusted Signer None None of_authority) signer_name_differs) refl);
  asks_stamp = λ d. then (OfEntry Tsa (token_signer d)) (trusted Tsa None None of_signer)
      (trusted Signer None None of_authority ∷ []) [] []
      (not_matching Tsa (token_signer d) (trusted Tsa None None of_signer) authority_name_differs)
      (then (OfEntry Tsa (token_signer d)) (trusted Signer None None of_authority) [] [] []
      (not_under Tsa (token_signer d) (trusted Signer None None of_authority) signer_differs) refl);
}

-- ---- tokens

stamp_signed : IsSigned time_stamp_token (token_signer digest_of_stamp)
stamp_signed = record { signed = token_data; encodes = value_rows.reads_token; one_signer = refl }

early_signed : IsSigned early_token (token_signer digest_of_early_stamp)
early_signed = record { signed = early_data; encodes = early_reads; one_signer = refl }

of_plain_token : (trust : List EntryValue) (own : List Asked) (stamped : List ℕ → List Asked) → Trusts trust own stamped
    → OfToken trust time_stamp_token (stamped digest_of_stamp)
of_plain_token trust own stamped t = inl (token_signer digest_of_stamp, stamp_signed, t.asks_stamp digest_of_stamp)

of_earlier_token : (trust : List EntryValue) (own : List Asked) (stamped : List ℕ → List Asked)
    → Trusts trust own stamped
    → OfToken trust early_token (stamped digest_of_early_stamp)
of_earlier_token trust own stamped t =
    inl (token_signer digest_of_early_stamp, early_signed, t.asks_stamp digest_of_early_stamp)

nothing_encoded : (v : SignedDataValue) → EncodesSignedData [] v → ⊥
nothing_encoded v h = let e = h.0 in absurd cc

of_no_token : (trust : List EntryValue) → OfToken trust [] []
of_no_token trust = inr (λ s h. nothing_encoded h.signed h.encodes, refl)

sole_differs : (s a b : SignerValue) → s ∷ [] ≡ a ∷ b ∷ [] → ⊥
sole_differs s a b e = absurd cc

by_two : (trust : List EntryValue) (token : List ℕ) (v : SignedDataValue) (a b : SignerValue)
    → EncodesSignedData token v → v.signers ≡ a ∷ b ∷ []
    → OfToken trust token []
by_two trust token v a b encodes is = inr (
  λ s h. sole_differs s a b
      (sym h.one_signer ∙ ap (λ (w : SignedDataValue). w.signers) (one_value token h.signed v h.encodes encodes) ∙ is),
  refl,
)

-- ---- signers

of_unstamped : (trust : List EntryValue) (own : List Asked) (stamped : List ℕ → List Asked) → Trusts trust own stamped
    → OfSigner trust (file_signer None) (own ++ [])
of_unstamped trust own stamped t =
    two_parts (OfEntries Signer (file_signer None) trust) (InOrder (OfToken trust) []) own [] (t.asks_signer None) refl

of_stamped : (trust : List EntryValue) (own : List Asked) (stamped : List ℕ → List Asked) → Trusts trust own stamped
    → OfSigner trust (file_signer stamps) (own ++ (stamped digest_of_stamp ++ []))
of_stamped trust own stamped t =
    two_parts (OfEntries Signer (file_signer stamps) trust) (InOrder (OfToken trust) (time_stamp_token ∷ [])) own
    (stamped digest_of_stamp ++ []) (t.asks_signer stamps)
    (then (OfToken trust) time_stamp_token [] (stamped digest_of_stamp) [] (of_plain_token trust own stamped t) refl)

of_twice_stamped : (trust : List EntryValue) (own : List Asked) (stamped : List ℕ → List Asked)
    → Trusts trust own stamped
    → OfSigner trust (file_signer both_stamps)
    (own ++ (stamped digest_of_early_stamp ++ (stamped digest_of_stamp ++ [])))
of_twice_stamped trust own stamped t =
    two_parts (OfEntries Signer (file_signer both_stamps) trust) (InOrder (OfToken trust)
    (early_token ∷ time_stamp_token ∷ [])) own (stamped digest_of_early_stamp ++ (stamped digest_of_stamp ++ []))
    (t.asks_signer both_stamps)
    (then (OfToken trust) early_token (time_stamp_token ∷ []) (stamped digest_of_early_stamp)
    (stamped digest_of_stamp ++ [])
    (of_earlier_token trust own stamped t)
    (then (OfToken trust) time_stamp_token [] (stamped digest_of_stamp) [] (of_plain_token trust own stamped t) refl))

abbrev odd_stamps : Option (List AttributeValue)
odd_stamps = stamps_of ([] ∷ time_stamp_token ∷ [])

of_oddly_stamped : (trust : List EntryValue) (own : List Asked) (stamped : List ℕ → List Asked)
    → Trusts trust own stamped
    → OfSigner trust (file_signer odd_stamps) (own ++ (stamped digest_of_stamp ++ []))
of_oddly_stamped trust own stamped t = two_parts (OfEntries Signer (file_signer odd_stamps) trust)
    (InOrder (OfToken trust) ([] ∷ time_stamp_token ∷ [])) own (stamped digest_of_stamp ++ [])
    (t.asks_signer odd_stamps)
    (then (OfToken trust) [] (time_stamp_token ∷ []) [] (stamped digest_of_stamp ++ []) (of_no_token trust)
    (then (OfToken trust) time_stamp_token [] (stamped digest_of_stamp) [] (of_plain_token trust own stamped t) refl))

-- ---- rows

abbrev both : List EntryValue
both = signer ∷ authority ∷ []

both_trusted : Trusts both (of_file ∷ []) one_asked
both_trusted = with_signer (authority ∷ []) [] one_asked (with_authority [] [] none_asked empty)

stamped_by : (trust : List EntryValue) (own : List Asked) (stamped : List ℕ → List Asked) → Trusts trust own stamped
    → AreQuestionsOf trust stamped_file ((own ++ (stamped digest_of_stamp ++ [])) ++ [])
stamped_by trust own stamped t = record {
  signed = file_data stamps;
  encodes = value_rows.reads_stamped_file;
  are = then (OfSigner trust) (file_signer stamps) [] (own ++ (stamped digest_of_stamp ++ [])) []
      (of_stamped trust own stamped t) refl;
}

pub file_rows : FileRows
file_rows = record {
  unstamped = record {
    signed = file_data None;
    encodes = value_rows.reads_signed_file;
    are = then (OfSigner both) (file_signer None) [] (of_file ∷ []) []
        (of_unstamped both (of_file ∷ []) one_asked both_trusted) refl;
  };
  stamped = stamped_by both (of_file ∷ []) one_asked both_trusted;
  twice = record {
    signed = file_data both_stamps;
    encodes = twice_reads;
    are = then (OfSigner both) (file_signer both_stamps) [] (of_file ∷ of_early_token ∷ of_token ∷ []) []
        (of_twice_stamped both (of_file ∷ []) one_asked both_trusted) refl;
  };
  repeated = stamped_by (signer ∷ both) (of_file ∷ of_file ∷ []) one_asked
      (with_signer both (of_file ∷ []) one_asked both_trusted);
  authority_first = stamped_by (authority ∷ signer ∷ []) (of_file ∷ []) one_asked
      (with_authority (signer ∷ []) (of_file ∷ []) none_asked (with_signer [] [] none_asked empty));
  no_authority = stamped_by (signer ∷ []) (of_file ∷ []) none_asked (with_signer [] [] none_asked empty);
  no_signer = stamped_by (authority ∷ []) [] one_asked (with_authority [] [] none_asked empty);
  exchanged =
      stamped_by (trusted Tsa None None of_signer ∷ trusted Signer None None of_authority ∷ []) [] none_asked exchanged;
}

pub signer_rows : SignerRows
signer_rows = record {
  unsigned = then (OfSigner both) without_attributes [] [] [] refl refl;
  two = then (OfSigner both) (file_signer both_stamps) (file_signer stamps ∷ [])
      (of_file ∷ of_early_token ∷ of_token ∷ []) (of_file ∷ of_token ∷ [])
      (of_twice_stamped both (of_file ∷ []) one_asked both_trusted)
      (then (OfSigner both) (file_signer stamps) [] (of_file ∷ of_token ∷ []) []
      (of_stamped both (of_file ∷ []) one_asked both_trusted) refl);
  no_token = then (OfSigner both) (file_signer odd_stamps) [] (of_file ∷ of_token ∷ []) []
      (of_oddly_stamped both (of_file ∷ []) one_asked both_trusted) refl;
  two_signers = by_two;
}

pub text_rows : TextRows
unfolding encode_with len
text_rows = record { no_question = refl; two = refl; empty = refl }

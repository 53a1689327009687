-- The worked rows of naming, by computing.
use Rattle.std.proofs.Common.{◌≡◌, ℕ, List, [], ◌∷◌, get_or, Option, Some, None, refl, sym, ap, subst, ◌∙◌, arith, lit<}
use Rattle.std.proofs.Common.{inl, inr}
use Rattle.der_core.specs.Element.{len}
use Rattle.der_core.specs.Hex.{hex}
use Rattle.der_grammar.specs.Vectors.{digest_of_abc, certificate_named}
use Rattle.cert_types.specs.CertificateValue.{encoding}
use Rattle.sha1.specs.Sha1 as sha1
use Rattle.sha2.specs.Sha256 as sha256
use Rattle.digests.specs.Messages.{digest_of}
use Rattle.digests.specs.declared.algorithm.Alg.TheVariants.{Sha1, Sha256}
use Rattle.cms_types.specs.AttributeValue.{AttributeValue}
use Rattle.check_fit.specs.Attributes.{single_value}
use Rattle.check_names.specs.Naming.{id_signing_certificate, id_signing_certificate_v2, NamesInV1, NamesInV2}
use Rattle.check_names.specs.Naming.{MustName}
use Rattle.check_names.specs.NamingRows.{of_authority, digest_of_certificate, named_by, named_in_v1, NamingRows}
use Rattle.check_names.specs.NamingRows.{IssuerRows, MatchingRows}
use Rattle.check_names.proofs.HashNames.{id_of, certificate_of, octets_of, Encoded, encoded, names_v2, other_hash}

abbrev by_sha1 : List ℕ
by_sha1 = hex "91349c0baeb5a3be6d99bd5d97022a3286874f07"

record AllEncoded : Type 0 where
  pub authority : Encoded digest_of_certificate
  pub v1 : Encoded by_sha1
  pub abc : Encoded digest_of_abc

all_encoded : AllEncoded
unfolding len
all_encoded = record {
  authority = encoded digest_of_certificate refl (lit< tt) (lit< tt) (lit< tt) (lit< tt);
  v1 = encoded by_sha1 refl (lit< tt) (lit< tt) (lit< tt) (lit< tt);
  abc = encoded digest_of_abc refl (lit< tt) (lit< tt) (lit< tt) (lit< tt);
}

spelled_v1 : certificate_named ≡ octets_of by_sha1
unfolding len
spelled_v1 = refl

digest_v2 : digest_of Sha256 (encoding of_authority) ≡ digest_of_certificate
unfolding len digest_of sha256.sha256 sha256.digest_bytes sha256.hash_after sha256.compress sha256.rounds
    sha256.schedule sha256.first_words
digest_v2 = refl

digest_v1 : digest_of Sha1 (encoding of_authority) ≡ by_sha1
unfolding len digest_of sha1.sha1 sha1.digest_bytes sha1.hash_after sha1.compress sha1.rounds sha1.schedule
    sha1.first_words
digest_v1 = refl

names_it : (attributes : List AttributeValue)
    → single_value attributes id_signing_certificate_v2 ≡ Some (octets_of digest_of_certificate)
    → NamesInV2 attributes of_authority
names_it attributes once =
    names_v2 attributes digest_of_certificate of_authority once all_encoded.authority digest_v2

names_v1 : (attributes : List AttributeValue) → single_value attributes id_signing_certificate ≡ Some certificate_named
    → NamesInV1 attributes of_authority
names_v1 attributes once = record {
  id = id_of by_sha1;
  first = record {
    value = octets_of by_sha1;
    once = subst (λ (b : List ℕ). single_value attributes id_signing_certificate ≡ Some b) spelled_v1 once;
    certificate = certificate_of by_sha1;
    encodes = (all_encoded.v1, (refl, tt));
    others = [];
    is_first = refl;
  };
  names = record { hash = sym digest_v1; issuer = tt };
}

not_empty : (a : AttributeValue) (xs : List AttributeValue) → a ∷ xs ≡ [] → ⊥
not_empty a xs e = absurd cc

no_value : (a : List ℕ) (o : Option (List ℕ)) → o ≡ None → o ≡ Some a → ⊥
no_value a o e h = let z = sym e ∙ h in cc

first_differs : (a b : ℕ) → a ≡ 0xba → b ≡ 0xb5 → a ≡ b → ⊥
first_differs a b p q e = omega (arith, p, q, e)

abc_differs : digest_of_abc ≡ digest_of Sha256 (encoding of_authority) → ⊥
abc_differs e = first_differs _ _ refl refl (ap (λ (l : List ℕ). get_or l 0 0) (e ∙ digest_v2))

neither_named : MustName [] of_authority → ⊥
neither_named n = elim n.some [ inl v1 ↦ v1 refl | inr v2 ↦ v2 refl ]

pub naming_rows : NamingRows
naming_rows = record {
  version_1_alone = record {
    names = record { v1 = λ occurs. names_v1 (named_in_v1 ∷ []) refl; v2 = λ occurs. absurd (occurs refl) };
    some = inl (λ e. not_empty _ _ e);
  };
  version_2_alone = record {
    names = record {
      v1 = λ occurs. absurd (occurs refl);
      v2 = λ occurs. names_it (named_by digest_of_certificate ∷ []) refl;
    };
    some = inr (λ e. not_empty _ _ e);
  };
  in_both = record {
    names = record {
      v1 = λ occurs. names_v1 (named_in_v1 ∷ named_by digest_of_certificate ∷ []) refl;
      v2 = λ occurs. names_it (named_in_v1 ∷ named_by digest_of_certificate ∷ []) refl;
    };
    some = inl (λ e. not_empty _ _ e);
  };
  in_neither = record { v1 = λ occurs. absurd (occurs refl); v2 = λ occurs. absurd (occurs refl) };
  neither = neither_named;
  other_differs = λ n. other_hash (named_in_v1 ∷ named_by digest_of_abc ∷ []) digest_of_abc of_authority refl
      all_encoded.abc
      abc_differs (n.v2 (λ e. not_empty _ _ e));
  twice = λ n. (let f = n.v1 (λ e. not_empty _ _ e) in
      no_value f.first.value (single_value (named_in_v1 ∷ named_in_v1 ∷ []) id_signing_certificate) refl f.first.once);
}

-- octets that differ at the front, or at the last of 14
differ : (n a b : ℕ) (xs ys : List ℕ) → get_or xs n 0 ≡ a → get_or ys n 0 ≡ b → (a ≡ b → ⊥) → xs ≡ ys → ⊥
differ n a b xs ys p q never e = never (sym p ∙ (ap (λ (l : List ℕ). get_or l n 0) e ∙ q))

head_of : (x y : List ℕ) (xs ys : List (List ℕ)) → x ∷ xs ≡ y ∷ ys → x ≡ y
head_of x y xs ys e = cc

not_two : (x y z : List ℕ) → x ∷ y ∷ [] ≡ z ∷ [] → ⊥
not_two x y z e = absurd cc

pub issuer_rows : IssuerRows
unfolding len
issuer_rows = record {
  issuer = record { name = refl; serial = refl };
  other_serial = λ i. differ 0 8 7 _ _ refl refl (λ e. absurd (omega (arith, e))) i.serial;
  other_name = λ i. differ 15 65 84 _ _ refl refl (λ e. absurd (omega (arith, e))) (head_of _ _ _ _ i.name);
  other_tag = λ i. differ 0 0xa5 0xa4 _ _ refl refl (λ e. absurd (omega (arith, e))) (head_of _ _ _ _ i.name);
  no_name = λ i. (let z = i.name in absurd cc);
  two_names = λ i. not_two _ _ _ i.name;
}

pub matching_rows : MatchingRows
matching_rows = record {
  meant = (refl, refl);
  serial = λ m. differ 0 7 8 _ _ refl refl (λ e. absurd (omega (arith, e))) m.1;
  name = λ m. differ 13 84 65 _ _ refl refl (λ e. absurd (omega (arith, e))) m.0;
  key = λ id m. m;
}

-- The members of the list of a file, and of a token, are its questions.
use Rattle.std.proofs.Common.{◌≡◌, ℕ, List, [], ◌∷◌, Option, Some, None, refl, sym, ap, subst, ◌∙◌, inl, inr, ◌⊎◌}
use Rattle.std.specs.Prelude.{Contains, MatchOption}
use Rattle.cms_types.specs.AttributeValue.{AttributeValue}
use Rattle.cms_types.specs.SignerValue.{SignerValue}
use Rattle.cms_types.specs.SignedDataValue.{SignedDataValue}
use Rattle.trust_lists.specs.declared.role.Role.{Role}
use Rattle.trust_lists.specs.declared.role.Role.TheVariants.{Signer, Tsa}
use Rattle.trust_lists.specs.Entries.{EntryValue}
use Rattle.trust_lists.specs.Asking.{Asked}
use Rattle.check_verdict.specs.Questions.{IsAbout, IsAboutToken, IsQuestion}
use Rattle.check_verdict.specs.Verdicts.{tokens}
use Rattle.check_fit.proofs.Readings.{one_value}
use Rattle.check_questions.specs.FileQuestions.{Joined, InOrder, IsUnder, OfEntry, OfEntries, IsSigned, OfToken}
use Rattle.check_questions.specs.FileQuestions.{OfSigner, AreQuestionsOf}
use Rattle.check_questions.specs.Laws.{ListsHaveTheQuestions, TokensListTheQuestions}
use Rattle.check_questions.proofs.Lists.{in_none, in_one, is_first, in_joined, from_first, from_others, Found, find}
use Rattle.check_questions.proofs.Lists.{find_back}
use Rattle.check_questions.proofs.Under.{one_under, one_signer}

-- ---- under entries

the_one : (role : Role) (s : SignerValue) (e : EntryValue) (part : List Asked) (q : Asked) → OfEntry role s e part
    → Contains part q → IsUnder role s e q
the_one role s e part q (inl h) c =
    subst (λ (x : Asked). IsUnder role s e x) (sym (in_one h.0 q (subst (λ (l : List Asked). Contains l q) h.2 c))) h.1
the_one role s e part q (inr h) c = absurd (in_none q (subst (λ (l : List Asked). Contains l q) h.1 c))

pub entries_about : (role : Role) (s : SignerValue) (trust : List EntryValue) (qs : List Asked) (q : Asked)
    → OfEntries role s trust qs
    → Contains qs q → IsAbout trust role s q
entries_about role s trust qs q are c =
    let f : Found (OfEntry role s) trust q = find (OfEntry role s) trust qs q are c in
    let u : IsUnder role s f.item q = the_one role s f.item f.part q f.has f.contains in
    record {
      attributes = u.attributes;
      has = u.has;
      entry = f.item;
      trusted = f.among;
      has_role = u.has_role;
      matches = u.matches;
      is = u.is;
    }

stands : (role : Role) (s : SignerValue) (e : EntryValue) (q : Asked) → IsUnder role s e q → (part : List Asked)
    → OfEntry role s e part → Contains part q
stands role s e q u part (inl h) = subst (λ (l : List Asked). Contains l q)
    (sym (h.2 ∙ ap (λ (x : Asked). x ∷ []) (one_under role s e h.0 q h.1 u))) (is_first q [])
stands role s e q u part (inr h) = absurd (h.0 q u)

pub about_entries : (role : Role) (s : SignerValue) (trust : List EntryValue) (qs : List Asked) (q : Asked)
    → OfEntries role s trust qs
    → IsAbout trust role s q → Contains qs q
about_entries role s trust qs q are a = find_back (OfEntry role s) trust qs a.entry q
    (stands role s a.entry q
    (record { has_role = a.has_role; matches = a.matches; attributes = a.attributes; has = a.has; is = a.is }))
    a.trusted are

-- ---- a token

token_about : (trust : List EntryValue) (token : List ℕ) (qs : List Asked) (q : Asked) → OfToken trust token qs
    → Contains qs q → IsAboutToken trust token q
token_about trust token qs q (inl h) c = record {
  signed = h.1.signed;
  encodes = h.1.encodes;
  signer = h.0;
  one_signer = h.1.one_signer;
  about = entries_about Tsa h.0 trust qs q h.2 c;
}
token_about trust token qs q (inr h) c = absurd (in_none q (subst (λ (l : List Asked). Contains l q) h.1 c))

about_token : (trust : List EntryValue) (token : List ℕ) (q : Asked) → IsAboutToken trust token q → (qs : List Asked)
    → OfToken trust token qs → Contains qs q
about_token trust token q a qs (inl h) =
    let signed : IsSigned token a.signer =
    record { signed = a.signed; encodes = a.encodes; one_signer = a.one_signer } in
    about_entries Tsa h.0 trust qs q h.2
    (subst (λ (s : SignerValue). IsAbout trust Tsa s q) (one_signer token a.signer h.0 signed h.1) a.about)
about_token trust token q a qs (inr h) =
    absurd (h.0 a.signer (record { signed = a.signed; encodes = a.encodes; one_signer = a.one_signer }))

-- ---- a signer

abbrev Both : List EntryValue → SignerValue → List Asked → Type 0
Both trust s qs = Joined (OfEntries Signer s trust) (InOrder (OfToken trust) (tokens s)) qs

-- a question about a signer or one of its tokens
abbrev AboutEither : List EntryValue → SignerValue → Asked → Type 0
AboutEither trust s q =
    IsAbout trust Signer s q ⊎ ((token : List ℕ) × Contains (tokens s) token × IsAboutToken trust token q)

both_about : (trust : List EntryValue) (s : SignerValue) (qs : List Asked) (q : Asked) → Both trust s qs → Contains qs q
    → AboutEither trust s q
both_about trust s qs q j c =
    elim (in_joined (OfEntries Signer s trust) (InOrder (OfToken trust) (tokens s)) qs q j c) [
      | inl here ↦ inl (entries_about Signer s trust j.first q j.is_first here)
      | inr there ↦ of_token (find (OfToken trust) (tokens s) j.others q j.are_others there)
    ]
  where
    of_token : Found (OfToken trust) (tokens s) q → AboutEither trust s q
    of_token f = inr (f.item, f.among, token_about trust f.item f.part q f.has f.contains)

about_both : (trust : List EntryValue) (s : SignerValue) (qs : List Asked) (q : Asked) → Both trust s qs
    → AboutEither trust s q → Contains qs q
about_both trust s qs q j (inl a) = from_first (OfEntries Signer s trust) (InOrder (OfToken trust) (tokens s)) qs q j
    (about_entries Signer s trust j.first q j.is_first a)
about_both trust s qs q j (inr (token, among, a)) =
    from_others (OfEntries Signer s trust) (InOrder (OfToken trust) (tokens s)) qs q j
    (find_back (OfToken trust) (tokens s) j.others token q (about_token trust token q a) among j.are_others)

abbrev Of : List EntryValue → SignerValue → List Asked → Option (List AttributeValue) → Type 0
Of trust s qs o = MatchOption o (qs ≡ []) (λ _. Both trust s qs)

signer_about : (trust : List EntryValue) (s : SignerValue) (qs : List Asked) (q : Asked)
    (o : Option (List AttributeValue)) → Of trust s qs o
    → Contains qs q → (attributes : List AttributeValue) × (o ≡ Some attributes) × AboutEither trust s q
signer_about trust s qs q None of c = absurd (in_none q (subst (λ (l : List Asked). Contains l q) of c))
signer_about trust s qs q (Some attributes) of c = (attributes, refl, both_about trust s qs q of c)

about_signer : (trust : List EntryValue) (s : SignerValue) (q : Asked) (attributes : List AttributeValue)
    → s.signed_attributes ≡ Some attributes
    → AboutEither trust s q → (qs : List Asked) → OfSigner trust s qs → Contains qs q
about_signer trust s q attributes has a qs of = about_both trust s qs q (subst (Of trust s qs) has of) a

-- ---- a file

is_question : (trust : List EntryValue) (file : List ℕ) (qs : List Asked) (q : Asked) → AreQuestionsOf trust file qs
    → Contains qs q → IsQuestion trust file q
is_question trust file qs q h c =
    let f : Found (OfSigner trust) h.signed.signers q = find (OfSigner trust) h.signed.signers qs q h.are c in
    let a = signer_about trust f.item f.part q f.item.signed_attributes f.has f.contains in
    record {
      signed = h.signed;
      encodes = h.encodes;
      signer = f.item;
      among = f.among;
      attributes = a.0;
      has = a.1;
      about = a.2;
    }

contains : (trust : List EntryValue) (file : List ℕ) (qs : List Asked) (q : Asked) → AreQuestionsOf trust file qs
    → IsQuestion trust file q → Contains qs q
contains trust file qs q h k =
    let among : Contains h.signed.signers k.signer = subst (λ (v : SignedDataValue). Contains v.signers k.signer)
    (one_value file k.signed h.signed k.encodes h.encodes) k.among in
    find_back (OfSigner trust) h.signed.signers qs k.signer q
    (about_signer trust k.signer q k.attributes k.has k.about) among h.are

pub members : ListsHaveTheQuestions
members trust file qs h q = (is_question trust file qs q h, contains trust file qs q h)

pub members_of_token : TokensListTheQuestions
members_of_token trust token qs h q =
    (token_about trust token qs q h.are, λ a. about_token trust token q a qs h.are)

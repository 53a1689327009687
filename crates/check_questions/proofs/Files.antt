-- Each file and each token that encodes a SignedData has one list of questions.
use Rattle.std.proofs.Common.{◌≡◌, ℕ, List, [], ◌∷◌, Option, Some, None, Result, Ok, Err, refl, sym, subst, ◌∙◌, inl}
use Rattle.std.proofs.Common.{inr}
use Rattle.std.specs.Prelude.{MatchOption, ⊤}
use Rattle.std.specs.List.{AllByRecursion}
use Rattle.der_core.specs.Element.{IsBytes}
use Rattle.cms_types.specs.AttributeValue.{AttributeValue}
use Rattle.cms_types.specs.SignerValue.{SignerValue}
use Rattle.cms_types.specs.SignedDataValue.{SignedDataValue, signers_parts}
use Rattle.cms_types.specs.declared.fault.CmsFault.{CmsFault}
use Rattle.der_core.specs.Lists.{only}
use Rattle.check_fit.specs.FileFitting.{IsReading}
use Rattle.check_names.specs.Naming.{Matches}
use Rattle.trust_lists.specs.declared.role.Role.{Role}
use Rattle.trust_lists.specs.declared.role.Role.TheVariants.{Signer, Tsa}
use Rattle.trust_lists.specs.Entries.{EntryValue}
use Rattle.trust_lists.specs.Asking.{Asked}
use Rattle.check_verdict.specs.Trusted.{asked}
use Rattle.check_verdict.specs.Verdicts.{tokens}
use Rattle.check_names.proofs.Deciding.{Decided}
use Rattle.check_verdict.proofs.Deciding.{signing, stamping, matches}
use Rattle.check_fit.proofs.Octets.{SignerOctets, signed_octets, signers_octets}
use Rattle.check_fit.proofs.Readings.{one_value}
use Rattle.check_fit.proofs.Readings.{reading_of}
use Rattle.check_questions.specs.FileQuestions.{Joined, InOrder, IsUnder, OfEntry, OfEntries, OfToken, OfSigner}
use Rattle.check_questions.specs.FileQuestions.{AreQuestions}
use Rattle.check_questions.specs.Laws.{FilesHaveQuestions, FilesHaveOneList, TokensHaveQuestions, TokensHaveOneList}
use Rattle.check_questions.proofs.Lists.{one_joined, one_list, one_or_none, some_list}
use Rattle.check_questions.proofs.Under.{one_under, one_signer, unread_none, other_number, sole}

-- ---- one list

pub one_of_entry : (role : Role) (s : SignerValue) (e : EntryValue) (qs ps : List Asked) → OfEntry role s e qs
    → OfEntry role s e ps → qs ≡ ps
one_of_entry role s e qs ps h g = one_or_none (IsUnder role s e) (one_under role s e) qs ps h g

pub one_of_entries : (role : Role) (s : SignerValue) (trust : List EntryValue) (qs ps : List Asked)
    → OfEntries role s trust qs
    → OfEntries role s trust ps → qs ≡ ps
one_of_entries role s trust qs ps h g = one_list (OfEntry role s) (one_of_entry role s) trust qs ps h g

pub one_of_token : (trust : List EntryValue) (token : List ℕ) (qs ps : List Asked) → OfToken trust token qs
    → OfToken trust token ps → qs ≡ ps
one_of_token trust token qs ps (inl h) (inl g) = one_of_entries Tsa g.0 trust qs ps
    (subst (λ (s : SignerValue). OfEntries Tsa s trust qs) (one_signer token h.0 g.0 h.1 g.1) h.2) g.2
one_of_token trust token qs ps (inl h) (inr g) = absurd (g.0 h.0 h.1)
one_of_token trust token qs ps (inr h) (inl g) = absurd (h.0 g.0 g.1)
one_of_token trust token qs ps (inr h) (inr g) = h.1 ∙ sym g.1

abbrev Both : List EntryValue → SignerValue → List Asked → Type 0
Both trust s qs = Joined (OfEntries Signer s trust) (InOrder (OfToken trust) (tokens s)) qs

abbrev Of : List EntryValue → SignerValue → List Asked → Option (List AttributeValue) → Type 0
Of trust s qs o = MatchOption o (qs ≡ []) (λ _. Both trust s qs)

one_of : (trust : List EntryValue) (s : SignerValue) (qs ps : List Asked) (o : Option (List AttributeValue))
    → Of trust s qs o → Of trust s ps o → qs ≡ ps
one_of trust s qs ps None h g = h ∙ sym g
one_of trust s qs ps (Some attributes) h g =
    one_joined (OfEntries Signer s trust) (InOrder (OfToken trust) (tokens s)) qs ps
    (one_of_entries Signer s trust) (one_list (OfToken trust) (one_of_token trust) (tokens s)) h g

pub one_of_signers : (trust : List EntryValue) (signers : List SignerValue) (qs ps : List Asked)
    → AreQuestions trust signers qs
    → AreQuestions trust signers ps → qs ≡ ps
one_of_signers trust signers qs ps h g =
    one_list (OfSigner trust) (λ s a b x y. one_of trust s a b s.signed_attributes x y) signers qs ps h g

pub one_of_file : FilesHaveOneList
one_of_file trust file qs ps h g = one_of_signers trust g.signed.signers qs ps
    (subst (λ (v : SignedDataValue). AreQuestions trust v.signers qs)
    (one_value file h.signed g.signed h.encodes g.encodes) h.are) g.are

-- ---- some list

same_role : (a b : Role) → Decided (a ≡ b)
same_role a Signer = signing a
same_role a Tsa = stamping a

abbrev Asks : Role → SignerValue → EntryValue → Type 0
Asks role s e = (q : Asked) × IsUnder role s e q

asks : (role : Role) (s : SignerValue) (e : EntryValue) → Decided (Asks role s e)
asks role s e = go s.signed_attributes refl (same_role e.role role) (matches s.sid e.certificate)
  where
    none_is : (attributes : List AttributeValue) → s.signed_attributes ≡ None → s.signed_attributes ≡ Some attributes
        → ⊥
    none_is attributes e h = let z = sym e ∙ h in absurd cc

    go : (o : Option (List AttributeValue)) → s.signed_attributes ≡ o → Decided (e.role ≡ role)
        → Decided (Matches s.sid e.certificate)
        → Decided (Asks role s e)
    go None is d m = inr (λ h. none_is h.1.attributes is h.1.has)
    go (Some attributes) is (inl d) (inl m) =
        inl (
          asked e.certificate s attributes,
          record { has_role = d; matches = m; attributes = attributes; has = is; is = refl },
        )
    go (Some attributes) is (inl d) (inr never) = inr (λ h. never h.1.matches)
    go (Some attributes) is (inr never) m = inr (λ h. never h.1.has_role)

some_of_entry : (role : Role) (s : SignerValue) (e : EntryValue) → (qs : List Asked) × OfEntry role s e qs
some_of_entry role s e = go (asks role s e)
  where
    go : Decided (Asks role s e) → (qs : List Asked) × OfEntry role s e qs
    go (inl h) = (h.0 ∷ [], inl (h.0, h.1, refl))
    go (inr none) = ([], inr (λ q h. none (q, h), refl))

each_entry : (trust : List EntryValue) → AllByRecursion (λ _. ⊤) trust
each_entry [] = tt
each_entry (e ∷ trust) = (tt, each_entry trust)

some_of_entries : (role : Role) (s : SignerValue) (trust : List EntryValue)
    → (qs : List Asked) × OfEntries role s trust qs
some_of_entries role s trust =
    some_list (λ _. ⊤) (OfEntry role s) (λ e _. some_of_entry role s e) trust (each_entry trust)

pub some_of_token : (trust : List EntryValue) (token : List ℕ) → IsBytes token
    → (qs : List Asked) × OfToken trust token qs
some_of_token trust token octets = let r = reading_of token octets in go r.0 r.1
  where
    by : (v : SignedDataValue) → IsReading token (Ok v) → (o : Option SignerValue) → o ≡ only v.signers
        → (qs : List Asked) × OfToken trust token qs
    by v is None e = ([], inr (other_number token v is e, refl))
    by v is (Some s) e = let l = some_of_entries Tsa s trust in (l.0, inl (s, sole token v s is e, l.1))

    go : (r : Result SignedDataValue CmsFault) → IsReading token r → (qs : List Asked) × OfToken trust token qs
    go (Ok v) is = by v is (only v.signers) refl
    go (Err f) is = ([], inr (unread_none token f is, refl))

some_of_signer : (trust : List EntryValue) (s : SignerValue) → SignerOctets s → (qs : List Asked) × OfSigner trust s qs
some_of_signer trust s octets = go s.signed_attributes
  where
    go : (o : Option (List AttributeValue)) → (qs : List Asked) × Of trust s qs o
    go None = ([], refl)
    go (Some attributes) =
        let own = some_of_entries Signer s trust in
        let stamps = some_list IsBytes (OfToken trust) (some_of_token trust) (tokens s) octets.each_token in
        (_, record { first = own.0; is_first = own.1; others = stamps.0; are_others = stamps.1; is = refl })

-- signers that were read have a list, whatever file they are of
pub some_of_signers : (trust : List EntryValue) (ss : List SignerValue) → IsBytes (signers_parts ss)
    → (qs : List Asked) × AreQuestions trust ss qs
some_of_signers trust ss octets =
    some_list SignerOctets (OfSigner trust) (some_of_signer trust) ss (signers_octets ss octets)

pub some_of_file : FilesHaveQuestions
some_of_file trust file v octets encodes =
    let l = some_list SignerOctets (OfSigner trust) (some_of_signer trust) v.signers
    (signed_octets file v encodes octets).signers in
    (l.0, record { signed = v; encodes = encodes; are = l.1 })

pub some_of_alone : TokensHaveQuestions
some_of_alone trust token v octets encodes = let l = some_of_token trust token octets in
    (l.0, record { signed = v; encodes = encodes; are = l.1 })

pub one_of_alone : TokensHaveOneList
one_of_alone trust token qs ps h g = one_of_token trust token qs ps h.are g.are

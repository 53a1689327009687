-- Questions by the entries as they count are questions by the list.
use Rattle.std.proofs.Common.{◌≡◌, ◌∙◌, ℕ, List, map, ap, sym, subst, inl, inr}
use Rattle.cms_types.specs.SignerValue.{SignerValue}
use Rattle.cert_types.specs.CertificateValue.{CertificateValue}
use Rattle.trust_lists.specs.Asking.{Asked}
use Rattle.trust_lists.specs.Entries.{EntryValue}
use Rattle.trust_lists.specs.declared.role.Role.{Role}
use Rattle.check_names.specs.Naming.{Matches}
use Rattle.check_verdict.specs.Beside.{beside}
use Rattle.check_verdict.specs.Trusted.{asked}
use Rattle.check_verdict.specs.Questions.{IsAbout, IsAboutToken}
use Rattle.check_under.specs.Laws.{QuestionsUnder}
use Rattle.check_under.proofs.Mapped.{of_map}

about : (trust : List EntryValue) (k : ℕ) (role : Role) (s : SignerValue) (q : Asked)
    → IsAbout (map (beside k) trust) role s q → IsAbout trust role s q
about trust k role s q a =
    let x = of_map k trust a.entry a.trusted in
    let same : x.0.certificate ≡ a.entry.certificate = ap (λ (e : EntryValue). e.certificate) x.2 in
    record {
      attributes = a.attributes;
      has = a.has;
      entry = x.0;
      trusted = x.1;
      has_role = ap (λ (e : EntryValue). e.role) x.2 ∙ a.has_role;
      matches = subst (λ (c : CertificateValue). Matches s.sid c) (sym same) a.matches;
      is = a.is ∙ ap (λ (c : CertificateValue). asked c s a.attributes) (sym same);
    }

about_token : (trust : List EntryValue) (k : ℕ) (token : List ℕ) (q : Asked)
    → IsAboutToken (map (beside k) trust) token q → IsAboutToken trust token q
about_token trust k token q a = record {
  signed = a.signed;
  encodes = a.encodes;
  signer = a.signer;
  one_signer = a.one_signer;
  about = about trust k _ a.signer q a.about;
}

pub questions_under : QuestionsUnder
questions_under trust k file q a = record {
  signed = a.signed;
  encodes = a.encodes;
  signer = a.signer;
  among = a.among;
  attributes = a.attributes;
  has = a.has;
  about = elim a.about [
    | inl o ↦ inl (about trust k _ a.signer q o)
    | inr o ↦ inr (o.0, o.1, about_token trust k o.0 q o.2)
  ];
}

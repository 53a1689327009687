-- A text has one answer as a trust list.
use Rattle.std.proofs.Common.{◌≡◌, ℕ, true, false, List, [], ◌∷◌, ◌++◌, Option, Some, None, Ok, Err, refl, sym, ap}
use Rattle.std.proofs.Common.{subst, ◌∙◌, append_assoc, append-nil, inl}
use Rattle.std.proofs.Common.{inr, ◌⊎◌}
use Rattle.cert_types.specs.CertificateValue.{EncodesCertificate}
use Rattle.cert_types.proofs.CertificateReaders.{certificate_unique}
use Rattle.trust_lists.specs.declared.trust_fault.TrustFault.{TrustFault}
use Rattle.trust_lists.specs.declared.trust_fault.TrustRule.{TrustRule}
use Rattle.trust_lists.specs.declared.trust_fault.TrustRule.TheVariants as rule
use Rattle.trust_lists.specs.declared.trust_version.Version.{Version}
use Rattle.trust_lists.specs.declared.trust_version.Version.TheVariants.{First, Second}
use Rattle.trust_lists.specs.Entries.{EntryValue}
use Rattle.trust_lists.specs.Periods.{is_backwards}
use Rattle.list_answers.specs.Texts.{NumberedLine}
use Rattle.trust_lists.specs.TrustText.{LineFields, fields_of, entry_from, SaysEntry, FailsRule, HasForm, BeginsWell}
use Rattle.trust_lists.specs.TrustText.{Answer, behind, IsOfLines, IsUnder}
use Rattle.trust_lists.specs.TrustText.{IsTrust}

pub behind_none : (r : Answer) → behind [] r ≡ r
behind_none (Ok others) = refl
behind_none (Err f) = refl

pub behind_all : (es : List EntryValue) → behind es (Ok []) ≡ Ok es
behind_all es = ap Ok (append-nil es)

pub behind_more : (es ds : List EntryValue) (r : Answer) → behind (es ++ ds) r ≡ behind es (behind ds r)
behind_more es ds (Ok others) = ap Ok (append_assoc es ds others)
behind_more es ds (Err f) = refl

same_fields : (version : Version) (line : List ℕ) (f g : LineFields) → fields_of version line ≡ Some f
    → fields_of version line ≡ Some g → f ≡ g
same_fields version line f g p q = let k : Some f ≡ Some g = sym p ∙ q in cc

same_entry : (version : Version) (line : List ℕ) (d e : EntryValue) → SaysEntry version line d
    → SaysEntry version line e → d ≡ e
same_entry version line d e p q =
    let f = same_fields version line p.fields q.fields p.says q.says in
    let c : d.certificate ≡ e.certificate = certificate_unique q.fields.octets d.certificate e.certificate
    (subst (λ (x : LineFields). EncodesCertificate x.octets d.certificate) f p.encodes) q.encodes in
    p.is ∙ (λ i. entry_from (f i) (c i)) ∙ sym q.is

-- a line that says an entry fails no rule
says_or_fails : (version : Version) (line : List ℕ) (e : EntryValue) (r : TrustRule) → SaysEntry version line e
    → FailsRule version line r → ⊥
says_or_fails version line e rule.Line p q = let k : Some p.fields ≡ None = sym p.says ∙ q in cc
says_or_fails version line e rule.Period p q =
    let f = same_fields version line p.fields q.0 p.says q.1 in
    let k : true ≡ false = sym q.2 ∙ subst (λ (x : LineFields). is_backwards x.from x.until ≡ false) f p.forwards in
    cc
says_or_fails version line e rule.Certificate p q =
    let f = same_fields version line p.fields q.0 p.says q.1 in
    q.3 e.certificate (subst (λ (x : LineFields). EncodesCertificate x.octets e.certificate) f p.encodes)
says_or_fails version line e rule.Version p q = q
says_or_fails version line e rule.OutOfMemory p q = q

-- a line fails one rule
one_rule : (version : Version) (line : List ℕ) (r s : TrustRule) → FailsRule version line r → FailsRule version line s
    → r ≡ s
one_rule version line rule.Line rule.Line p q = refl
one_rule version line rule.Line rule.Period p q = absurd (let k : Some q.0 ≡ None = sym q.1 ∙ p in cc)
one_rule version line rule.Line rule.Certificate p q = absurd (let k : Some q.0 ≡ None = sym q.1 ∙ p in cc)
one_rule version line rule.Period rule.Line p q = absurd (let k : Some p.0 ≡ None = sym p.1 ∙ q in cc)
one_rule version line rule.Period rule.Period p q = refl
one_rule version line rule.Period rule.Certificate p q =
    let f = same_fields version line p.0 q.0 p.1 q.1 in
    absurd
    (let k : true ≡ false = sym (subst (λ (x : LineFields). is_backwards x.from x.until ≡ true) f p.2) ∙ q.2 in cc)
one_rule version line rule.Certificate rule.Line p q = absurd (let k : Some p.0 ≡ None = sym p.1 ∙ q in cc)
one_rule version line rule.Certificate rule.Period p q =
    let f = same_fields version line q.0 p.0 q.1 p.1 in
    absurd
    (let k : true ≡ false = sym (subst (λ (x : LineFields). is_backwards x.from x.until ≡ true) f q.2) ∙ p.2 in cc)
one_rule version line rule.Certificate rule.Certificate p q = refl
one_rule version line rule.Version s p q = absurd p
one_rule version line rule.OutOfMemory s p q = absurd p
one_rule version line r rule.Version p q = absurd q
one_rule version line r rule.OutOfMemory p q = absurd q

one_of_lines : (version : Version) (ls : List NumberedLine) (a b : Answer) → IsOfLines version ls a
    → IsOfLines version ls b → a ≡ b
one_of_lines version [] a b p q = p ∙ sym q
one_of_lines version (l ∷ ls) a b (inl p) (inl q) =
    let e = same_entry version l.octets p.0 q.0 p.1 q.1 in
    let o = one_of_lines version ls p.2.0 q.2.0 p.2.1 q.2.1 in
    p.2.2 ∙ (λ i. behind (e i ∷ []) (o i)) ∙ sym q.2.2
one_of_lines version (l ∷ ls) a b (inl p) (inr q) = absurd (says_or_fails version l.octets p.0 q.0 p.1 q.1)
one_of_lines version (l ∷ ls) a b (inr p) (inl q) = absurd (says_or_fails version l.octets q.0 p.0 q.1 p.1)
one_of_lines version (l ∷ ls) a b (inr p) (inr q) = let r = one_rule version l.octets p.0 q.0 p.1 q.1 in
    p.2 ∙ (λ i. Err (record { rule = r i; line = l.number })) ∙ sym q.2

one_under : (first second : Option (List NumberedLine)) (a b : Answer) → IsUnder first second a → IsUnder first second b
    → a ≡ b
one_under (Some ls) second a b p q = one_of_lines First ls a b p q
one_under None (Some ls) a b p q = one_of_lines Second ls a b p q
one_under None None a b p q = p ∙ sym q

pub one_answer : (text : List ℕ) (a b : Answer) → IsTrust text a → IsTrust text b → a ≡ b
one_answer text a b p q = one_under _ _ a b p q

-- ---- the loop over lines: an answer about the lines that are left, behind the entries so far, is one about all

abbrev pub Goes : Version → (all left : List NumberedLine) → (found : List EntryValue) → Type 0
Goes version all left found = (rest : Answer) → IsOfLines version left rest → IsOfLines version all (behind found rest)

pub at_end : (version : Version) (all left : List NumberedLine) (found : List EntryValue) → left ≡ []
    → Goes version all left found
    → IsOfLines version all (Ok found)
at_end version all left found e goes =
    let last : IsOfLines version left (Ok []) =
    subst (λ (ls : List NumberedLine). IsOfLines version ls (Ok [])) (sym e) refl in
    subst (λ (r : Answer). IsOfLines version all r) (behind_all found) (goes (Ok []) last)

-- where the first line that is left is l, of which m is the value
module _ (version : Version) (all left others : List NumberedLine) (l m : NumberedLine) (is : left ≡ l ∷ others)
    (same : m ≡ l) where
  pub goes_on : (found found' : List EntryValue) (e : EntryValue) → found' ≡ found ++ e ∷ []
      → SaysEntry version m.octets e → Goes version all left found
      → Goes version all others found'
  goes_on found found' e pushed says goes = λ rest h.
      let says_l : SaysEntry version l.octets e =
      subst (λ (x : NumberedLine). SaysEntry version x.octets e) same says in
      let here : IsOfLines version (l ∷ others) (behind (e ∷ []) rest) = inl (e, says_l, (rest, h, refl)) in
      let all_here : IsOfLines version all (behind found (behind (e ∷ []) rest)) = goes (behind (e ∷ []) rest)
      (subst (λ (ls : List NumberedLine). IsOfLines version ls (behind (e ∷ []) rest)) (sym is) here) in
      subst (λ (r : Answer). IsOfLines version all r)
      (sym (behind_more found (e ∷ []) rest) ∙ ap (λ (es : List EntryValue). behind es rest) (sym pushed)) all_here

  pub stops_here : (found : List EntryValue) (r : TrustRule) (f : TrustFault)
      → (r ≡ rule.OutOfMemory) ⊎ FailsRule version m.octets r
      → (r ≡ rule.OutOfMemory → f ≡ record { rule = r; line = 0 })
      → ((r ≡ rule.OutOfMemory → ⊥) → f ≡ record { rule = r; line = m.number })
      → Goes version all left found → (f ≡ record { rule = rule.OutOfMemory; line = 0 }) ⊎ IsOfLines version all (Err f)
  stops_here found r f (inl want) none at goes = inl (none want ∙ (λ i. record { rule = want i; line = 0 }))
  stops_here found r f (inr fails) none at goes =
      let known : f ≡ record { rule = r; line = m.number } =
      at (λ e. subst (λ (x : TrustRule). FailsRule version m.octets x) e fails) in
      let here : IsOfLines version (l ∷ others) (Err f) = inr (
        r,
        subst (λ (x : NumberedLine). FailsRule version x.octets r) same fails,
        (λ i. Err (known i)) ∙ (λ i. Err (record { rule = r; line = (same i).number })),
      ) in
      inr (goes (Err f) (subst (λ (ls : List NumberedLine). IsOfLines version ls (Err f)) (sym is) here))

  -- a line that is left has the form of an entry, so the first one has, as far as the lines before it stated entries
  pub begins_well : HasForm version m.octets → (BeginsWell version left → BeginsWell version all)
      → BeginsWell version all
  begins_well form begun =
      begun (subst (λ (ls : List NumberedLine). BeginsWell version ls) (sym is)
      (subst (λ (x : NumberedLine). HasForm version x.octets) same form))

-- ---- where memory is refused, the first line has the form of an entry

pub says_form : (version : Version) (line : List ℕ) (e : EntryValue) → SaysEntry version line e → HasForm version line
says_form version line e says = (says.fields, says.says, says.forwards)

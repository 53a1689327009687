-- Each file is accepted or refused.
use Rattle.std.proofs.Common.{◌≡◌, ℕ, zero, suc, ◌+◌, ◌-◌, ◌<◌, Bool, true, false, cond, List, [], ◌∷◌, take, length}
use Rattle.std.proofs.Common.{All, Option, Some, None, Result, Ok, Err}
use Rattle.std.proofs.Common.{refl, sym, ap, subst, ◌∙◌, arith, inl, inr, ◌⊎◌}
use Rattle.std.specs.Prelude.{Any, Contains, slice_get, is_some, ◌==◌}
use Rattle.std.specs.List.{AllByRecursion}
use Rattle.std.proofs.lemmas.Bool.{eqb-false}
use Rattle.der_core.specs.Element.{IsBytes}
use Rattle.cms_types.specs.AttributeValue.{AttributeValue}
use Rattle.cms_types.specs.SignerValue.{SignerValue}
use Rattle.cms_types.specs.SignedDataValue.{SignedDataValue, EncodesSignedData}
use Rattle.cms_types.specs.declared.fault.CmsFault.{CmsFault}
use Rattle.check_fit.specs.declared.rules.FileRule.TheVariants as file_rule
use Rattle.check_fit.specs.declared.rules.SignerRule.{SignerRule}
use Rattle.check_fit.specs.declared.rules.SignerRule.TheVariants as rule
use Rattle.check_fit.specs.declared.rules.TokenRule.{TokenRule}
use Rattle.check_fit.specs.declared.rules.Refused.{Refused}
use Rattle.check_fit.specs.declared.rules.Refused.TheVariants as refused
use Rattle.check_fit.specs.Fitting.{Fits, signer_answer}
use Rattle.check_fit.specs.FileFitting.{IsReading, placed, file_rules}
use Rattle.trust_lists.specs.Entries.{EntryValue}
use Rattle.check_verdict.specs.Trusted.{Holds}
use Rattle.check_verdict.specs.Passing.{Terms, of_octets, Passes}
use Rattle.check_verdict.specs.Verdicts.{tokens, IsStamped, SignedUnder, IsMoment, IsLeast, SignerPasses, IsContent}
use Rattle.check_verdict.specs.Verdicts.{Accepts, Yes, IsSigners, IsNamedSigners}
use Rattle.check_verdict.specs.Verdicts.{LeftForSigner, signer_filter, Signs, SignerFails, TokensFail, FirstBad}
use Rattle.check_verdict.specs.Verdicts.{Refuses}
use Rattle.check_verdict.specs.Laws.{FilesAreJudged}
use Rattle.check_verdict.proofs.Lists.{along, any_never}
use Rattle.check_fit.proofs.FitLaw.{fit_is}
use Rattle.check_fit.proofs.Octets.{ValuesAreOctets, SignerOctets, SignedOctets, signed_octets}
use Rattle.check_names.proofs.Deciding.{Decided, both, in_words, names_if_any}
use Rattle.check_verdict.proofs.Deciding.{signing, matches, holds, vouched, less, find_any, run}
use Rattle.check_verdict.proofs.Extremes.{Below, least_of, greatest_of}
use Rattle.check_verdict.proofs.Tokens as tokens_law
use Rattle.check_verdict.proofs.Verdicts.{file_refusal}
use Rattle.check_fit.proofs.Readings.{reading_of}
use Rattle.check_verdict.proofs.TokensGiven.{attributes_of, pass_or_fail}

pub member : {A : Type 0} (P : A → Type 0) (xs : List A) (x : A) → AllByRecursion P xs → Contains xs x → P x
member P [] x h (i, within, is) = absurd (omega (arith, within))
member P (y ∷ xs) x h (zero, within, is) = subst P is h.0
member P (y ∷ xs) x h (suc i, within, is) = member P xs x h.1 (i, omega (arith, within), is)

-- ---- what is asked of a moment with which a token passes

abbrev PassesSo : Terms → (stamped : List ℕ) → (ℕ → Type 0) → List ℕ → Type 0
PassesSo t stamped Q token = (m : ℕ) × Passes t token stamped m × Q m

passes_so : (t : Terms) (token stamped : List ℕ) (Q : ℕ → Type 0) → IsBytes token → ((m : ℕ) → Decided (Q m))
    → Decided (PassesSo t stamped Q token)
passes_so t token stamped Q fits decide = elim (pass_or_fail t token (of_octets stamped) fits) [
  | inr fails ↦ inr (λ h. tokens_law.never_both t token (of_octets stamped) h.0 fails.0 h.1 fails.1)
  | inl passes ↦ in_words (λ q. (passes.0, passes.1, q))
      (λ h. subst Q (tokens_law.one_moment t token (of_octets stamped) h.0 passes.0 h.1 passes.1) h.2) (decide passes.0)
]

-- a token of the signer passes with such a moment
abbrev StampedSo : Terms → SignerValue → (ℕ → Type 0) → Type 0
StampedSo t s Q = (m : ℕ) × IsStamped t s m × Q m

stamped_so : (t : Terms) (s : SignerValue) (Q : ℕ → Type 0) → SignerOctets s → ((m : ℕ) → Decided (Q m))
    → Decided (StampedSo t s Q)
stamped_so t s Q octets decide = elim (find_any (PassesSo t s.signature Q) (tokens s)
    (λ token c. passes_so t token s.signature Q (member IsBytes (tokens s) token octets.each_token c) decide)) [
      | inl any ↦ inl (found any)
      | inr none ↦ inr (λ h. any_never (PassesSo t s.signature Q) (tokens s)
          (along (λ token. Passes t token s.signature h.0) (PassesSo t s.signature Q) (tokens s)
          (λ token c p. (h.0, p, h.2)) h.1) none)
    ]
  where
    found : Any (PassesSo t s.signature Q) (tokens s) → StampedSo t s Q
    found (i, token, within, is, so) = (so.0, (i, token, within, is, so.1), so.2)

abbrev Always : ℕ → Type 0
Always m = Unit {0}

-- whether a token passes at all
stamped : (t : Terms) (s : SignerValue) → SignerOctets s → Decided (StampedSo t s Always)
stamped t s octets = stamped_so t s Always octets (λ m. inl tt)

-- ---- the filters

period : (t : Terms) (s : SignerValue) (e : EntryValue) → SignerOctets s
    → Decided ((n : ℕ) → IsStamped t s n → (m : ℕ) × IsStamped t s m × Holds e m)
period t s e octets = elim (stamped_so t s (Holds e) octets (holds e)) [
  | inl h ↦ inl (λ n k. h)
  | inr none ↦ elim (stamped t s octets) [
    | inl some ↦ inr (λ f. none (f some.0 some.1))
    | inr never ↦ inl (λ n k. absurd (never (n, k, tt)))
  ]
]

signers : (t : Terms) (s : SignerValue) (e : EntryValue) → SignerOctets s → Decided (IsSigners t s e)
signers t s e octets = in_words (λ ((role, same), period). record { role = role; matches = same; period = period })
    (λ h. ((h.role, h.matches), h.period))
    (both (both (signing e.role) (matches s.sid e.certificate)) (period t s e octets))

named_signers : (t : Terms) (s : SignerValue) (attributes : List AttributeValue) (e : EntryValue) → SignerOctets s
    → ValuesAreOctets attributes
    → Decided (IsNamedSigners t s attributes e)
named_signers t s attributes e octets values =
    both (signers t s e octets) (names_if_any attributes e.certificate values)

left : (t : Terms) (s : SignerValue) (attributes : List AttributeValue) → SignerOctets s → ValuesAreOctets attributes
    → (k : ℕ) (e : EntryValue)
    → Decided (LeftForSigner t s attributes k e)
left t s attributes octets values zero e = inl tt
left t s attributes octets values (suc zero) e = signers t s e octets
left t s attributes octets values (suc (suc zero)) e = named_signers t s attributes e octets values
left t s attributes octets values (suc (suc (suc n))) e =
    both (named_signers t s attributes e octets values) (vouched t e s attributes)

-- ---- moments

under : (t : Terms) (s : SignerValue) (attributes : List AttributeValue) (m : ℕ) (e : EntryValue)
    → ValuesAreOctets attributes
    → Decided (SignedUnder t s attributes m e)
under t s attributes m e values =
    in_words (λ ((role, same), (named, (period, vouched))).
    record { role = role; matches = same; named = named; period = period; vouched = vouched })
    (λ u. ((u.role, u.matches), (u.named, (u.period, u.vouched))))
    (both (both (signing e.role) (matches s.sid e.certificate))
    (both (names_if_any attributes e.certificate values) (both (holds e m) (vouched t e s attributes))))

some_under : (t : Terms) (s : SignerValue) (attributes : List AttributeValue) (m : ℕ) → ValuesAreOctets attributes
    → Decided (Any (SignedUnder t s attributes m) t.trust)
some_under t s attributes m values =
    elim (find_any (SignedUnder t s attributes m) t.trust (λ e c. under t s attributes m e values)) [
      | inl any ↦ inl any
      | inr none ↦ inr (λ any. any_never (SignedUnder t s attributes m) t.trust any none)
    ]

same_attributes : (a b : List AttributeValue) (o : Option (List AttributeValue)) → o ≡ Some a → o ≡ Some b → a ≡ b
same_attributes a b o e h = let z = sym e ∙ h in cc

below : (t : Terms) (s : SignerValue) (attributes : List AttributeValue) → s.signed_attributes ≡ Some attributes
    → SignerOctets s
    → ValuesAreOctets attributes → (n : ℕ) → Decided (Below (IsMoment t s) n)
below t s attributes has octets values n =
    in_words (λ (m, stamped, (less, entry)).
    (m, less, record { stamped = stamped; attributes = attributes; has = has; entry = entry }))
    (λ h. (
      h.0,
      h.2.stamped,
      (
        h.1,
        subst (λ (xs : List AttributeValue). Any (SignedUnder t s xs h.0) t.trust)
            (same_attributes h.2.attributes attributes s.signed_attributes h.2.has has) h.2.entry,
      ),
    ))
    (stamped_so t s (λ m. (m < n) × Any (SignedUnder t s attributes m) t.trust) octets
    (λ m. both (less m n) (some_under t s attributes m values)))

-- where an entry is left and a token passes, there is a moment
moment_of : (t : Terms) (s : SignerValue) (attributes : List AttributeValue) → s.signed_attributes ≡ Some attributes
    → Any (LeftForSigner t s attributes 3) t.trust → StampedSo t s Always → (m : ℕ) × IsMoment t s m
moment_of t s attributes has (i, e, within, is, ((p, named), vouched)) some =
    let (m, stamped, holds) = p.period some.0 some.1 in (
      m,
      record {
        stamped = stamped;
        attributes = attributes;
        has = has;
        entry = (
          i,
          e,
          within,
          is,
          record { role = p.role; matches = p.matches; named = named; period = holds; vouched = vouched },
        );
      },
    )

-- ---- a signer

abbrev Good : Terms → (content econtent_type : List ℕ) → SignerValue → Type 0
Good t content econtent_type s = (n : ℕ) × SignerPasses t content econtent_type s n

abbrev Bad : Terms → (content econtent_type : List ℕ) → SignerValue → Type 0
Bad t content econtent_type s = ((failed : SignerRule) × SignerFails t content econtent_type s failed)
    ⊎ ((failed : TokenRule) × TokensFail t content econtent_type s 1 failed)

tokens_fail : (t : Terms) (content econtent_type : List ℕ) (s : SignerValue) → SignerOctets s
    → Signs t content econtent_type s
    → (StampedSo t s Always → ⊥) → (xs : List (List ℕ)) → tokens s ≡ xs → Bad t content econtent_type s
tokens_fail t content econtent_type s octets signs never [] e = inl (rule.NoToken, inr (inr (signs, e, refl)))
tokens_fail t content econtent_type s octets signs never (first ∷ others) e =
    let among : Contains (tokens s) first =
    subst (λ (xs : List (List ℕ)). Contains xs first) (sym e) (0, omega arith, refl) in
    elim (pass_or_fail t first (of_octets s.signature) (member IsBytes (tokens s) first octets.each_token among)) [
      | inl passes ↦ absurd (never (passes.0, (among.0, first, among.1, among.2, passes.1), tt))
      | inr fails ↦ inr (
        fails.0,
        record {
          signs = signs;
          none = λ m k. never (m, k, tt);
          first = first;
          others = others;
          are = e;
          is_first = refl;
          fails = fails.1;
        },
      )
    ]

fitting_signer : (t : Terms) (content econtent_type : List ℕ) (s : SignerValue) → SignerOctets s
    → Fits t.policy content econtent_type s
    → Good t content econtent_type s ⊎ Bad t content econtent_type s
fitting_signer t content econtent_type s octets fits =
    let values = attributes_of s fits.attributes fits.present octets in
    elim (run (LeftForSigner t s fits.attributes) 3 t.trust (omega arith) (left t s fits.attributes octets values)) [
      | inr stops ↦ inr (inl (
        signer_filter stops.0,
        inr (inl (record {
          fits = fits;
          attributes = fits.attributes;
          has = fits.present;
          filter = stops.0;
          stops = stops.1;
          is = refl;
        })),
      ))
      | inl any ↦ elim (stamped t s octets) [
        | inr never ↦ inr (tokens_fail t content econtent_type s octets
            (record { fits = fits; attributes = fits.attributes; has = fits.present; entry = any }) never
            (tokens s) refl)
        | inl some ↦
            let m = moment_of t s fits.attributes fits.present any some in
            let least = least_of (IsMoment t s) (below t s fits.attributes fits.present octets values) m.0 m.0
            (omega arith) m.1 in
            inl (least.0, record { fits = fits; earliest = least.1 })
      ]
    ]

pub judged_signer : (t : Terms) (content econtent_type : List ℕ) (s : SignerValue) → SignerOctets s
    → Good t content econtent_type s ⊎ Bad t content econtent_type s
judged_signer t content econtent_type s octets = go (signer_answer t.policy content econtent_type s) refl
  where
    go : (r : Result (Unit {0}) SignerRule) → signer_answer t.policy content econtent_type s ≡ r
        → Good t content econtent_type s ⊎ Bad t content econtent_type s
    go (Ok u) e = fitting_signer t content econtent_type s octets (fit_is t.policy content econtent_type s u e)
    go (Err failed) e = inr (inl (failed, inl e))

-- ---- the signers

record FirstOf (P Q : SignerValue → Type 0) (xs : List SignerValue) : Type 0 where
  pub number : ℕ
  pub before : All P (take number xs)
  pub signer : SignerValue
  pub is : slice_get xs number ≡ Some signer
  pub bad : Q signer

all_cons : (P : SignerValue → Type 0) (x : SignerValue) (xs : List SignerValue) → P x → All P xs → All P (x ∷ xs)
all_cons P x xs p h zero d lt = p
all_cons P x xs p h (suc k) d lt = h k d (omega (arith, lt))

first_of_list : (P Q R : SignerValue → Type 0) (xs : List SignerValue) → AllByRecursion R xs
    → ((x : SignerValue) → R x → P x ⊎ Q x)
    → AllByRecursion P xs ⊎ FirstOf P Q xs
first_of_list P Q R [] h judge = inl tt
first_of_list P Q R (x ∷ xs) h judge = elim (judge x h.0) [
  | inr bad ↦
      inr (record { number = 0; before = λ k d lt. absurd (omega (arith, lt)); signer = x; is = refl; bad = bad })
  | inl good ↦ elim (first_of_list P Q R xs h.1 judge) [
    | inl rest ↦ inl (good, rest)
    | inr f ↦ inr (record {
      number = suc f.number;
      before = all_cons P x (take f.number xs) good f.before;
      signer = f.signer;
      is = f.is;
      bad = f.bad;
    })
  ]
]

all_by_index : (P : SignerValue → Type 0) (xs : List SignerValue) → AllByRecursion P xs → All P xs
all_by_index P [] h = λ k d lt. absurd (omega (arith, lt))
all_by_index P (x ∷ xs) h = all_cons P x xs h.0 (all_by_index P xs h.1)

one_least : (P : ℕ → Type 0) (m n : ℕ) → IsLeast P m → IsLeast P n → m ≡ n
one_least P m n h k = omega (arith, h.least n k.has, k.least m h.has)

accepted : (t : Terms) (content econtent_type : List ℕ) (xs : List SignerValue) → (length xs ≡ 0 → ⊥)
    → AllByRecursion (Good t content econtent_type) xs → (m : ℕ) × Accepts t content econtent_type xs m
accepted t content econtent_type [] some h = absurd (some refl)
accepted t content econtent_type (x ∷ xs) some h =
    let g = greatest_of (λ (s : SignerValue) (n : ℕ). SignerPasses t content econtent_type s n)
    (λ s m n p q. one_least (IsMoment t s) m n p.earliest q.earliest) x xs h in
    (g.0, record { each = all_by_index (Good t content econtent_type) (x ∷ xs) h; latest = g.1 })

first_bad : (t : Terms) (content econtent_type : List ℕ) (xs : List SignerValue) (Q R : SignerValue → Type 0)
    (f : FirstOf (Good t content econtent_type) Q xs) → R f.signer
    → FirstBad t content econtent_type xs (f.number + 1) R
first_bad t content econtent_type xs Q R f bad =
    let z : f.number ≡ f.number + 1 - 1 = omega arith in
    record {
      counts = omega arith;
      before = subst (λ (n : ℕ). All (Good t content econtent_type) (take n xs)) z f.before;
      signer = f.signer;
      is = subst (λ (n : ℕ). slice_get xs n ≡ Some f.signer) z f.is;
      bad = bad;
    }

-- ---- the file

abbrev refusal : Refused → Result SignedDataValue Refused
refusal r = Err r

abbrev Judged : Terms → (file : List ℕ) → (handed : Option (List ℕ)) → Type 0
Judged t file handed = ((m : ℕ) × Yes t file handed m) ⊎ ((r : Refused) × Refuses t file handed r)

content_of : (v w : SignedDataValue) (own handed : Option (List ℕ)) → placed v own (is_some handed) ≡ Ok w
    → (content : List ℕ) × IsContent own handed content
content_of v w None None e = absurd cc
content_of v w None (Some x) e = (x, refl)
content_of v w (Some y) None e = (y, refl)
content_of v w (Some y) (Some x) e = absurd cc

by_signers : (t : Terms) (file : List ℕ) (handed : Option (List ℕ)) (v : SignedDataValue) (content : List ℕ)
    → EncodesSignedData file v
    → IsContent v.encapsulated.content handed content → (length v.signers ≡ 0 → ⊥) → SignedOctets v
    → Judged t file handed
by_signers t file handed v content encodes is some octets =
    let econtent_type : List ℕ = v.encapsulated.content_type in
    elim (first_of_list (Good t content econtent_type)
    (Bad t content econtent_type) SignerOctets v.signers octets.signers
    (judged_signer t content econtent_type)) [
      | inl good ↦ (let a = accepted t content econtent_type v.signers some good in
          inl (a.0, record { signed = v; encodes = encodes; content = content; is_content = is; accepts = a.1 }))
      | inr f ↦ elim f.bad [
        | inl bad ↦ inr (
          refused.Signer (f.number + 1) bad.0,
          (
            v,
            encodes,
            content,
            is,
            first_bad t content econtent_type v.signers (Bad t content econtent_type)
                (λ s. SignerFails t content econtent_type s bad.0) f bad.1,
          ),
        )
        | inr bad ↦ inr (
          refused.Token (f.number + 1) 1 bad.0,
          (
            v,
            encodes,
            content,
            is,
            first_bad t content econtent_type v.signers (Bad t content econtent_type)
                (λ s. TokensFail t content econtent_type s 1 bad.0) f bad.1,
          ),
        )
      ]
    ]

by_rules : (t : Terms) (file : List ℕ) (handed : Option (List ℕ)) → IsBytes file
    → (reading : Result SignedDataValue CmsFault)
    → IsReading file reading → (r : Result SignedDataValue Refused) → file_rules reading (is_some handed) ≡ r
    → Judged t file handed
by_rules t file handed fits reading reads (Err failed) e =
    (let f = file_refusal file reading (is_some handed) failed reads e in
    inr (refused.File f.0, (reading, reads, e ∙ ap refusal f.1)))
by_rules t file handed fits (Err f) reads (Ok w) e = absurd cc
by_rules t file handed fits (Ok v) reads (Ok w) e = go (length v.signers == 0) refl e
  where
    go : (b : Bool) → (length v.signers == 0) ≡ b
        → cond b (refusal (refused.File file_rule.NoSigner)) (placed v v.encapsulated.content (is_some handed)) ≡ Ok w
        → Judged t file handed
    go true z k = absurd cc
    go false z k =
        let c = content_of v w v.encapsulated.content handed k in
        by_signers t file handed v c.0 reads c.1 (λ none. absurd (eqb-false (length v.signers) 0 z none))
        (signed_octets file v reads fits)

pub files_are_judged : FilesAreJudged
files_are_judged t file handed fits =
    let r = reading_of file fits in by_rules t file handed fits r.0 r.1 (file_rules r.0 (is_some handed)) refl

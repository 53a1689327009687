-- What the rules ask of an entry can be decided.
use Rattle.std.proofs.Common.{◌≡◌, ℕ, zero, suc, ◌+◌, ◌<◌, ◌≤◌, ◌^◌, List, [], ◌∷◌, length, All, Option, Some, None}
use Rattle.std.proofs.Common.{refl, subst, arith, inl, inr, ◌⊎◌}
use Rattle.std.specs.Prelude.{Any, Contains, IsSomeAnd}
use Rattle.std.proofs.lemmas.Bool.{cases_lt}
use Rattle.der_core.specs.declared.flag.Flag.{Flag}
use Rattle.der_core.specs.declared.flag.Flag.TheVariants as flag
use Rattle.der_core.specs.Element.{el, IsElement}
use Rattle.der_grammar.specs.Table.{id_subject_key_identifier, id_ext_key_usage}
use Rattle.cert_types.specs.CertificateValue.{CertificateValue}
use Rattle.cert_types.specs.ExtensionValue.{ExtensionValue}
use Rattle.cert_types.specs.Purposes.{extension_of, id_time_stamping, IsStampingOnly}
use Rattle.der_time.specs.TimeValue.{moment_of}
use Rattle.cms_types.specs.AttributeValue.{AttributeValue}
use Rattle.cms_types.specs.SignerValue.{SignerValue, SidValue, IssuerAndSerial, KeyId}
use Rattle.trust_lists.specs.declared.role.Role.{Role}
use Rattle.trust_lists.specs.Entries.{EntryValue}
use Rattle.trust_lists.specs.declared.role.Role.TheVariants.{Signer, Tsa}
use Rattle.check_verdict.specs.Trusted.{Holds, asked}
use Rattle.check_names.specs.Naming.{Matches}
use Rattle.check_verdict.specs.Filters.{StopsAt}
use Rattle.check_verdict.specs.Passing.{Terms, Vouched}
use Rattle.check_names.proofs.Deciding.{Decided, both, in_words, is_true, octets_same, if_some}

pub less : (m n : ℕ) → Decided (m < n)
less m n = elim (cases_lt m n) [ inl lt ↦ inl lt | inr ge ↦ inr (λ lt. absurd (omega (arith, lt, ge))) ]

at_most : (m n : ℕ) → Decided (m ≤ n)
at_most m n = elim (cases_lt n m) [ inl lt ↦ inr (λ le. absurd (omega (arith, lt, le))) | inr ge ↦ inl ge ]

some_and : {A : Type 0} (P : A → Type 0) (o : Option A) → ((x : A) → Decided (P x)) → Decided (IsSomeAnd o P)
some_and P None d = inr (λ h. h)
some_and P (Some x) d = d x

-- one of a list, or none
pub find_any : {A : Type 0} (P : A → Type 0) (xs : List A) → ((x : A) → Contains xs x → Decided (P x))
    → Any P xs ⊎ All (λ x. P x → ⊥) xs
find_any P [] d = inr (λ k e lt. absurd (omega (arith, lt)))
find_any {A} P (x ∷ xs) d =
    go (d x (0, omega arith, refl)) (find_any P xs (λ y c. d y (suc c.0, omega (arith, c.1), c.2)))
  where
    none : (P x → ⊥) → All (λ y. P y → ⊥) xs → All (λ y. P y → ⊥) (x ∷ xs)
    none nay rest zero e lt = nay
    none nay rest (suc k) e lt = rest k e (omega (arith, lt))

    go : Decided (P x) → Any P xs ⊎ All (λ y. P y → ⊥) xs → Any P (x ∷ xs) ⊎ All (λ y. P y → ⊥) (x ∷ xs)
    go (inl p) rest = inl (0, x, omega arith, refl, p)
    go (inr nay) (inl (i, y, within, is, p)) = inl (suc i, y, omega (arith, within), is, p)
    go (inr nay) (inr rest) = inr (none nay rest)

-- ---- an entry

pub signing : (r : Role) → Decided (r ≡ Signer)
signing Signer = inl refl
signing Tsa = inr (λ e. absurd cc)

pub stamping : (r : Role) → Decided (r ≡ Tsa)
stamping Signer = inr (λ e. absurd cc)
stamping Tsa = inl refl

pub matches : (sid : SidValue) (c : CertificateValue) → Decided (Matches sid c)
matches (IssuerAndSerial issuer serial) c = both (octets_same c.tbs.issuer issuer) (octets_same c.tbs.serial serial)
matches (KeyId id) c = some_and (λ (e : ExtensionValue). IsElement 0x04 id × (e.value ≡ el 0x04 id))
    (extension_of id_subject_key_identifier c) (λ e.
    both (in_words (λ lt. record { identifier = refl; size = lt }) (λ h. h.size) (less (length id) (2 ^ 32)))
    (octets_same e.value (el 0x04 id)))

critical : (f : Flag) → Decided (f ≡ flag.True)
critical flag.Absent = inr (λ e. absurd cc)
critical flag.False = inr (λ e. absurd cc)
critical flag.True = inl refl

pub stamping_only : (c : CertificateValue) → Decided (IsStampingOnly c)
stamping_only c =
    some_and (λ (e : ExtensionValue). (e.critical ≡ flag.True) × (e.value ≡ el 0x30 (el 0x06 id_time_stamping)))
    (extension_of id_ext_key_usage c)
    (λ e. both (critical e.critical) (octets_same e.value (el 0x30 (el 0x06 id_time_stamping))))

pub holds : (e : EntryValue) (m : ℕ) → Decided (Holds e m)
holds e m = in_words (λ ((from, until), (since, to)).
    record { valid_from = from; valid_until = until; trusted_from = since; trusted_until = to })
    (λ h. ((h.valid_from, h.valid_until), (h.trusted_from, h.trusted_until)))
    (both (both (at_most (moment_of e.certificate.tbs.validity.from) m)
    (at_most m (moment_of e.certificate.tbs.validity.until)))
    (both (if_some (λ first. first ≤ m) e.from (λ first. at_most first m))
    (if_some (λ last. m ≤ last) e.until (λ last. at_most m last))))

pub vouched : (t : Terms) (e : EntryValue) (s : SignerValue) (attributes : List AttributeValue)
    → Decided (Vouched t e s attributes)
vouched t e s attributes = is_true (t.vouches (asked e.certificate s attributes))

-- ---- filters

-- an entry is left after the last filter, or they stop
pub run : {E : Type 0} (Left : ℕ → E → Type 0) (total : ℕ) (es : List E) → 0 < total
    → ((k : ℕ) (e : E) → Decided (Left k e))
    → Any (Left total) es ⊎ ((n : ℕ) × StopsAt Left total es n)
run {E} Left total es some decide = from total 0 (omega arith) (λ lt. absurd (omega (arith, lt)))
  where
    from : (d n : ℕ) → n + d ≡ total → (0 < n → Any (Left n) es)
        → Any (Left total) es ⊎ ((k : ℕ) × StopsAt Left total es k)
    from zero n e left = let z : n ≡ total = omega (arith, e) in
        inl (subst (λ (k : ℕ). Any (Left k) es) z (left (omega (arith, some, z))))
    from (suc d) n e left = elim (find_any (Left (n + 1)) es (λ x c. decide (n + 1) x)) [
      | inl any ↦ from d (n + 1) (omega (arith, e)) (λ lt. any)
      | inr none ↦ inr (n, record { within = omega (arith, e); left = left; none = none })
    ]

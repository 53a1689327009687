-- When an entry holds that counts beside a record, and which entries are found among those that do.
use Rattle.std.proofs.Common.{◌≡◌, ◌∙◌, ◌↔◌, ℕ, suc, ◌≤◌, Bool, true, false, List, length, map, Option, Some, None}
use Rattle.std.proofs.Common.{refl, sym, subst, ap, arith}
use Rattle.std.specs.Prelude.{IsTrue, IfSome, option_map}
use Rattle.std.specs.Cmp.Derive.{both_true}
use Rattle.std.specs.List.{slice_get}
use Rattle.std.proofs.lemmas.Bool.{leb-true, le-leb}
use Rattle.std.proofs.lemmas.List.{length-map}
use Rattle.std.proofs.lemmas.Option.{slice_get-map}
use Rattle.der_core.proofs.Refuted.{and_true}
use Rattle.der_time.specs.TimeValue.{moment_of}
use Rattle.cms_types.specs.SignerValue.{SidValue}
use Rattle.check_names.specs.Naming.{Matches}
use Rattle.trust_lists.specs.Entries.{EntryValue}
use Rattle.trust_lists.specs.declared.role.Role.{Role}
use Rattle.trust_lists.specs.declared.role.Role.TheVariants.{Signer, Tsa}
use Rattle.trust_lists.specs.Marks.{NoneFrom, IsNext}
use Rattle.check_verdict.specs.Trusted.{Holds}
use Rattle.check_verdict.specs.Beside.{is_from, is_until, does_hold, from_beside, until_beside, beside}
use Rattle.check_verdict.specs.Beside.{counted, counting}

from_says : (from : Option ℕ) (m : ℕ) → is_from from m ≡ true → IfSome from (λ first. first ≤ m)
from_says None m e = tt
from_says (Some first) m e = leb-true first m e

says_from : (from : Option ℕ) (m : ℕ) → IfSome from (λ first. first ≤ m) → is_from from m ≡ true
says_from None m le = refl
says_from (Some first) m le = le-leb first m le

until_says : (until : Option ℕ) (m : ℕ) → is_until until m ≡ true → IfSome until (λ last. m ≤ last)
until_says None m e = tt
until_says (Some last) m e = leb-true m last e

says_until : (until : Option ℕ) (m : ℕ) → IfSome until (λ last. m ≤ last) → is_until until m ≡ true
says_until None m le = refl
says_until (Some last) m le = le-leb m last le

pub holding : (e : EntryValue) (m : ℕ) → does_hold e m ≡ true → Holds e m
holding e m h =
    let all = and_true _ _ h in
    let valid = and_true _ _ all.0 in
    let period = and_true (is_from e.from m) (is_until e.until m) all.1 in
    record {
      valid_from = leb-true (moment_of e.certificate.tbs.validity.from) m valid.0;
      valid_until = leb-true m (moment_of e.certificate.tbs.validity.until) valid.1;
      trusted_from = from_says e.from m period.0;
      trusted_until = until_says e.until m period.1;
    }

pub held : (e : EntryValue) (m : ℕ) → Holds e m → does_hold e m ≡ true
held e m h = both_true
    (both_true (le-leb (moment_of e.certificate.tbs.validity.from) m h.valid_from)
    (le-leb m (moment_of e.certificate.tbs.validity.until) h.valid_until))
    (both_true (says_from e.from m h.trusted_from) (says_until e.until m h.trusted_until))

pub tests_holding : (e : EntryValue) (m : ℕ) → IsTrue (does_hold e m) ↔ Holds e m
tests_holding e m = (holding e m, held e m)

-- ---- by its role

until_before : (until : Option ℕ) (m k : ℕ) → m ≤ k → IfSome until (λ last. k ≤ last) → IfSome until (λ last. m ≤ last)
until_before None m k le h = tt
until_before (Some last) m k le h = omega (arith, le, h)

abbrev FromIs : ℕ → Option ℕ → Type 0
FromIs m from = IfSome from (λ first. first ≤ m)

abbrev UntilIs : ℕ → Option ℕ → Type 0
UntilIs m until = IfSome until (λ last. m ≤ last)

module _ (k m : ℕ) (e : EntryValue) (is_tsa : e.role ≡ Tsa) where
  until_is : until_beside k e.role e.until ≡ Some k
  until_is = ap (λ (r : Role). until_beside k r e.until) is_tsa

  from_is : (b : Bool) → does_hold e k ≡ b → from_beside k e.role (does_hold e k) e.from ≡ from_beside k Tsa b e.from
  from_is b at = ap (λ (r : Role). from_beside k r (does_hold e k) e.from) is_tsa
      ∙ ap (λ (x : Bool). from_beside k Tsa x e.from) at

  counts_then : (b : Bool) → does_hold e k ≡ b → Holds (beside k e) m → Holds e m × Holds e k × (m ≤ k)
  counts_then true at h =
      let le : m ≤ k = subst (UntilIs m) until_is h.trusted_until in
      let then = holding e k at in (
        record {
          valid_from = h.valid_from;
          valid_until = h.valid_until;
          trusted_from = subst (FromIs m) (from_is true at) h.trusted_from;
          trusted_until = until_before e.until m k le then.trusted_until;
        },
        then,
        le,
      )
  counts_then false at h =
      let le : m ≤ k = subst (UntilIs m) until_is h.trusted_until in
      let after : suc k ≤ m = subst (FromIs m) (from_is false at) h.trusted_from in
      absurd (omega (arith, le, after))

  counts_if : Holds e m → Holds e k → m ≤ k → Holds (beside k e) m
  counts_if h then le = record {
    valid_from = h.valid_from;
    valid_until = h.valid_until;
    trusted_from = subst (FromIs m) (sym (from_is true (held e k then))) h.trusted_from;
    trusted_until = subst (UntilIs m) (sym until_is) le;
  }

pub authorities_beside : (k m : ℕ) (e : EntryValue) → e.role ≡ Tsa
    → Holds (beside k e) m ↔ (Holds e m × Holds e k × (m ≤ k))
authorities_beside k m e is =
    (counts_then k m e is (does_hold e k) refl, λ h. counts_if k m e is h.0 h.1 h.2)

pub signers_beside : (k m : ℕ) (e : EntryValue) → e.role ≡ Signer → Holds (beside k e) m ↔ Holds e m
signers_beside k m e is =
    let from : from_beside k e.role (does_hold e k) e.from ≡ e.from =
    ap (λ (r : Role). from_beside k r (does_hold e k) e.from) is in
    let until : until_beside k e.role e.until ≡ e.until = ap (λ (r : Role). until_beside k r e.until) is in (
      λ h. record {
        valid_from = h.valid_from;
        valid_until = h.valid_until;
        trusted_from = subst (FromIs m) from h.trusted_from;
        trusted_until = subst (UntilIs m) until h.trusted_until;
      },
      λ h. record {
        valid_from = h.valid_from;
        valid_until = h.valid_until;
        trusted_from = subst (FromIs m) (sym from) h.trusted_from;
        trusted_until = subst (UntilIs m) (sym until) h.trusted_until;
      },
    )

-- ---- in a list

mapped : (k : ℕ) (o : Option EntryValue) (e : EntryValue) → option_map (beside k) o ≡ Some e
    → (x : EntryValue) × (o ≡ Some x) × (beside k x ≡ e)
mapped k None e h = absurd cc
mapped k (Some x) e h = let same : beside k x ≡ e = cc in (x, refl, same)

-- what stands at a place of the entries as they count
pub stands_beside : (k : ℕ) (es : List EntryValue) (i : ℕ) (e : EntryValue) → slice_get (map (beside k) es) i ≡ Some e
    → (x : EntryValue) × (slice_get es i ≡ Some x) × (beside k x ≡ e)
stands_beside k es i e is = mapped k (slice_get es i) e (sym (slice_get-map (beside k) es i) ∙ is)

pub counted_at : (shown : Option ℕ) (es : List EntryValue) (i : ℕ) (e : EntryValue) → slice_get es i ≡ Some e
    → slice_get (counting shown es) i ≡ Some (counted shown e)
counted_at None es i e is = is
counted_at (Some k) es i e is =
    slice_get-map (beside k) es i ∙ ap (λ (o : Option EntryValue). option_map (beside k) o) is

pub as_many : (shown : Option ℕ) (es : List EntryValue) → length (counting shown es) ≡ length es
as_many None es = refl
as_many (Some k) es = length-map es (beside k)

-- the next one that can be a signer's is the next one of those
abbrev pub IsMatched : Role → SidValue → EntryValue → Type 0
IsMatched role sid e = (e.role ≡ role) × Matches sid e.certificate

none_beside : (k : ℕ) (role : Role) (sid : SidValue) (es : List EntryValue) (first last : ℕ)
    → NoneFrom (IsMatched role sid) es first last → NoneFrom (IsMatched role sid) (map (beside k) es) first last
none_beside k role sid es first last none i e ge lt is p =
    let x = stands_beside k es i e is in
    none i x.0 ge lt x.1 (subst (IsMatched role sid) (sym x.2) p)

pub next_counted : (shown : Option ℕ) (role : Role) (sid : SidValue) (es : List EntryValue) (first : ℕ)
    (found : Option ℕ) → IsNext (IsMatched role sid) es first found
    → IsNext (IsMatched role sid) (counting shown es) first found
next_counted None role sid es first found h = h
next_counted (Some k) role sid es first None h =
    subst (λ (n : ℕ). NoneFrom (IsMatched role sid) (map (beside k) es) first n) (sym (length-map es (beside k)))
    (none_beside k role sid es first (length es) h)
next_counted (Some k) role sid es first (Some at) h = (
  h.0,
  omega (arith, h.1, length-map es (beside k)),
  none_beside k role sid es first at h.2,
)

-- Filters over the entries that a signer's identifier can match, while the others are passed over.
use Rattle.std.proofs.Common.{◌≡◌, ◌∙◌, ℕ, suc, ◌+◌, ◌<◌, ◌≤◌, max, List, length, get_or, take, Some, sym, ap, subst}
use Rattle.std.proofs.Common.{arith}
use Rattle.std.specs.Prelude.{Contains, slice_get}
use Rattle.std.proofs.lemmas.List.{take_all}
use Rattle.std.proofs.lemmas.Option.{get_or_from_slice_get}
use Rattle.cms_types.specs.SignerValue.{SidValue}
use Rattle.check_names.specs.Naming.{Matches}
use Rattle.trust_lists.specs.Entries.{EntryValue}
use Rattle.trust_lists.specs.declared.role.Role.{Role}
use Rattle.trust_lists.specs.Marks.{NoneFrom, IsNext}
use Rattle.check_verdict.specs.Filters.{Comes, Best}
use Rattle.check_verdict.proofs.Lists.{from_get}
use Rattle.check_verdict.proofs.Stages.{best_of_next, best_of_skipped}

-- what stands at a place of a list stands there in the same list
pub stands_at : (es trust : List EntryValue) → es ≡ trust → (i : ℕ) (e : EntryValue) → e ≡ get_or es i e
    → e ≡ get_or trust i e
stands_at es trust same i e is = is ∙ ap (λ (xs : List EntryValue). get_or xs i e) same

-- and is among its entries
pub entry_among : (es trust all : List EntryValue) → es ≡ trust → trust ≡ all → (i : ℕ) (e : EntryValue)
    → e ≡ get_or es i e → i < length trust → Contains all e
entry_among es trust all same same' i e is lt =
    subst (λ (xs : List EntryValue). Contains xs e) same' (i, lt, sym (stands_at es trust same i e is))

-- what stands there, if something does, is among the entries of the same list
pub entry_there : (trust all : List EntryValue) → trust ≡ all → (i : ℕ) (e : EntryValue) → slice_get trust i ≡ Some e
    → Contains all e
entry_there trust all same i e is = subst (λ (xs : List EntryValue). Contains xs e) same (from_get trust i e is)

-- which has this role, and whose certificate this identifier matches
abbrev pub IsMatched : Role → SidValue → EntryValue → Type 0
IsMatched role sid e = (e.role ≡ role) × Matches sid e.certificate

module _ (Left : ℕ → EntryValue → Type 0) (total : ℕ) (trust : List EntryValue) (role : Role) (found sid : SidValue)
    (is_sid : found ≡ sid)
    (falls : (j : ℕ) (x : EntryValue) → Left (suc j) x → Left j x)
    (first : (x : EntryValue) → Left 1 x → IsMatched role sid x) where
  others : (from at : ℕ) → NoneFrom (IsMatched role found) trust from at → NoneFrom (Left 1) trust from at
  others from at none i x ge lt is p =
      none i x ge lt is (subst (λ (s : SidValue). IsMatched role s x) (sym is_sid) (first x p))

  -- one that was found
  module _ (from at n k : ℕ) (e : EntryValue) where
    pub best_of_found : IsNext (IsMatched role found) trust from (Some at) → slice_get trust at ≡ Some e
        → Best Left total (take from trust) n → Comes Left total e k → Best Left total (take (at + 1) trust) (max n k)
    best_of_found (le, lt, none) is b c = best_of_next Left total trust at n k e falls lt
        (sym (get_or_from_slice_get trust at e e is))
        (best_of_skipped Left total trust from at n falls le (omega (arith, lt)) (others from at none) b) c

  -- none is left
  pub best_of_rest : (from n : ℕ) → from ≤ length trust → NoneFrom (IsMatched role found) trust from (length trust)
      → Best Left total (take from trust) n
      → Best Left total trust n
  best_of_rest from n le none b =
      subst (λ (es : List EntryValue). Best Left total es n) (take_all (length trust) trust (omega arith))
      (best_of_skipped Left total trust from (length trust) n falls le (omega arith)
      (others from (length trust) none) b)

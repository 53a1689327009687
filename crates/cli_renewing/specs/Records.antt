-- Records that are renewed one after the other, each in its place, whatever names them and whatever becomes of them:
-- what is tested, what is put, and where it stops.
use Rattle.std.specs.Prelude.{◌≡◌, ◌⊎◌, ℕ, List, [], ◌∷◌, ◌++◌, Option, None, Some, IfSome}
use Rattle.std.specs.List.{AllByRecursion, AllZip}
use Rattle.evidence_making.specs.declared.fault.MakeFault.TheVariants as make
use Rattle.cli_failures.specs.declared.failure.Failure.{Failure}
use Rattle.cli_failures.specs.declared.failure.Failure.TheVariants as failure
use Rattle.cli_failures.specs.Files.{IsUnread}
use Rattle.cli_making.specs.Adding.{Adds}
use Rattle.cli_renewing.specs.Keeping.{Kept, Ways, kept}

-- What is to be done, where each record is named by one of these: the path of its file; that a record becomes new
-- octets, or is renewed already, and stays; that the new one would be longer than an element can be; and that the tree
-- isn't over the record.
pub record Renewal (A : Type 0) : Type 1 where
  pub path : A → List ℕ
  pub Becomes : A → (octets : List ℕ) → (new : Option (List ℕ)) → Type 0
  pub IsTooLong : A → (octets : List ℕ) → Type 0
  pub IsOutside : A → (octets : List ℕ) → Type 0

-- ---- one record

-- so becomes the record that was read from its file
pub record IsNewAt {A : Type 0} (ways : Ways) (r : Renewal A) (x : A) (new : Option (List ℕ)) : Type 0 where
  pub octets : List ℕ
  pub read : ways.read (kept (r.path x) octets)
  pub becomes : r.Becomes x octets new

-- a test found that its file can be replaced, and what the record becomes
pub record IsTested {A : Type 0} (ways : Ways) (r : Renewal A) (x : A) : Type 0 where
  pub can : ways.can (r.path x)
  pub new : Option (List ℕ)
  pub is : IsNewAt ways r x new

-- the record became new octets, which were put; or it is renewed already
abbrev pub IsPut : {A : Type 0} → Ways → Renewal A → A → (new : Option (List ℕ)) → Type 0
IsPut ways r x new = IsNewAt ways r x new × IfSome new (λ octets. ways.did (kept (r.path x) octets))

-- U10: the new record would be longer than an element can be
abbrev pub IsTooLongAt : {A : Type 0} → Ways → Renewal A → A → Failure → Type 0
IsTooLongAt ways r x f = (f ≡ failure.Unmade make.TooLong)
    × ((octets : List ℕ) × ways.read (kept (r.path x) octets) × r.IsTooLong x octets)

-- the file doesn't hold any more what it held: the record that was read from it is one of these; the failure is that it
-- can't be read
abbrev pub IsChangedAt : {A : Type 0} → Ways → Renewal A → (Other : A → (octets : List ℕ) → Type 0) → A → Failure
    → Type 0
IsChangedAt ways r Other x f = IsUnread (r.path x) f
    × ((octets : List ℕ) × ways.read (kept (r.path x) octets) × Other x octets)

-- memory ran out, or the file of this path can't be read or put
abbrev pub FailsAt : Ways → (path : List ℕ) → Failure → Type 0
FailsAt ways path f = (f ≡ failure.Memory) ⊎ (ways.unread path f ⊎ ways.unput path f)

-- why a test finds that a record can't be renewed, or put into its place: U10; the tree isn't over it any more; or that
abbrev pub IsUntestedAt : {A : Type 0} → Ways → Renewal A → A → Failure → Type 0
IsUntestedAt ways r x f = IsTooLongAt ways r x f
    ⊎ (IsChangedAt ways r (λ y octets. r.IsOutside y octets) x f ⊎ FailsAt ways (r.path x) f)

-- why a record isn't put, once all were tested: the tree isn't over it any more, or the new one would be too long; or
-- that
abbrev pub IsUnputAt : {A : Type 0} → Ways → Renewal A → A → Failure → Type 0
IsUnputAt ways r x f = IsChangedAt ways r (λ y octets. r.IsOutside y octets ⊎ r.IsTooLong y octets) x f
    ⊎ FailsAt ways (r.path x) f

-- ---- all records

-- each was tested so
abbrev pub AreTested : {A : Type 0} → Ways → Renewal A → List A → Type 0
AreTested ways r xs = AllByRecursion (λ x. IsTested ways r x) xs

-- a test found of the first of these that it can't be renewed, or put into its place
pub record IsUntested {A : Type 0} (ways : Ways) (r : Renewal A) (xs : List A) (f : Failure) : Type 0 where
  pub front : List A
  pub x : A
  pub others : List A
  pub all : xs ≡ front ++ x ∷ others
  pub tested : AreTested ways r front
  pub why : IsUntestedAt ways r x f

-- the files that are put: of each the new octets, where there are some
abbrev pub puts_of : {A : Type 0} → (path : A → List ℕ) → List A → (news : List (Option (List ℕ))) → List Kept
puts_of path [] news = []
puts_of path (x ∷ xs) [] = []
puts_of path (x ∷ xs) (None ∷ news) = puts_of path xs news
puts_of path (x ∷ xs) (Some octets ∷ news) = kept (path x) octets ∷ puts_of path xs news

-- of each such new octets, where it isn't renewed already, in their order; and these were put, and no other file
pub record ArePut {A : Type 0} (ways : Ways) (before after : Option (List Kept)) (r : Renewal A) (xs : List A)
    (news : List (Option (List ℕ))) : Type 0 where
  pub each : AllZip (λ x new. IsPut ways r x new) xs news
  pub put : Adds before after (puts_of r.path xs news)

-- of one
pub record IsPutAt {A : Type 0} (ways : Ways) (before after : Option (List Kept)) (r : Renewal A) (x : A) : Type 0 where
  pub new : Option (List ℕ)
  pub is : IsPut ways r x new
  pub put : Adds before after (puts_of r.path (x ∷ []) (new ∷ []))

-- those before one were put, and no others, and that one failed
pub record StopsAtPut {A : Type 0} (ways : Ways) (before after : Option (List Kept)) (r : Renewal A) (xs : List A)
    (f : Failure) : Type 0 where
  pub front : List A
  pub x : A
  pub others : List A
  pub all : xs ≡ front ++ x ∷ others
  pub news : List (Option (List ℕ))
  pub made : ArePut ways before after r front news
  pub why : IsUnputAt ways r x f

-- How opening, reading and writing a file fails, what is read of one, and what is put below a folder.
use Rattle.std.specs.Prelude.{◌≡◌, ◌≢◌, ◌⊎◌, ◌++◌, ⊤, ℕ, List, Option, IfSome, codes}
use Rattle.std.specs.Borrow.{Bor}
use Rattle.std.specs.String.{string_bytes}
use Rattle.std.specs.Io.KnownBytes.{Appends}
use Rattle.lines_shown.specs.ResponseLines.{shown_text}
use Rattle.cli_failures.specs.declared.failure.Failure.{Failure}
use Rattle.cli_failures.specs.declared.failure.Failure.TheVariants as failure
use Rattle.cli_failures.specs.declared.failure.Failure.TheVariants.{Open, Read, Size, Memory}
use Rattle.cli_failures.specs.declared.folder.Found.{Found}
use Rattle.cli_failures.specs.declared.folder.Found.TheVariants as found

-- the failure if a file can't be opened, which names the file, or memory ran out
abbrev pub IsFailureToOpen : (path : Bor (List ℕ)) → Failure → Type 0
IsFailureToOpen path f = (f ≡ Memory) ⊎ (f ≡ Open path)

-- the failure if a file can't be read, which names the file, or memory ran out
abbrev pub IsFailureToRead : (path : Bor (List ℕ)) → Failure → Type 0
IsFailureToRead path f = (f ≡ Memory) ⊎ ((f ≡ Open path) ⊎ ((f ≡ Read path) ⊎ (f ≡ Size path)))

-- these are all the octets of a file that was opened, if it is known what such a file holds
abbrev pub IsHeld : {F : Type 0} → (holds : F → Option (List ℕ)) → (octets : List ℕ) → Type 0
IsHeld {F} holds octets = (file : F) × IfSome (holds file) (λ held. octets ≡ held)

-- a file that was opened holds other octets than these, if it is known what such a file holds
abbrev pub HoldsOther : {F : Type 0} → (holds : F → Option (List ℕ)) → (octets : List ℕ) → Type 0
HoldsOther {F} holds octets = (file : F) × IfSome (holds file) (λ held. octets ≢ held)

-- ---- below a folder

-- the path of the file that is put below a folder by a name: FOLDER/NAME.ers
abbrev pub path_below : (folder name : List ℕ) → List ℕ
path_below folder name = folder ++ codes "/" ++ name ++ codes ".ers"

-- the octets are there as they should be: a file that was opened holds them, or took them after what it held, if it is
-- known what such a file holds
abbrev pub IsPut : {F : Type 0} → (holds contents : F → Option (List ℕ)) → (octets : List ℕ) → Type 0
IsPut {F} holds contents octets =
    IsHeld holds octets ⊎ ((before : F) × (after : F) × Appends (contents before) (contents after) octets)

-- what is found where octets would be put: nothing, a file that holds them, or a file that holds others
abbrev pub IsFound : {F : Type 0} → (holds : F → Option (List ℕ)) → (octets : List ℕ) → Found → Type 0
IsFound holds octets found.Nothing = ⊤
IsFound holds octets found.Same = IsHeld holds octets
IsFound holds octets found.Other = HoldsOther holds octets

-- the same of one file that was opened, and holds this if that is known
abbrev pub IsFoundIn : (held : Option (List ℕ)) → (octets : List ℕ) → Found → Type 0
IsFoundIn held octets found.Nothing = ⊥
IsFoundIn held octets found.Same = IfSome held (λ h. octets ≡ h)
IsFoundIn held octets found.Other = IfSome held (λ h. octets ≢ h)

-- the failure names this path, as it is shown, of a file that can't be opened
abbrev pub IsUnopened : (path : List ℕ) → Failure → Type 0
IsUnopened path (failure.Unopened named) = string_bytes named ≡ shown_text path
IsUnopened path _ = ⊥

-- the failure names this path, as it is shown, of a file that can't be read
abbrev pub IsUnread : (path : List ℕ) → Failure → Type 0
IsUnread path (failure.Unread named) = string_bytes named ≡ shown_text path
IsUnread path _ = ⊥

-- the failure names this path, as it is shown, of a file that is too long to be read whole
abbrev pub IsOversized : (path : List ℕ) → Failure → Type 0
IsOversized path (failure.Oversized named) = string_bytes named ≡ shown_text path
IsOversized path _ = ⊥

-- the failure if the file of this path can't be read whole, which names it as it is shown; or memory ran out
abbrev pub IsFailureToReadShown : (path : List ℕ) → Failure → Type 0
IsFailureToReadShown path f = (f ≡ Memory) ⊎ (IsUnopened path f ⊎ (IsUnread path f ⊎ IsOversized path f))

-- the failure names this path, as it is shown, where octets can't be written
abbrev pub IsUnput : (path : List ℕ) → Failure → Type 0
IsUnput path (failure.Unput named) = string_bytes named ≡ shown_text path
IsUnput path _ = ⊥

-- the failure names this path, as it is shown, where a file is that is not replaced
abbrev pub IsTaken : (path : List ℕ) → Failure → Type 0
IsTaken path (failure.Taken named) = string_bytes named ≡ shown_text path
IsTaken path _ = ⊥

-- the failure if the file of this path can't be replaced, which names it as it is shown; or memory ran out
abbrev pub IsFailureToReplaceShown : (path : List ℕ) → Failure → Type 0
IsFailureToReplaceShown path f = (f ≡ Memory) ⊎ IsUnput path f

-- the failure if octets can't be put below a folder, which names the file: it can't be written, or it is there and
-- holds others; or memory ran out
abbrev pub IsFailureBelow : {F : Type 0} → (holds : F → Option (List ℕ)) → (folder name octets : List ℕ) → Failure
    → Type 0
IsFailureBelow holds folder name octets f = (f ≡ Memory)
    ⊎ (IsUnput (path_below folder name) f ⊎ (IsTaken (path_below folder name) f × HoldsOther holds octets))

-- A file that is read, and may be read again from its front. `position` is the position of an open file, if that is
-- known, `remaining` what it has left, and `says` what it may say of itself.
use Rattle.std.specs.Prelude.{◌≡◌, ◌⊎◌, ℕ, List, [], Option, Some, None, Result, IfSome, IsSome, is_some, unwrap_or}
use Rattle.std.specs.declared.fs.Metadata.{Metadata}
use Rattle.std.specs.Fs.{IsFile, file_type, metadata_len}
use Rattle.devices.specs.Device.{AreOctets}
use Rattle.check_fit.specs.declared.rules.Refused.{Refused}
use Rattle.check_stream.specs.StreamVerdicts.{OfStream}
use Rattle.cli_commands.specs.Rooms.{IsLimit}

-- it is known what an open file has left, and these are octets
abbrev pub IsKnown : (held : Option (List ℕ)) → Type 0
IsKnown held = IsSome held × AreOctets (unwrap_or held [])

-- the file went back to its front: if its position was known, it is now 0
abbrev pub IsAtFront : {F : Type 0} → (position : F → Option ℕ) → F → Type 0
IsAtFront {F} position file = (before : F) × IfSome (position before) (λ _. position file ≡ Some 0)

-- a file from which nothing was read since it was opened, or since it went back to its front
abbrev pub IsUnread : {F : Type 0} → (position : F → Option ℕ) → (opened file : F) → Type 0
IsUnread position opened file = (file ≡ opened) ⊎ IsAtFront position file

-- the verdict of a pass over an open file that has these octets left
abbrev pub OfPassOver : {S : Type 0} → (Judges : List ℕ → Result ℕ Refused → Type 0) → (held : Option (List ℕ))
    → (room count count' : ℕ) → (before after : Option S) → Result ℕ Refused → Type 0
OfPassOver Judges held room count count' before after verdict = OfStream (Judges (unwrap_or held [])) (IsKnown held)
    (unwrap_or held []) room count count' before after verdict

-- the verdict of one pass over the file that was opened, from its position or from its front
abbrev pub OfReading : {F S : Type 0} → (position : F → Option ℕ) → (remaining : F → Option (List ℕ))
    → (Judges : List ℕ → Result ℕ Refused → Type 0) → (opened : F) → (room count count' : ℕ)
    → (before after : Option S) → Result ℕ Refused → Type 0
OfReading {F} position remaining Judges opened room count count' before after verdict = (last : F)
    × IsUnread position opened last × OfPassOver Judges (remaining last) room count count' before after verdict

-- what open files of a type may say of themselves
abbrev pub Sayings : Type 0 → Type 1
Sayings F = F → Option Metadata → Type 0

-- how many octets a file says that it has, if it says of itself that it is a regular file; of anything else, and of a
-- file that says nothing, it is not known that it can be read again
abbrev pub IsStatedBy : (about : Option Metadata) → (stated : Option ℕ) → Type 0
IsStatedBy None stated = stated ≡ None
IsStatedBy (Some about) stated = (IsFile (file_type about) → stated ≡ Some (metadata_len about))
    × (¬ (IsFile (file_type about)) → stated ≡ None)

-- an open file says of itself something by which this is stated
abbrev pub States : {F : Type 0} → (says : Sayings F) → F → (stated : Option ℕ) → Type 0
States says file stated = (about : Option Metadata) × says file about × IsStatedBy about stated

-- the most octets that may be kept of a file that was opened: as many as the words say, and otherwise by whether the
-- file says that it is one that can be read again
abbrev pub IsLimitFor : {F : Type 0} → (says : Sayings F) → (opened : F) → (said : Option ℕ) → (limit : ℕ) → Type 0
IsLimitFor says opened said limit = (stated : Option ℕ) × States says opened stated
    × IsLimit said (is_some stated) limit

-- A pass with too little room changed nothing but the file's place, so one with more room is a reading of the file that
-- was opened.
use Rattle.std.proofs.Common.{◌≡◌, ℕ, List, Option, Some, None, Result, refl, sym, inl, inr, subst}
use Rattle.check_fit.specs.declared.rules.Refused.{Refused}
use Rattle.check_fit.specs.FileFitting.{SourceFacts, OfSource, fails, too_long, read}
use Rattle.check_stream.specs.StreamVerdicts as stream
use Rattle.check_stream.specs.StreamVerdicts.{OfStream, IsTooLong}
use Rattle.check_stream.specs.DeviceVerdicts.{IsJudged, OfDevices, OfHanded, file_fails, no_room, decided}
use Rattle.cli_commands.specs.Rereading.{IsUnread, OfPassOver, OfReading}
use Rattle.cli_commands.proofs.Rereadings.{Kept}

-- no verdict about signers is X3
judged_fits : (result : Result ℕ Refused) → IsJudged result → IsTooLong result → ⊥
judged_fits result judged long = (subst IsJudged long judged).1

source_fits : (tells : Type 0) (rest rest' : List ℕ) (count count' : ℕ) (result : Result ℕ Refused)
    → OfSource (λ content. IsJudged) tells rest rest' count count' result → IsTooLong result → ⊥
source_fits tells rest rest' count count' result (fails raised) e = let no : ⊥ = cc in no
source_fits tells rest rest' count count' result (too_long same more) e = let no : ⊥ = cc in no
source_fits tells rest rest' count count' result (read content most same all none judged) e =
    judged_fits result judged e

handed_fits : {S : Type 0} (facts : SourceFacts S) (before after : Option S) (result : Result ℕ Refused)
    → OfHanded facts before after result
    → IsTooLong result → ⊥
handed_fits facts None after result (same, judged) long = judged_fits result judged long
handed_fits facts (Some s) after result (s', same, of) long =
    source_fits (facts.tells s) (facts.rest s) (facts.rest s') (facts.failures s) (facts.failures s') result of long

-- after X3 the content was not read, and no failure was counted
pub not_touched :
    {S : Type 0} (facts : SourceFacts S) (count count' : ℕ) (before after : Option S) (result : Result ℕ Refused)
    → OfDevices facts count count' before after result → IsTooLong result → (after ≡ before) × (count' ≡ count)
not_touched facts count count' before after result (file_fails raised same) e = absurd (let no : ⊥ = cc in no)
not_touched facts count count' before after result (no_room unraised same) e = (same, unraised)
not_touched facts count count' before after result (decided unraised (inl (failed, is, same, whole))) e =
    absurd (let no : ⊥ = cc in no)
not_touched facts count count' before after result (decided unraised (inr handed)) e =
    absurd (handed_fits facts before after result handed e)

module _ {S : Type 0} (room limit count count' : ℕ) (before after : Option S) where
  -- only X3 depends on the room
  in_any_room : (Says : Result ℕ Refused → Type 0) (tells : Type 0) (octets : List ℕ) (verdict : Result ℕ Refused)
      → (IsTooLong verdict → ⊥)
      → OfStream Says tells octets room count count' before after verdict
      → OfStream Says tells octets limit count count' before after verdict
  in_any_room Says tells octets verdict never (stream.fails raised same) = stream.fails raised same
  in_any_room Says tells octets verdict never (stream.too_long unraised same stated) = absurd (never refl)
  in_any_room Says tells octets verdict never (stream.told unraised says) = stream.told unraised says

  -- a verdict that isn't X3 is that of a reading with any room
  pub read_within : {F : Type 0} (position : F → Option ℕ) (remaining : F → Option (List ℕ)) (opened : F)
      (Judges : List ℕ → Result ℕ Refused → Type 0)
      (verdict : Result ℕ Refused) → (IsTooLong verdict → ⊥)
      → OfReading position remaining Judges opened room count count' before after verdict
      → OfReading position remaining Judges opened limit count count' before after verdict
  read_within position remaining opened Judges verdict never (last, here, pass) =
      (last, here, in_any_room _ _ _ verdict never pass)

module _ {F S : Type 0} (position : F → Option ℕ) (remaining : F → Option (List ℕ)) (opened file : F) (count' : ℕ)
    (after : Option S) where
  still : (last : F) → IsUnread position opened file → IsUnread position file last → IsUnread position opened last
  still last unread (inl e) = subst (λ (f : F). IsUnread position opened f) (sym e) unread
  still last unread (inr front) = inr front

  -- a reading of the file, from which nothing was read that counts
  pub read_on : {V : Type 0} (Judges : V → Option S → List ℕ → Result ℕ Refused → Type 0) (room : ℕ)
      (kept now : Kept V S) (verdict : Result ℕ Refused)
      → IsUnread position opened file → now ≡ kept
      → OfReading position remaining
      (Judges now.asked now.content) file room now.failures count' now.content after verdict
      → OfReading position remaining
      (Judges kept.asked kept.content) opened room kept.failures count' kept.content after verdict
  read_on {V} Judges room kept now verdict unread same (last, here, pass) = (
    last,
    still last unread here,
    subst (λ (k : Kept V S). OfPassOver (Judges k.asked k.content)
        (remaining last) room k.failures count' k.content after verdict) same pass,
  )

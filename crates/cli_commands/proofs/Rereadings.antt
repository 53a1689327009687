-- A pass over a file that went back to its front is a reading of the file that was opened.
use Rattle.std.proofs.Common.{◌≡◌, ℕ, List, Option, Result, Err, refl, inl, inr, subst}
use Rattle.devices.specs.Device.{raised}
use Rattle.check_fit.specs.declared.rules.Refused.{Refused}
use Rattle.check_fit.specs.declared.rules.DeviceFault.TheVariants as device
use Rattle.check_fit.specs.declared.rules.Refused.TheVariants as refused
use Rattle.check_stream.specs.StreamVerdicts.{fails}
use Rattle.cli_commands.specs.Rereading.{IsAtFront, OfPassOver, OfReading}

module _ {F S : Type 0} (position : F → Option ℕ) (remaining : F → Option (List ℕ)) (opened last : F)
    (room count count' : ℕ) (after : Option S) where
  pub read_again :
      (Judges : List ℕ → Result ℕ Refused → Type 0) (between : ℕ) (before : Option S) (verdict : Result ℕ Refused)
      → IsAtFront position last → between ≡ count
      → OfPassOver Judges (remaining last) room between count' before after verdict
      → OfReading position remaining Judges opened room count count' before after verdict
  read_again Judges between before verdict front same read = (
    last,
    inr front,
    subst (λ (n : ℕ). OfPassOver Judges (remaining last) room n count' before after verdict) same read,
  )

  -- the file failed to go back
  pub not_again : (Judges : List ℕ → Result ℕ Refused → Type 0) (before : Option S) → count' ≡ raised count
      → after ≡ before
      → OfReading position remaining Judges opened room count count' before after
      (Err (refused.Device device.ReadFailed))
  not_again Judges before failed same = (opened, inl refl, fails failed same)

-- what a pass that read nothing that counts leaves as it was: what is asked, the content and the count of failures
pub record Kept (V S : Type 0) : Type 0 where
  pub asked : V
  pub content : Option S
  pub failures : ℕ

module _ {F S : Type 0} (position : F → Option ℕ) (remaining : F → Option (List ℕ)) (opened last : F) (room count' : ℕ)
    (after : Option S) where
  -- a pass from the front that comes after one that changed nothing
  pub read_after : {V : Type 0} (Judges : V → Option S → List ℕ → Result ℕ Refused → Type 0) (room' : ℕ)
      (kept now : Kept V S) (verdict : Result ℕ Refused)
      → IsAtFront position last → room' ≡ room → now ≡ kept
      → OfPassOver (Judges now.asked now.content) (remaining last) room' now.failures count' now.content after verdict
      → OfReading position remaining
      (Judges kept.asked kept.content) opened room kept.failures count' kept.content after verdict
  read_after {V} Judges room' kept now verdict front rooms same read =
      read_again position remaining opened last room kept.failures count' after
      (Judges kept.asked kept.content) kept.failures kept.content verdict front refl
      (subst (λ (k : Kept V S).
      OfPassOver (Judges k.asked k.content) (remaining last) room k.failures count' k.content after verdict) same
      (subst (λ (n : ℕ). OfPassOver (Judges now.asked now.content)
      (remaining last) n now.failures count' now.content after verdict) rooms read))

-- A pass with too little room printed nothing, so one with more room prints what a first pass with that room prints.
use Rattle.std.proofs.Common.{◌≡◌, ◌++◌, ◌∙◌, ℕ, List, Option, Some, None, Ok, Err, refl, ap, subst}
use Rattle.std.specs.Io.KnownBytes.{Appends, Keeps}
use Rattle.std.proofs.KnownBytes.{Keeps-trans}
use Rattle.trust_lists.specs.Entries.{EntryValue}
use Rattle.check_questions.specs.declared.fault.QuestionsFault.TheVariants as fault
use Rattle.check_stream.specs.declared.fault.StreamQuestionsFault.TheVariants as stream
use Rattle.check_stream.specs.StreamQuestions.{CountsReads}
use Rattle.cli_commands.specs.Asking.{Attempt, IsTextFor, Takes, AsksPass}
use Rattle.cli_commands.specs.Checking.{IfKnown}

pub kept_then : (before between after : Option (List ℕ)) (bs : List ℕ) → Keeps before between → Appends between after bs
    → Appends before after bs
kept_then None between after bs kept took = tt
kept_then (Some xs) None after bs kept took = absurd kept
kept_then (Some xs) (Some ys) None bs kept took = absurd took
kept_then (Some xs) (Some ys) (Some zs) bs kept took = took ∙ ap (λ l. l ++ bs) kept

module _ (trust : List EntryValue) (held : Option (List ℕ)) where
  -- only X3 depends on the room
  in_any_room : (room limit : ℕ) (r : Attempt) (before after : Option (List ℕ)) → (r ≡ Err stream.TooLong → ⊥)
      → AsksPass trust held room r before after → AsksPass trust held limit r before after
  in_any_room room limit (Ok u) before after fits (took, is) = (took, tt)
  in_any_room room limit (Err (stream.Questions (fault.Malformed f))) before after fits pass = pass
  in_any_room room limit (Err (stream.Questions fault.NotSignedData)) before after fits pass = pass
  in_any_room room limit (Err (stream.Questions fault.WriteFailed)) before after fits pass = pass
  in_any_room room limit (Err stream.ReadFailed) before after fits pass = pass
  in_any_room room limit (Err stream.TooLong) before after fits pass = absurd (fits refl)

  took_after : (r : Attempt) (before between after : Option (List ℕ)) → Keeps before between
      → Takes (IsTextFor trust held) r between after
      → Takes (IsTextFor trust held) r before after
  took_after (Ok u) before between after kept (text, is, took) =
      (text, is, kept_then before between after text kept took)
  took_after (Err (stream.Questions fault.WriteFailed)) before between after kept (text, is, (count, took)) =
      (text, is, (count, kept_then before between after _ kept took))
  took_after (Err (stream.Questions (fault.Malformed f))) before between after kept took =
      Keeps-trans before between after kept took
  took_after (Err (stream.Questions fault.NotSignedData)) before between after kept took =
      Keeps-trans before between after kept took
  took_after (Err stream.ReadFailed) before between after kept took = Keeps-trans before between after kept took
  took_after (Err stream.TooLong) before between after kept took = Keeps-trans before between after kept took

  -- the same of a pass after some that printed nothing
  pub asks_after : (room : ℕ) (r : Attempt) (before between after : Option (List ℕ)) → Keeps before between
      → AsksPass trust held room r between after → AsksPass trust held room r before after
  asks_after room r before between after kept (took, is) = (took_after r before between after kept took, is)

  pub asks_within : (room limit : ℕ) (r : Attempt) (before between after : Option (List ℕ))
      → (r ≡ Err stream.TooLong → ⊥) → Keeps before between
      → AsksPass trust held room r between after → AsksPass trust held limit r before after
  asks_within room limit r before between after fits kept pass =
      asks_after limit r before between after kept (in_any_room room limit r between after fits pass)

  -- a pass with too little room printed nothing
  pub kept_still : (room : ℕ) (r : Attempt) (before between after : Option (List ℕ)) → r ≡ Err stream.TooLong
      → Keeps before between
      → AsksPass trust held room r between after → Keeps before after
  kept_still room r before between after long kept pass =
      Keeps-trans before between after kept
      (subst (λ (x : Attempt). AsksPass trust held room x between after) long pass).0

  -- the file failed to go back to its front
  pub not_again : (limit : ℕ) (before after : Option (List ℕ)) → Keeps before after
      → AsksPass trust held limit (Err stream.ReadFailed) before after
  not_again limit before after kept = (kept, nothing held)
    where
      nothing : (o : Option (List ℕ)) → IfKnown o (λ octets. Unit {0})
      nothing None = tt
      nothing (Some octets) = λ are. tt

-- and no read failed in it
pub unfailed : (r : Attempt) (count count' : ℕ) → r ≡ Err stream.TooLong → CountsReads r count count' → count' ≡ count
unfailed r count count' long counts = subst (λ (x : Attempt). CountsReads x count count') long counts

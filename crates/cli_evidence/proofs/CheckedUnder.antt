-- What is said of a signed file that was checked under an evidence record.
use Rattle.std.proofs.Common.{◌≡◌, ℕ, true, false, List, Option, Result, Ok, Err, inl, inr}
use Rattle.std.specs.Prelude.{IfErr, IfOk, IsSomeAnd, MatchResult}
use Rattle.check_evidence.specs.Grounds.{AlgEnd, Grounds}
use Rattle.check_under.specs.declared.refused.UnderRefused.{UnderRefused}
use Rattle.digests.specs.declared.set.Algs.{Algs}
use Rattle.judge_evidence.specs.RecordVerdicts.{IsWanted}
use Rattle.cli_tasks.specs.declared.task.UnderWords.{UnderWords}
use Rattle.cli_failures.specs.declared.failure.Failure.{Failure}
use Rattle.cli_failures.specs.Files.{IsFailureToRead, IsHeld}
use Rattle.cli_commands.specs.Rooms.{IsLimit}
use Rattle.cli_evidence.specs.Stating.{IsStated}
use Rattle.cli_evidence.specs.Under.{AcceptsUnder, IsCheckedUnder, IsHandedIn, IsRefusalUnder, RefusesRecordUnder}
use Rattle.cli_evidence.specs.Under.{RefusesUnder}
use Rattle.cli_evidence.specs.UnderVerdicts.{IsVerdictWithin, TellsNotUnder, TellsUnder, TellsUnwantedUnder}
use Rattle.cli_evidence.specs.declared.stated.Stated.{Stated}
use Rattle.cli_evidence.proofs.Stating.{grounds, grounds_by, later}
use Rattle.cli_evidence.proofs.Unopened.{unopened_under}

-- ---- before the record is judged

module _ {F : Type 0} (holds : F → Option (List ℕ)) (words : UnderWords) (stated : Stated)
    (is : IsStated holds words.ends.items words.at stated) (f : Failure) where
  pub record_refused : RefusesRecordUnder holds words f → RefusesUnder holds words f
  record_refused fails =
      later holds words.ends.items words.at words.trust words.answers (RefusesRecordUnder holds words) f stated is fails

  module _ (octets : List ℕ) (held : IsHeld holds octets) where
    pub wanted_refused : TellsUnwantedUnder octets f → RefusesUnder holds words f
    wanted_refused (failed, fails, told) =
        record_refused (inr (inl (unopened_under holds octets failed held f fails told)))

    module _ (wanted : Algs) (is_wanted : IsWanted octets (Ok wanted)) where
      pub file_refused : IsFailureToRead words.file f → RefusesUnder holds words f
      file_refused fails = record_refused (inr (inr (octets, wanted, held, is_wanted, inl fails)))

      pub content_refused : IsSomeAnd words.content (λ path. IsFailureToRead path f) → RefusesUnder holds words f
      content_refused fails = record_refused (inr (inr (octets, wanted, held, is_wanted, inr (inl fails))))

      pub signed_refused : IsRefusalUnder holds words f → RefusesUnder holds words f
      signed_refused refuses = record_refused (inr (inr (octets, wanted, held, is_wanted, inr (inr refuses))))

-- ---- the verdict

module _ {F : Type 0} (holds : F → Option (List ℕ)) (words : UnderWords) (stated : Stated)
    (is : IsStated holds words.ends.items words.at stated) (lent : List AlgEnd) (same : lent ≡ stated.ends.items)
    (octets : List ℕ) (held : IsHeld holds octets) (wanted : Algs) (is_wanted : IsWanted octets (Ok wanted))
    (file : List ℕ) (file_held : IsHeld holds file) (handed : Option (List ℕ))
    (content_held : IsHandedIn holds words.content handed) (limit : ℕ) (limits : IsLimit words.buffer true limit)
  where
    abbrev g : Grounds
    g = grounds_by stated lent false

    checked : IsCheckedUnder holds words g octets file handed
    checked = record {
      grounds = grounds holds words.ends.items words.at stated is lent same false;
      record_held = held;
      file_held = file_held;
      content_held = content_held;
    }

    module _ {T : Type 0} (bytes : T → List ℕ) where
      abbrev Told : Result T Failure → Result ℕ UnderRefused → Type 0
      Told r verdict = MatchResult r (λ l. TellsUnder verdict (bytes l)) (TellsNotUnder verdict)

      pub accepts : (verdict : Result ℕ UnderRefused) (r : Result T Failure)
          → IsVerdictWithin g octets file handed limit verdict → Told r verdict
          → IfOk r (λ l. AcceptsUnder holds words (bytes l))
      accepts verdict (Err f) judged told = tt
      accepts (Ok m) (Ok l) judged told = (g, octets, file, handed, m, checked, judged.is, told)
      accepts (Err why) (Ok l) judged told = absurd told

      pub refuses : (verdict : Result ℕ UnderRefused) (r : Result T Failure)
          → IsVerdictWithin g octets file handed limit verdict → Told r verdict
          → IfErr r (RefusesUnder holds words)
      refuses verdict (Ok l) judged told = tt
      refuses (Ok m) (Err f) judged told = inl told
      refuses (Err why) (Err f) judged told =
          signed_refused holds words stated is f octets held wanted is_wanted
          (g, octets, file, handed, why, checked, judged.is, (limit, limits, judged.fault), told)

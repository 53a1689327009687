-- What is said of a file that was checked in a pass over its source.
use Rattle.std.proofs.Common.{◌≡◌, ℕ, Bool, List, Option, Some, None, Result, Ok, Err, refl, inl, inr, subst}
use Rattle.std.specs.Prelude.{MatchResult, IfOk, IfErr, is_some}
use Rattle.devices.specs.Device.{AreOctets}
use Rattle.der_core.specs.OpenFaults.{FaultsOpenly}
use Rattle.der_core.specs.Grammar.{file}
use Rattle.der_grammar.specs.Table.{content_info}
use Rattle.trust_lists.specs.Asking.{Asked, is_among}
use Rattle.trust_lists.specs.Entries.{EntryValue}
use Rattle.check_fit.specs.declared.policy.Policy.{Policy}
use Rattle.check_fit.specs.declared.rules.Refused.{Refused}
use Rattle.check_verdict.specs.Checking.{ChecksStream}
use Rattle.check_verdict.specs.Passing.{Terms}
use Rattle.check_verdict.specs.TokenVerdicts.{terms_of}
use Rattle.check_verdict.specs.Verdicts.{Judges}
use Rattle.check_stream.specs.StreamVerdicts.{fails, too_long, told}
use Rattle.cli_tasks.specs.declared.task.CheckWords.{CheckWords}
use Rattle.cli_failures.specs.declared.failure.Failure.{Failure}
use Rattle.cli_commands.specs.Judging.{JudgesFile, IsContentHeld}
use Rattle.cli_commands.specs.Lists.{IsTrustOf, IsAnswersOf}
use Rattle.cli_commands.specs.Fit.{TellsUnfit}
use Rattle.cli_commands.specs.Checking.{IsTerms, JudgesCheck, JudgesStream, IfKnown, TellsAccepted, ShowsAccepted}
use Rattle.cli_commands.specs.Checking.{ShowsRefused}
use Rattle.cli_commands.specs.Rereading.{IsLimitFor, OfPassOver, Sayings}
use Rattle.cli_commands.proofs.JudgedFiles.{judged_file, Gives}
use Rattle.check_fit.specs.FileFitting.{SourceFacts}
use Rattle.check_fit.specs.Fitting.{with_sha1}

-- what a check goes by is what the lists say
pub terms : {F : Type 0} (holds : F → Option (List ℕ)) (sha1 : Bool) (policy : Policy) (trust : List EntryValue)
    (vouched : List Asked)
    → policy ≡ with_sha1 sha1
    → IsTrustOf holds trust → IsAnswersOf holds vouched
    → IsTerms holds sha1 (terms_of policy trust (λ q. is_among vouched q))
terms holds sha1 policy trust vouched p is (text, asked, read, says, same) =
    record { policy = p; trust = is; text = text; read = read; asked = asked; says = says; vouches = same }

-- what the words say of the values that a check was called with
pub record IsCalledBy {F S : Type 0} (holds : F → Option (List ℕ)) (says : Sayings F) (opened : F)
    (words : CheckWords) (policy : Policy) (trust : List EntryValue) (vouched : List Asked) (room : ℕ)
    (before : Option S) : Type 0 where
  pub policy_is : policy ≡ with_sha1 words.sha1
  pub trusted : IsTrustOf holds trust
  pub vouched_for : IsAnswersOf holds vouched
  pub handed : is_some before ≡ is_some words.content
  pub bounds : IsLimitFor says opened words.buffer room

module _ {F S T : Type 0} (bytes : T → List ℕ) (holds : F → Option (List ℕ)) (says : Sayings F) (opened : F)
    (facts : SourceFacts S) (words : CheckWords) (policy : Policy)
    (trust : List EntryValue) (vouched : List Asked) (room count count' : ℕ) (before after : Option S)
    (gives : Gives facts (IsContentHeld holds)) where
  abbrev by_lists : Terms
  by_lists = terms_of policy trust (λ q. is_among vouched q)

  -- the verdict of a pass over a file that has this left
  abbrev Streamed : Option (List ℕ) → Result ℕ Refused → Type 0
  Streamed left verdict =
      OfPassOver (λ octets. ChecksStream facts by_lists octets before after) left room count count' before after verdict

  abbrev Called : Type 0
  Called = IsCalledBy holds says opened words policy trust vouched room before

  abbrev Told : F → Result T Failure → Type 0
  Told last r = (verdict : Result ℕ Refused) × Streamed (holds last) verdict
      × MatchResult r (λ t. TellsAccepted verdict (bytes t)) (TellsUnfit verdict)

  by_words : (octets : List ℕ) (verdict : Result ℕ Refused) → Called
      → ChecksStream facts by_lists octets before after verdict
      → JudgesCheck holds words octets verdict
  by_words octets verdict called (reading, reads, judged) = (
    by_lists,
    terms holds words.sha1 policy trust vouched called.policy_is called.trusted called.vouched_for,
    subst (λ (b : Bool). JudgesFile (FaultsOpenly (file content_info)) (Judges by_lists)
        (IsContentHeld holds) b octets verdict) called.handed
        (judged_file facts (Judges by_lists) (IsContentHeld holds) gives
        (FaultsOpenly (file content_info)) reading octets before after verdict reads judged),
  )

  streamed : (octets : List ℕ) (verdict : Result ℕ Refused) → Called → AreOctets octets → Streamed (Some octets) verdict
      → JudgesStream holds says words opened octets verdict
  streamed octets verdict called are (fails raised same) = inl refl
  streamed octets verdict called are (too_long unraised same stated) =
      inr (inl (refl, (room, called.bounds, stated (refl, are))))
  streamed octets verdict called are (told unraised judged) =
      inr (inr (by_words octets verdict called (judged (refl, are))))

  held : (left : Option (List ℕ)) (verdict : Result ℕ Refused) → Called → Streamed left verdict
      → IfKnown left (λ o. JudgesStream holds says words opened o verdict)
  held None verdict called s = tt
  held (Some o) verdict called s = λ are. streamed o verdict called are s

  yes : (o : List ℕ) (m : ℕ) → JudgesStream holds says words opened o (Ok m) → JudgesCheck holds words o (Ok m)
  yes o m (inl e) = absurd (let no : ⊥ = cc in no)
  yes o m (inr (inl (e, large))) = absurd (let no : ⊥ = cc in no)
  yes o m (inr (inr judged)) = judged

  accepts : (left : Option (List ℕ)) (m : ℕ) → IfKnown left (λ o. JudgesStream holds says words opened o (Ok m))
      → IfKnown left (λ o. JudgesCheck holds words o (Ok m))
  accepts None m says = tt
  accepts (Some o) m says = λ are. yes o m (says are)

  -- what is said of a file is its verdict
  pub shows : (last : F) (r : Result T Failure) → Called → Told last r
      → IfOk r (λ t. (f : F) × ShowsAccepted holds words (holds f) (bytes t)) × IfErr r (ShowsRefused holds says words)
  shows last (Ok t) called (Ok m, s, line) =
      ((last, (m, line, accepts (holds last) m (held (holds last) (Ok m) called s))), tt)
  shows last (Ok t) called (Err why, s, line) = absurd line
  shows last (Err f) called (Ok m, s, line) = (tt, inr (inr (inr (inl (inl line)))))
  shows last (Err f) called (Err why, s, line) =
      (tt, inr (inr (inr (inr (opened, last, (why, line, held (holds last) (Err why) called s))))))

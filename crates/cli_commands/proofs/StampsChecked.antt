-- What is said of a stamp that was checked over a file.
use Rattle.std.proofs.Common.{◌≡◌, ◌<◌, ◌^◌, ℕ, Bool, List, [], Option, Some, None, Result, Ok, Err, IsSome, refl, sym}
use Rattle.std.proofs.Common.{subst, inl, inr, unwrap_or, length}
use Rattle.std.specs.Prelude.{MatchResult, IfOk, IfErr}
use Rattle.devices.specs.Device.{AreOctets, raised}
use Rattle.der_core.specs.declared.fault.Fault.{Fault}
use Rattle.der_core.specs.Faults.{Faults}
use Rattle.der_core.specs.Grammar.{file}
use Rattle.der_grammar.specs.Table.{content_info}
use Rattle.cms_types.specs.SignedDataValue.{EncodesAnotherType}
use Rattle.check_fit.specs.declared.rules.DeviceFault.{DeviceFault}
use Rattle.check_fit.specs.declared.rules.DeviceFault.TheVariants as device
use Rattle.check_fit.specs.declared.rules.Refused.{Refused}
use Rattle.check_fit.specs.declared.rules.Refused.TheVariants as refused
use Rattle.check_fit.specs.declared.rules.TokenRefused.{TokenRefused}
use Rattle.check_fit.specs.declared.rules.TokenRefused.TheVariants as token_refused
use Rattle.check_fit.specs.declared.rules.TokenRule.{TokenRule}
use Rattle.trust_lists.specs.Asking.{Asked}
use Rattle.trust_lists.specs.Entries.{EntryValue}
use Rattle.check_questions.specs.Written.{IsTokenWritten}
use Rattle.check_questions.specs.declared.fault.QuestionsFault.{QuestionsFault}
use Rattle.check_questions.specs.declared.fault.QuestionsFault.TheVariants as questions
use Rattle.check_verdict.specs.Passing.{Terms, of_octets}
use Rattle.check_verdict.specs.StampsOfSources.{CountsAsked, JudgesSource}
use Rattle.check_verdict.specs.Checkers.{CheckerValue, terms_for}
use Rattle.check_verdict.specs.TokenRules.{IsStatement, Statement}
use Rattle.check_verdict.proofs.TokenVerdicts.{statement_fails}
use Rattle.cli_tasks.specs.declared.task.StampQuestionsWords.{StampQuestionsWords}
use Rattle.cli_tasks.specs.declared.task.StampWords.{StampWords}
use Rattle.cli_failures.specs.declared.failure.Failure.{Failure}
use Rattle.cli_failures.specs.declared.failure.Failure.TheVariants as failure
use Rattle.cli_commands.specs.Checking.{IfKnown, IsTerms, TellsAccepted}
use Rattle.cli_commands.specs.Fit.{TellsUnfit}
use Rattle.cli_commands.specs.Stamping.{HasNoStampQuestions, IsTokenHeld, IsUnread, IsVerdictOf}
use Rattle.cli_commands.specs.Stamping.{ShowsNoStampQuestions, ShowsStamped, ShowsUnstamped}
use Rattle.cli_commands.proofs.JudgedFiles.{given_by}

-- an answers list never fails
never_raised : 0 ≡ raised 0 → ⊥
never_raised e = let no : 0 ≡ 1 = e in cc

-- the verdict by a checker is judged under what the checker is
pub under : (k u : CheckerValue) (vouches : Asked → Bool) (token : List ℕ) (stamp : Statement)
    (OnlyAsked : (Asked → Bool) → Type 0) (Tells : Type 0) (rest : List ℕ) (count count' : ℕ)
    (verdict : Result ℕ TokenRefused) → k ≡ u → IsStatement u.policy token (Ok stamp)
    → ((x : List ℕ) → IsStatement k.policy x (Ok stamp)
    → JudgesSource (terms_for k vouches) x OnlyAsked Tells rest count count' verdict)
    → JudgesSource (terms_for u vouches) token OnlyAsked Tells rest count count' verdict
under k u vouches token stamp OnlyAsked Tells rest count count' verdict same states judged =
    subst
    (λ (c : CheckerValue). JudgesSource (terms_for c vouches) token OnlyAsked Tells rest count count' verdict) same
    (judged token (subst (λ (c : CheckerValue). IsStatement c.policy token (Ok stamp)) (sym same) states))

-- the token doesn't state what one must, whatever is stamped
pub states_nothing : {F : Type 0} (holds : F → Option (List ℕ)) (words : StampWords) (t : Terms)
    → IsTerms holds words.sha1 t → (token : List ℕ) → IsTokenHeld holds token
    → (rule : TokenRule) → IsStatement t.policy token (Err rule)
    → ShowsUnstamped holds words (failure.Unstamped rule)
states_nothing holds words t terms token held rule k =
    inr (inr (inr (inr (inr (inl (
      rule,
      (
        t,
        terms,
        (
          token,
          held,
          inr (λ stamped.
              statement_fails t token (of_octets stamped) k.0 k.1 k.2 rule (sym k.3)),
        ),
      ),
      refl,
    ))))))

module _ {F : Type 0} (holds : F → Option (List ℕ)) (words : StampWords) (t : Terms)
    (terms : IsTerms holds words.sha1 t) (token : List ℕ) (held : IsTokenHeld holds token) (file : F)
    (OnlyAsked : (Asked → Bool) → Type 0) (count count' : ℕ) where
  abbrev Tells : Type 0
  Tells = IsSome (holds file) × AreOctets (unwrap_or (holds file) [])

  abbrev Rest : List ℕ
  Rest = unwrap_or (holds file) []

  abbrev Judged : Result ℕ TokenRefused → Type 0
  Judged verdict = JudgesSource t token OnlyAsked Tells Rest count count' verdict

  -- more than 2^40 octets
  too_long : (o : Option (List ℕ)) → (IsSome o × AreOctets (unwrap_or o []) → 2 ^ 40 < length (unwrap_or o []))
      → IfKnown o (λ octets. 2 ^ 40 < length octets)
  too_long None more = tt
  too_long (Some octets) more = λ are. more (refl, are)

  unread : (fault : DeviceFault) → Judged (Err (token_refused.Device fault))
      → CountsAsked (Err (token_refused.Device fault)) 0 0 → IsUnread holds fault
  unread device.ReadFailed judged counts = tt
  unread device.ContentTooLong judged counts = (file, too_long (holds file) judged.1)
  unread device.AskFailed judged counts = absurd (never_raised counts)
  unread device.TooLong judged counts = absurd (let no = judged.1.verdict in cc)
  unread device.OutOfMemory judged counts = absurd (let no = judged.1.verdict in cc)

  -- the token fails a rule
  pub fails : (verdict : Result ℕ TokenRefused) (f : Failure) → Judged verdict → IsVerdictOf verdict (Err f)
      → ShowsUnstamped holds words f
  fails (Ok m) f judged is = absurd (let no : ⊥ = cc in no)
  fails (Err (token_refused.Device fault)) f judged is = absurd (let no : ⊥ = cc in no)
  fails (Err (token_refused.Rule rule)) f (same, judged) is =
      let e : f ≡ failure.Unstamped rule = cc in
      let given = given_by holds file judged.stamped judged.given.known in
      inr (inr (inr (inr (inr (inl (
        rule,
        (t, terms, (token, held, inl (judged.stamped, given, judged.verdict))),
        e,
      ))))))

  module _ {T : Type 0} (bytes : T → List ℕ) where
    abbrev Told : Result T Failure → Result ℕ Refused → Type 0
    Told r v = MatchResult r (λ l. TellsAccepted v (bytes l)) (TellsUnfit v)

    pub accepts : (verdict : Result ℕ TokenRefused) (v : Result ℕ Refused) (r : Result T Failure) → Judged verdict
        → IsVerdictOf verdict (Ok v) → Told r v → IfOk r (λ l. ShowsStamped holds words (bytes l))
    accepts verdict v (Err f) judged is told = tt
    accepts (Ok m) v (Ok l) (same, judged) is told =
        let e : v ≡ Ok m = cc in
        let given = given_by holds file judged.stamped judged.given.known in (
          m,
          (t, terms, (token, judged.stamped, held, given, judged.verdict)),
          subst (λ (x : Result ℕ Refused). TellsAccepted x (bytes l)) e told,
        )
    accepts (Err (token_refused.Rule rule)) v (Ok l) judged is told = absurd (let no : ⊥ = cc in no)
    accepts (Err (token_refused.Device fault)) v (Ok l) judged is told =
        let e : v ≡ Err (refused.Device fault) = cc in
        absurd (subst (λ (x : Result ℕ Refused). TellsAccepted x (bytes l)) e told)

    pub refuses : (verdict : Result ℕ TokenRefused) (v : Result ℕ Refused) (r : Result T Failure) → Judged verdict
        → CountsAsked verdict 0 0
        → IsVerdictOf verdict (Ok v) → Told r v → IfErr r (ShowsUnstamped holds words)
    refuses verdict v (Ok l) judged counts is told = tt
    refuses (Ok m) v (Err f) judged counts is told =
        let e : v ≡ Ok m = cc in
        inl (inl (inl (subst (λ (x : Result ℕ Refused). TellsUnfit x f) e told)))
    refuses (Err (token_refused.Rule rule)) v (Err f) judged counts is told = absurd (let no : ⊥ = cc in no)
    refuses (Err (token_refused.Device fault)) v (Err f) judged counts is told =
        let e : v ≡ Err (refused.Device fault) = cc in
        inr (inr (inr (inr (inr (inr (
          fault,
          unread fault judged counts,
          subst (λ (x : Result ℕ Refused). TellsUnfit x f) e told,
        ))))))

-- ---- questions

-- the list's file doesn't fail
pub or_of_list : {F T : Type 0} (holds : F → Option (List ℕ)) (words : StampQuestionsWords) (r : Result T Failure)
    → IfErr r (HasNoStampQuestions holds words.stamp) → IfErr r (ShowsNoStampQuestions holds words)
or_of_list holds words (Ok t) fails = tt
or_of_list holds words (Err f) fails = inr fails

module _ (trust : List EntryValue) (token : List ℕ) (why : QuestionsFault) (tells : Type 0)
    (taken taken' : List ℕ) (count count' : ℕ)
    (written : IsTokenWritten trust token (Err why) tells taken taken' count count') where
  abbrev Written : QuestionsFault → Type 0
  Written w = IsTokenWritten trust token (Err w) tells taken taken' count count'

  pub malformed_of : (fault : Fault) → why ≡ questions.Malformed fault → Faults (file content_info) token fault
  malformed_of fault e = (subst Written e written).0

  pub another_of : why ≡ questions.NotSignedData → EncodesAnotherType token
  another_of e = (subst Written e written).0

-- From the verdicts about the signers, one after another, to the verdict about all of them.
use Rattle.std.proofs.Common.{◌≡◌, ℕ, zero, suc, ◌+◌, ◌-◌, List, [], ◌∷◌, ◌++◌, take, length, All, Option, Some, None}
use Rattle.std.proofs.Common.{Result, Ok, Err, refl, sym, ap, subst}
use Rattle.std.proofs.Common.{◌∙◌, arith, inl, inr, ◌⊎◌}
use Rattle.std.specs.Prelude.{Any, Contains, slice_get, MatchOption}
use Rattle.std.proofs.lemmas.Bool.{cases_lt}
use Rattle.std.proofs.lemmas.List.{length-append}
use Rattle.std.proofs.lemmas.List.Elements.{All-push, Contains-append_cases}
use Rattle.std.proofs.lemmas.Option.{slice_get-get_or}
use Rattle.std.proofs.Math.Seq.{take-append_seam, get_or-append_seam}
use Rattle.digests.specs.declared.algorithm.Alg.{Alg}
use Rattle.cms_types.specs.SignerValue.{SignerValue}
use Rattle.cms_types.specs.SignedDataValue.{SignedDataValue}
use Rattle.check_fit.specs.declared.policy.Policy.{Policy}
use Rattle.check_fit.specs.declared.rules.DeviceFault.TheVariants as device
use Rattle.check_fit.specs.declared.rules.Refused.{Refused}
use Rattle.check_fit.specs.declared.rules.Refused.TheVariants as refusal
use Rattle.check_fit.specs.declared.rules.SignerRule.{SignerRule}
use Rattle.check_fit.specs.declared.rules.SignerRule.TheVariants as rule
use Rattle.check_fit.specs.Fitting.{Wants, WantedBy, signer_claim, unhashed_answer}
use Rattle.der_core.specs.Results.{◌>>=◌}
use Rattle.check_verdict.specs.Passing.{Terms}
use Rattle.check_verdict.specs.Verdicts.{IsMoment, IsLeast, IsGreatest, SignerPasses, Accepts, FirstBad, JudgesSigners}
use Rattle.check_verdict.specs.Verdicts.{Judges}
use Rattle.check_verdict.specs.declared.signer.SignerRefused.{SignerRefused}
use Rattle.check_verdict.specs.declared.signer.SignerRefused.TheVariants as refused
use Rattle.check_verdict.specs.SignerVerdicts.{JudgesSigner, numbered, IsLater, IsNumber, IsOfSigners}
use Rattle.check_verdict.specs.Checking.{IsUnread}
use Rattle.check_verdict.proofs.Stages.{any_before, any_last}

-- what a signer among them wants one of them wants
pub wanted_among : (policy : Policy) (before : List SignerValue) (s : SignerValue) (others : List SignerValue)
    (alg : Alg) → Wants policy s alg
    → WantedBy policy (before ++ s ∷ others) alg
wanted_among policy [] s others alg w = inl w
wanted_among policy (x ∷ before) s others alg w = inr (wanted_among policy before s others alg w)

-- what one of them and those before it want is wanted before, or by that one
pub wanted_last : (policy : Policy) (before : List SignerValue) (s : SignerValue) (alg : Alg)
    → WantedBy policy (before ++ s ∷ []) alg
    → WantedBy policy before alg ⊎ Wants policy s alg
wanted_last policy [] s alg (inl w) = inr w
wanted_last policy [] s alg (inr w) = absurd w
wanted_last policy (x ∷ before) s alg (inl w) = inl (inl w)
wanted_last policy (x ∷ before) s alg (inr w) = elim (wanted_last policy before s alg w) [
  | inl b ↦ inl (inr b)
  | inr l ↦ inr l
]

no_good : (claim : Result (List ℕ × Alg) SignerRule) (u : Unit {0}) → Ok u ≡ (claim >>= λ c. Err rule.DigestAlgorithm)
    → ⊥
no_good (Ok c) u e = let z : Ok u ≡ Err rule.DigestAlgorithm = e in absurd cc
no_good (Err failed) u e = let z : Ok u ≡ Err failed = e in absurd cc

-- a signer whose digest is not at hand does not fit
pub unhashed_bad : (policy : Policy) (econtent_type : List ℕ) (s : SignerValue)
    → Ok tt ≡ unhashed_answer policy econtent_type s → ⊥
unhashed_bad policy econtent_type s e = no_good (signer_claim policy econtent_type s) tt e

-- the refusal of one of the signers
pub numbered_of : (count number : ℕ) (r : SignerRefused) → IsNumber count number
    → IsOfSigners count (Err (numbered number r))
numbered_of count number (refused.Rule failed) is = is
numbered_of count number (refused.Token failed) is = (is, refl)
numbered_of count number refused.Ask is = tt

one_least : (P : ℕ → Type 0) (m n : ℕ) → IsLeast P m → IsLeast P n → m ≡ n
one_least P m n h k = omega (arith, h.least n k.has, k.least m h.has)

module _ (t : Terms) (content econtent_type : List ℕ) where
  abbrev Good : SignerValue → Type 0
  Good s = (n : ℕ) × SignerPasses t content econtent_type s n

  abbrev IsMomentOf : List SignerValue → ℕ → Type 0
  IsMomentOf signers n = Any (λ s. SignerPasses t content econtent_type s n) signers

  -- each of these signers is good, and this is the latest of their moments, where there is one
  pub record Passed (signers : List SignerValue) (latest : Option ℕ) : Type 0 where
    pub each : All Good signers
    pub latest_is : MatchOption latest (signers ≡ []) (IsGreatest (IsMomentOf signers))

  pub passed_none : Passed [] None
  passed_none = record { each = λ k d lt. absurd (omega (arith, lt)); latest_is = refl }

  cases : (before : List SignerValue) (s : SignerValue) (m n : ℕ) → SignerPasses t content econtent_type s m
      → IsMomentOf (before ++ s ∷ []) n
      → IsMomentOf before n ⊎ (n ≡ m)
  cases before s m n passes (i, x, within, is, p) = elim (Contains-append_cases before (s ∷ []) x (i, within, is)) [
    | inl c ↦ inl (c.0, x, c.1, c.2, p)
    | inr c ↦ (let e = only_one x s c in
        let q : SignerPasses t content econtent_type s n =
        subst (λ (y : SignerValue). SignerPasses t content econtent_type y n) (sym e) p in
        inr (one_least (IsMoment t s) n m q.earliest passes.earliest))
  ]
    where
      only_one : (x y : SignerValue) → Contains (y ∷ []) x → y ≡ x
      only_one x y (zero, within, is) = is
      only_one x y (suc i, within, is) = absurd (omega (arith, within))

  greater : (before : List SignerValue) (s : SignerValue) (m k : ℕ) (latest : Option ℕ)
      → SignerPasses t content econtent_type s m
      → IsLater latest m k → MatchOption latest (before ≡ []) (IsGreatest (IsMomentOf before))
      → IsGreatest (IsMomentOf (before ++ s ∷ [])) k
  greater before s m k None passes is h =
      let now : IsMomentOf (before ++ s ∷ []) m =
      any_last (λ x. SignerPasses t content econtent_type x m) before s passes in
      record {
        has = subst (IsMomentOf (before ++ s ∷ [])) (sym is) now;
        greatest = λ n any. elim (cases before s m n passes any) [
          | inl old ↦
              absurd (let z : length before ≡ 0 = ap (λ (l : List SignerValue). length l) h in omega (arith, old.2, z))
          | inr e ↦ omega (arith, is, e)
        ];
      }
  greater before s m k (Some l) passes (inl (lt, is)) h =
      record {
        has = subst (IsMomentOf (before ++ s ∷ [])) (sym is)
            (any_before (λ x. SignerPasses t content econtent_type x l) before (s ∷ []) h.has);
        greatest = λ n any. elim (cases before s m n passes any) [
          | inl old ↦ (let le = h.greatest n old in omega (arith, is, le))
          | inr e ↦ omega (arith, is, e, lt)
        ];
      }
  greater before s m k (Some l) passes (inr (ge, is)) h =
      let now : IsMomentOf (before ++ s ∷ []) m =
      any_last (λ x. SignerPasses t content econtent_type x m) before s passes in
      record {
        has = subst (IsMomentOf (before ++ s ∷ [])) (sym is) now;
        greatest = λ n any. elim (cases before s m n passes any) [
          | inl old ↦ (let le = h.greatest n old in
              elim (cases_lt m l) [ inl less ↦ absurd (ge less) | inr over ↦ omega (arith, is, le, over) ])
          | inr e ↦ omega (arith, is, e)
        ];
      }

  -- one more signer, who is good
  pub passed_more : (before : List SignerValue) (s : SignerValue) (m k : ℕ) (latest : Option ℕ) → Passed before latest
      → SignerPasses t content econtent_type s m → IsLater latest m k → Passed (before ++ s ∷ []) (Some k)
  passed_more before s m k latest h passes is =
      record {
        each = All-push Good before s h.each (m, passes);
        latest_is = greater before s m k latest passes is h.latest_is;
      }

  -- all of them are
  pub passed_all : (signers : List SignerValue) (m : ℕ) → Passed signers (Some m)
      → Accepts t content econtent_type signers m
  passed_all signers m h = record { each = h.each; latest = h.latest_is }

  pub none_passed : (signers : List SignerValue) → Passed signers None → signers ≡ []
  none_passed signers h = h.latest_is

  module _ (before : List SignerValue) (s : SignerValue) (others signers : List SignerValue) (number : ℕ)
      (latest : Option ℕ) (Bad : SignerValue → Type 0)
    where
      first_bad : before ++ s ∷ others ≡ signers → length before ≡ number → Passed before latest → Bad s
          → FirstBad t content econtent_type signers (number + 1) Bad
      first_bad all counted h bad =
          let n : number + 1 - 1 ≡ length before = omega (arith, counted) in
          record {
            counts = omega arith;
            before = subst (λ (xs : List SignerValue). All Good xs) (sym (ap (λ (k : ℕ). take k signers) n
                ∙ ap (λ (xs : List SignerValue). take (length before) xs) (sym all)
                ∙ take-append_seam before (s ∷ others))) h.each;
            signer = s;
            is = ap (λ (k : ℕ). slice_get signers k) n
                ∙ ap (λ (xs : List SignerValue). slice_get xs (length before)) (sym all) ∙ slice_get-get_or (before
                ++ s ∷ others) (length before) s (omega (arith, length-append before (s ∷ others)))
                ∙ ap some (get_or-append_seam before s others s);
            bad = bad;
          }
        where
          some : SignerValue → Option SignerValue
          some x = Some x

  -- the first who isn't
  module _ (before : List SignerValue) (s : SignerValue) (others signers : List SignerValue) (number : ℕ)
      (latest : Option ℕ) where
    pub judged_bad : (refusal : SignerRefused) → before ++ s ∷ others ≡ signers → length before ≡ number
        → Passed before latest
        → JudgesSigner t content econtent_type s (Err refusal)
        → JudgesSigners t content econtent_type signers (Err (numbered (number + 1) refusal))
    judged_bad (refused.Rule failed) all counted h j = first_bad before s others signers number latest _ all counted h j
    judged_bad (refused.Token failed) all counted h j =
        first_bad before s others signers number latest _ all counted h j
    judged_bad refused.Ask all counted h j = refl

-- the verdict about the signers is that about the SignedData whose signers they are, with the type of its content
pub of_signed : (t : Terms) (content econtent_type : List ℕ) (signers : List SignerValue) (v : SignedDataValue)
    (result : Result ℕ Refused)
    → econtent_type ≡ v.encapsulated.content_type → signers ≡ v.signers
    → JudgesSigners t content econtent_type signers result
    → Judges t content v result
of_signed t content econtent_type signers v result k s judged =
    subst (λ (xs : List SignerValue). JudgesSigners t content v.encapsulated.content_type xs result) s
    (subst (λ (x : List ℕ). JudgesSigners t content x signers result) k judged)

-- a verdict about signers is none that comes before they are judged
pub not_unread : (t : Terms) (content econtent_type : List ℕ) (signers : List SignerValue) (result : Result ℕ Refused)
    → JudgesSigners t content econtent_type signers result → IsUnread result → ⊥
not_unread t content econtent_type signers (Ok m) j unread = unread
not_unread t content econtent_type signers (Err (refusal.File failed)) j unread = j
not_unread t content econtent_type signers (Err (refusal.Signer number failed)) j unread = unread
not_unread t content econtent_type signers (Err (refusal.Token number token failed)) j unread = unread
not_unread t content econtent_type signers (Err (refusal.Device device.ReadFailed)) j unread = absurd cc
not_unread t content econtent_type signers (Err (refusal.Device device.ContentTooLong)) j unread = absurd cc
not_unread t content econtent_type signers (Err (refusal.Device device.AskFailed)) j unread = unread
not_unread t content econtent_type signers (Err (refusal.Device device.TooLong)) j unread = unread
not_unread t content econtent_type signers (Err (refusal.Device device.OutOfMemory)) j unread = unread

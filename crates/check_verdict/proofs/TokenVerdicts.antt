-- The verdict of a check of a token, from what the token says and from how far the best of the trusted entries comes.
use Rattle.std.proofs.Common.{◌≡◌, ◌≢◌, ℕ, Bool, true, false, List, Some, None, Result, Ok, Err, ap, sym, ◌∙◌, arith}
use Rattle.std.proofs.Common.{inl, inr, refl}
use Rattle.der_core.specs.declared.fault.Fault.{Fault}
use Rattle.cms_types.specs.SignedDataValue.{SignedDataValue}
use Rattle.cms_types.specs.declared.fault.CmsFault.{CmsFault}
use Rattle.der_core.specs.Lists.{is_same}
use Rattle.der_core.specs.Results.{◌>>=◌}
use Rattle.check_fit.specs.declared.policy.Policy.{Policy}
use Rattle.check_fit.specs.declared.rules.TokenRule.{TokenRule}
use Rattle.check_fit.specs.declared.rules.TokenRule.TheVariants as rule
use Rattle.check_fit.specs.declared.rules.DeviceFault.{DeviceFault}
use Rattle.check_fit.specs.declared.rules.DeviceFault.TheVariants as device
use Rattle.check_fit.specs.declared.rules.TokenRefused.{TokenRefused}
use Rattle.check_fit.specs.declared.rules.TokenRefused.TheVariants as refused
use Rattle.tsp_types.specs.TstValue.{TstValue}
use Rattle.check_verdict.specs.Filters.{Best}
use Rattle.check_verdict.specs.Stages.{before_token}
use Rattle.check_verdict.specs.declared.filter.TokenFilter.{TokenFilter}
use Rattle.digests.specs.Digests.{alg_of, octets_of}
use Rattle.digests.specs.Messages.{digest_of}
use Rattle.digests.specs.declared.algorithm.Alg.{Alg}
use Rattle.digests.specs.declared.value.Digest.{Digest}
use Rattle.digests.proofs.Named.{alg_is, alg_is_not}
use Rattle.trust_lists.specs.Asking.{Asked}
use Rattle.check_verdict.specs.Passing.{Terms, Due, of_octets, of_digest, PassesFor}
use Rattle.check_verdict.specs.StampsOfSources.{CountsAsked, IsJudgedOver, JudgesSource, KeepsBack}
use Rattle.check_verdict.specs.TokenRules.{Reads, TokenClaim, Statement, token_statement, due_claim, token_claim}
use Rattle.check_verdict.specs.TokenRules.{IsStatement, IsClaim}
use Rattle.check_verdict.specs.TokenRules.{LeftForToken, token_filter, TokenFailsFor}
use Rattle.check_verdict.specs.TokenVerdicts.{CountsAsks, IsAskFailed, IsVerdictFor, PassesOrDevice}
use Rattle.check_verdict.proofs.Claims.{claim_says}
use Rattle.check_verdict.proofs.Stages.{best_stops, best_left}
use Rattle.check_verdict.proofs.StageSteps.{token_is_within}
use Rattle.check_verdict.proofs.Tokens.{never_both, one_moment}
use Rattle.check_verdict.proofs.TokensGiven.{passing}

abbrev moments : ℕ → Result ℕ TokenRefused
moments m = Ok m

-- where it passes, that is the verdict, unless the verifier failed
pub completes : (t : Terms) (token : List ℕ) (due : Due) (result : Result ℕ TokenRefused)
    → IsVerdictFor t token due result → (m : ℕ)
    → PassesFor t token due m → PassesOrDevice m result
completes t token due (Ok n) is m p = inl (ap moments (one_moment t token due n m is p))
completes t token due (Err (refused.Rule failed)) is m p = absurd (never_both t token due m failed p is)
completes t token due (Err (refused.Device fault)) is m p = inr tt

module _ (t : Terms) (token : List ℕ) (due : Due) (signed : Result SignedDataValue CmsFault)
    (stamp : Result TstValue Fault)
    (reads : Reads token signed stamp) where
  -- one of K1 to K9 fails
  pub claim_fails : (failed : TokenRule) → token_claim t.policy due signed stamp ≡ Err failed
      → TokenFailsFor t token due failed
  claim_fails failed e = record { signed = signed; stamp = stamp; reads = reads; first = inl e }

  -- one of K1 to K8 fails
  pub statement_fails : (failed : TokenRule) → token_statement t.policy signed stamp ≡ Err failed
      → TokenFailsFor t token due failed
  statement_fails failed e = claim_fails failed (ap (λ (r : Result Statement TokenRule). r >>= due_claim due) e)

  module _ (c : TokenClaim) (e : token_claim t.policy due signed stamp ≡ Ok c) where
    -- no entry passes all of K10 to K14
    pub stage_fails : (failed : TokenFilter) → Best (LeftForToken t c) 5 t.trust (before_token failed)
        → TokenFailsFor t token due (token_filter (before_token failed))
    stage_fails failed best = record {
      signed = signed;
      stamp = stamp;
      reads = reads;
      first = inr (
        c,
        e,
        record {
          filter = before_token failed;
          stops =
              best_stops (LeftForToken t c) 5 t.trust (before_token failed) (token_is_within failed) best;
          is = refl;
        },
      );
    }

    -- one does
    pub stage_passes : Best (LeftForToken t c) 5 t.trust 5 → PassesFor t token due c.moment
    stage_passes best = passing t token due signed stamp c reads (claim_says t.policy due signed stamp c e)
        (best_left (LeftForToken t c) 5 t.trust 5 (omega arith) (λ lt. absurd (omega (arith, lt))) best)

-- ---- what is due of a statement

-- no imprint will do by its algorithm, or its imprint isn't that
pub none_due : (due : Due) (s : Statement) → due s.alg ≡ None → due_claim due s ≡ Err rule.ImprintAlgorithm
none_due due s e = rw (e) refl

pub other_due : (due : Due) (s : Statement) (octets : List ℕ) → due s.alg ≡ Some octets
    → is_same s.imprint octets ≡ false → due_claim due s ≡ Err rule.ImprintDiffers
other_due due s octets e other = rw (e, other) refl

pub due_then : (due : Due) (s : Statement) (octets : List ℕ) → due s.alg ≡ Some octets
    → is_same s.imprint octets ≡ true → due_claim due s ≡ Ok s.claim
due_then due s octets e equal = rw (e, equal) refl

module _ (policy : Policy) (token : List ℕ) (due : Due) (s : Statement) (is : IsStatement policy token (Ok s)) where
  -- so a claim follows from what is due
  pub claim_by : (r : Result TokenClaim TokenRule) → due_claim due s ≡ r → IsClaim policy due token r
  claim_by r e = (
    is.0,
    is.1,
    is.2,
    sym (sym (ap (λ (x : Result Statement TokenRule). x >>= due_claim due) is.3) ∙ e),
  )

-- ---- a digest that is given

pub given_other : (digest : Digest) (alg : Alg) → alg ≢ alg_of digest → of_digest digest alg ≡ None
given_other digest alg other = rw (alg_is_not alg (alg_of digest) other) refl

pub given_same : (digest : Digest) (alg : Alg) → alg ≡ alg_of digest → of_digest digest alg ≡ Some (octets_of digest)
given_same digest alg equal = rw (alg_is alg (alg_of digest) equal) refl

-- the digest of octets by this algorithm is what is due of them
pub given_of : (stamped : List ℕ) (digest : Digest) (alg : Alg) → alg_of digest ≡ alg
    → octets_of digest ≡ digest_of alg stamped → of_octets stamped alg ≡ of_digest digest alg
given_of stamped digest alg by is =
    sym (given_same digest alg (sym by) ∙ ap (λ (octets : List ℕ). Some octets) is)

-- ---- a source that was read to its end

pub judged_over : (t : Terms) (token : List ℕ) (OnlyAsked : (Asked → Bool) → Type 0) (tells : Type 0) (rest : List ℕ)
    (count count' : ℕ) (result : Result ℕ TokenRefused) → count' ≡ count
    → IsJudgedOver t token OnlyAsked tells rest result
    → JudgesSource t token OnlyAsked tells rest count count' result
judged_over t token OnlyAsked tells rest count count' (Ok m) e j = (e, j)
judged_over t token OnlyAsked tells rest count count' (Err (refused.Rule failed)) e j = (e, j)
judged_over t token OnlyAsked tells rest count count' (Err (refused.Device device.ReadFailed)) e j =
    absurd (let no = j.verdict in cc)
judged_over t token OnlyAsked tells rest count count' (Err (refused.Device device.ContentTooLong)) e j =
    absurd (let no = j.verdict in cc)
judged_over t token OnlyAsked tells rest count count' (Err (refused.Device device.AskFailed)) e j = (e, j)
judged_over t token OnlyAsked tells rest count count' (Err (refused.Device device.TooLong)) e j = (e, j)
judged_over t token OnlyAsked tells rest count count' (Err (refused.Device device.OutOfMemory)) e j = (e, j)

-- ---- the verifier's count

pub asks_counted : (r : Result ℕ TokenRefused) (count count' : ℕ) → IsAskFailed r → CountsAsks r count count'
    → CountsAsked r count count'
asks_counted (Ok m) count count' only h = h
asks_counted (Err (refused.Rule rule)) count count' only h = h
asks_counted (Err (refused.Device fault)) count count' only h = rw only h

pub unasked_counted : (tells : Type 0) (rest : List ℕ) (before after count : ℕ) (fault : DeviceFault)
    → KeepsBack tells rest before after fault → CountsAsked (Err (refused.Device fault)) count count
unasked_counted tells rest before after count device.ReadFailed h = refl
unasked_counted tells rest before after count device.AskFailed h = absurd h
unasked_counted tells rest before after count device.TooLong h = refl
unasked_counted tells rest before after count device.OutOfMemory h = refl
unasked_counted tells rest before after count device.ContentTooLong h = refl

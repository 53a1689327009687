-- The grounds of a check by its terms.
use Rattle.std.specs.Prelude.{Bool, true}
use Rattle.trust_lists.specs.Asking.{Asked}
use Rattle.check_verdict.specs.Checkers.{CheckerValue}
use Rattle.check_evidence.specs.Grounds.{Grounds}
use Rattle.judge_evidence.specs.declared.terms.Terms.{Terms}
use Rattle.check_fit.specs.Fitting.{with_sha1}

-- what the verifier vouches for, and what the terms say
abbrev pub grounds_of : Terms → (Asked → Bool) → Grounds
grounds_of t vouches = record {
  trust = t.trust.now;
  vouches = vouches;
  ends = t.ends.now;
  at = t.at;
  whole = t.whole;
}

-- what tokens are judged by: SHA-1 is allowed
abbrev pub checker_of : Terms → CheckerValue
checker_of t = record { trust = t.trust.now; policy = with_sha1 true }

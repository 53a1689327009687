-- How far the trusted entries come through the rules K10 to K14 for what a token states.
use Rattle.std.specs.Prelude.{◌≡◌, Bool, true, Option, Result, IfOk}
use Rattle.trust_lists.specs.Asking.{Asked}
use Rattle.trust_lists.specs.Entries.{EntryValue}
use Rattle.check_verdict.specs.Trusted.{asked}
use Rattle.check_verdict.specs.Filters.{Comes}
use Rattle.check_verdict.specs.Stages.{passed_for_token}
use Rattle.check_verdict.specs.Passing.{Terms}
use Rattle.check_verdict.specs.TokenRules.{TokenClaim, IsInPeriod, LeftForToken}
use Rattle.check_verdict.specs.declared.filter.TokenFilter.{TokenFilter}

-- by these answers the entry comes so far
abbrev pub ComesForToken : {Fault : Type 0} → (vouches : Asked → Bool) → TokenClaim → EntryValue
    → Result (Option TokenFilter) Fault → Type 0
ComesForToken vouches c e result = (t : Terms) → t.vouches ≡ vouches
    → IfOk result (λ failed. Comes (LeftForToken t c) 5 e (passed_for_token failed))

-- nothing was asked but about the token's signer under this entry, and only if the entry passes K10 to K13
abbrev pub AsksForToken : (OnlyAsked : (Asked → Bool) → Type 0) → TokenClaim → EntryValue → Type 0
AsksForToken OnlyAsked c e = (test : Asked → Bool)
    → (IsInPeriod c e → test (asked e.certificate c.signer c.attributes) ≡ true) → OnlyAsked test

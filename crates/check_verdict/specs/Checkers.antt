-- What a check goes by, and the terms of a check by it.
use Rattle.std.specs.Prelude.{Bool, List}
use Rattle.check_fit.specs.declared.policy.Policy.{Policy}
use Rattle.trust_lists.specs.Asking.{Asked}
use Rattle.trust_lists.specs.Entries.{EntryValue}
use Rattle.check_verdict.specs.Passing.{Terms}
use Rattle.check_verdict.specs.TokenVerdicts.{terms_of}

-- the entries that the user trusts, and the algorithms that the user allows
pub record CheckerValue : Type 0 where
  pub trust : List EntryValue
  pub policy : Policy

-- the terms by this and what the verifier vouches for
abbrev pub terms_for : CheckerValue → (Asked → Bool) → Terms
terms_for checker vouches = terms_of checker.policy checker.trust vouches

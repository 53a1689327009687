-- What a check of an evidence record goes by, and what a token is judged by in it.
use Rattle.std.specs.Prelude.{ℕ, Bool, true, List, Option, Some, None, if◌then◌else◌}
use Rattle.digests.specs.Named.{is_alg}
use Rattle.digests.specs.declared.algorithm.Alg.{Alg}
use Rattle.trust_lists.specs.Entries.{EntryValue}
use Rattle.trust_lists.specs.Asking.{Asked}
use Rattle.check_verdict.specs.Passing.{Terms, Due}
use Rattle.check_fit.specs.Fitting.{with_sha1}

-- the last moment at which an algorithm holds, as the user says
pub record AlgEnd : Type 0 where
  pub alg : Alg
  pub last : ℕ

-- What doesn't change in a check: the trusted entries, the verifier's answer to each question, the ends of algorithms,
-- the moment at which the last time-stamp must hold, if the user names one, and whether the first list may have no
-- other hash values than those of the data.
pub record Grounds : Type 0 where
  pub trust : List EntryValue
  pub vouches : Asked → Bool
  pub ends : List AlgEnd
  pub at : Option ℕ
  pub whole : Bool

-- Tokens are judged with SHA-1 allowed: which algorithms hold, and until when, is a matter of the ends.
abbrev pub terms_of : Grounds → Terms
terms_of g = record { policy = with_sha1 true; trust = g.trust; vouches = g.vouches }

-- these octets are due as the imprint, by this algorithm alone
abbrev pub of_root : Alg → List ℕ → Due
of_root alg root other = if is_alg other alg then Some root else None

-- no imprint will do
abbrev pub of_none : Due
of_none alg = None

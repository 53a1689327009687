-- When a token passes beside a record that shows the file by a moment, and how it fails: in the words of the rules K1
-- to K14 (RFC 3161, 2.4.2) and of the record (RFC 4998, 5.3).
use Rattle.std.specs.Prelude.{◌≡◌, ◌↔◌, ⊤, ℕ, zero, suc, ◌≤◌, List, map, Any}
use Rattle.cms_types.specs.SignerValue.{SignerValue}
use Rattle.cms_types.specs.AttributeValue.{AttributeValue}
use Rattle.trust_lists.specs.Entries.{EntryValue}
use Rattle.check_fit.specs.declared.rules.TokenRule.{TokenRule}
use Rattle.check_verdict.specs.Trusted.{Holds}
use Rattle.check_verdict.specs.Beside.{beside}
use Rattle.check_verdict.specs.Filters.{StopsAt}
use Rattle.check_verdict.specs.Passing.{Terms, Due, StampedUnder, PassesFor, Vouched}
use Rattle.check_verdict.specs.TokenRules.{TokenClaim, IsAuthority, IsNamedOne, IsForStamping, RunsOut, token_filter}

-- the terms, where the entries count beside a record that shows the file by k
abbrev pub beside_record : (k : ℕ) → Terms → Terms
beside_record k t = record { policy = t.policy; trust = map (beside k) t.trust; vouches = t.vouches }

-- the verifier vouches for the token's signer under an entry that holds when the token was made and also at k
abbrev pub LastsUnder : Terms → SignerValue → List AttributeValue → (m k : ℕ) → EntryValue → Type 0
LastsUnder t signer attributes m k e = StampedUnder t signer attributes m e × Holds e k

-- The token passes with a moment that isn't later than k, under an entry that holds then and at k.
pub record PassesUnder (t : Terms) (k : ℕ) (token : List ℕ) (due : Due) (m : ℕ) : Type 0 where
  pub in_time : m ≤ k
  pub passes : PassesFor t token due m
  pub lasts : Any (LastsUnder t passes.signer passes.attributes m k) t.trust

-- what an entry passes that is left after each of the filters K10 to K14: K13 asks that the moment isn't later than k,
-- and that the entry holds at it and at k
abbrev pub IsInPeriods : (k : ℕ) → TokenClaim → EntryValue → Type 0
IsInPeriods k c e = IsForStamping c e × (c.moment ≤ k) × Holds e c.moment × Holds e k

abbrev pub LeftUnder : Terms → (k : ℕ) → TokenClaim → ℕ → EntryValue → Type 0
LeftUnder t k c zero e = ⊤
LeftUnder t k c (suc zero) e = IsAuthority c e
LeftUnder t k c (suc (suc zero)) e = IsNamedOne c e
LeftUnder t k c (suc (suc (suc zero))) e = IsForStamping c e
LeftUnder t k c (suc (suc (suc (suc zero)))) e = IsInPeriods k c e
LeftUnder t k c (suc (suc (suc (suc (suc n))))) e = IsInPeriods k c e × Vouched t e c.signer c.attributes

-- the first of K10 to K14 that fails
pub record RunsOutUnder (t : Terms) (k : ℕ) (c : TokenClaim) (failed : TokenRule) : Type 0 where
  pub filter : ℕ
  pub stops : StopsAt (LeftUnder t k c) 5 t.trust filter
  pub is : failed ≡ token_filter filter

-- ---- laws

-- these words are those of a token by the entries as they count
abbrev pub TokensPassUnder : Type 0
TokensPassUnder = (t : Terms) (k : ℕ) (token : List ℕ) (due : Due) (m : ℕ)
    → PassesFor (beside_record k t) token due m ↔ PassesUnder t k token due m

abbrev pub TokensRunOutUnder : Type 0
TokensRunOutUnder = (t : Terms) (k : ℕ) (c : TokenClaim) (failed : TokenRule)
    → RunsOut (beside_record k t) c failed ↔ RunsOutUnder t k c failed

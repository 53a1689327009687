-- How trusted entries count beside a record that shows a file by a moment (RFC 4998, 5.3). The file is as old as that
-- moment, and its tokens are older or don't count; so of an authority's entry it is enough that it held until then.
use Rattle.std.specs.Prelude.{◌≡◌, ◌↔◌, ◌≤◌, ◌&&◌, ℕ, suc, nat_le, Bool, true, false, List, map, Option, Some, None}
use Rattle.std.specs.Prelude.{IsTrue}
use Rattle.der_time.specs.TimeValue.{moment_of}
use Rattle.trust_lists.specs.Entries.{EntryValue}
use Rattle.trust_lists.specs.declared.role.Role.{Role}
use Rattle.trust_lists.specs.declared.role.Role.TheVariants.{Signer, Tsa}
use Rattle.check_verdict.specs.Trusted.{Holds}

-- whether a moment isn't before the first of a period, nor after the last, each of which may be absent
abbrev pub is_from : Option ℕ → ℕ → Bool
is_from None m = true
is_from (Some first) m = nat_le first m

abbrev pub is_until : Option ℕ → ℕ → Bool
is_until None m = true
is_until (Some last) m = nat_le m last

-- whether an entry holds at a moment: Holds, as a test
abbrev pub does_hold : EntryValue → ℕ → Bool
does_hold e m = (nat_le (moment_of e.certificate.tbs.validity.from) m
    && nat_le m (moment_of e.certificate.tbs.validity.until)) && (is_from e.from m && is_until e.until m)

-- the period of an entry that counts as ever, if it is a signer's; and an authority's until k, and not at all if it
-- doesn't hold at k, by a first moment after the last
abbrev pub from_beside : (k : ℕ) → Role → (holds : Bool) → Option ℕ → Option ℕ
from_beside k Signer holds from = from
from_beside k Tsa true from = from
from_beside k Tsa false from = Some (suc k)

abbrev pub until_beside : (k : ℕ) → Role → Option ℕ → Option ℕ
until_beside k Signer until = until
until_beside k Tsa until = Some k

-- an entry as it counts beside a record that shows the file by k
abbrev pub beside : (k : ℕ) → EntryValue → EntryValue
beside k e = record {
  role = e.role;
  from = from_beside k e.role (does_hold e k) e.from;
  until = until_beside k e.role e.until;
  certificate = e.certificate;
}

-- the same if there is such a record, and otherwise as ever; and the entries of a list
abbrev pub counted : (shown : Option ℕ) → EntryValue → EntryValue
counted None e = e
counted (Some k) e = beside k e

abbrev pub counting : (shown : Option ℕ) → List EntryValue → List EntryValue
counting None es = es
counting (Some k) es = map (beside k) es

-- ---- laws

-- the test is right
abbrev pub TestsHolding : Type 0
TestsHolding = (e : EntryValue) (m : ℕ) → IsTrue (does_hold e m) ↔ Holds e m

-- an authority's entry counts at m exactly if it holds at m and at k, and m isn't later than k
abbrev pub AuthoritiesBeside : Type 0
AuthoritiesBeside = (k m : ℕ) (e : EntryValue) → e.role ≡ Tsa
    → Holds (beside k e) m ↔ (Holds e m × Holds e k × (m ≤ k))

-- a signer's counts as ever
abbrev pub SignersBeside : Type 0
SignersBeside = (k m : ℕ) (e : EntryValue) → e.role ≡ Signer → Holds (beside k e) m ↔ Holds e m

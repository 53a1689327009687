-- The grounds of a check under an evidence record.
use Rattle.std.specs.Prelude.{Bool}
use Rattle.trust_lists.specs.Asking.{Asked}
use Rattle.check_evidence.specs.Grounds.{Grounds}
use Rattle.check_under.specs.declared.given.UnderRecord.{UnderRecord}

-- what the verifier vouches for, and what is handed in
abbrev pub grounds_under : UnderRecord → (Asked → Bool) → Grounds
grounds_under under vouches = record {
  trust = under.trust.now;
  vouches = vouches;
  ends = under.ends.now;
  at = under.at;
  whole = under.whole;
}

-- The grounds of a check, as its caller gives them.
use Rattle.std.specs.Prelude.{ℕ, Bool, List, Option}
use Rattle.trust_lists.specs.Asking.{Asked}
use Rattle.trust_lists.specs.Entries.{EntryValue}
use Rattle.check_evidence.specs.Grounds.{AlgEnd, Grounds}

abbrev pub grounds_by : (trust : List EntryValue) → (vouches : Asked → Bool) → (ends : List AlgEnd) → (at : Option ℕ)
    → (whole : Bool) → Grounds
grounds_by trust vouches ends at whole =
    record { trust = trust; vouches = vouches; ends = ends; at = at; whole = whole }

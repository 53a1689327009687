-- Tests of lists of hash values.
use Rattle.std.specs.Prelude.{◌≡◌, ℕ, Bool, true, false, List, [], ◌==◌, length, slice_index_or, All}
use Rattle.std.specs.List.{list_all, list_any}
use Rattle.der_core.specs.Lists.{is_same}
use Rattle.check_evidence.specs.Roots.{IsAscending}

-- whether a value stands among these
abbrev pub is_among : List (List ℕ) → List ℕ → Bool
is_among values v = list_any (is_same v) values

-- whether each has this many octets
abbrev pub are_long : ℕ → List (List ℕ) → Bool
are_long count values = list_all (λ v. length v == count) values

-- each has this many octets, and they stand in ascending order, so that one can be searched for
abbrev pub IsSearchable : ℕ → List (List ℕ) → Type 0
IsSearchable size values = All (λ v. length v ≡ size) values × IsAscending values

-- each value at a place that has a mark is one of these
abbrev pub AreMarked : (these values : List (List ℕ)) → (marks : List Bool) → Type 0
AreMarked these values marks = (k : ℕ) → slice_index_or marks k false ≡ true
    → is_among these (slice_index_or values k []) ≡ true

-- Names of files: as they stand in a line of sums, and which of them name a file below a folder.
use Rattle.std.specs.Prelude.{ℕ, Bool, true, false, not, ◌&&◌, ◌||◌, ◌==◌, List, [], ◌∷◌, ◌++◌, codes, if◌then◌else◌}
use Rattle.std.specs.List.{list_all}
use Rattle.der_core.specs.Lists.{is_same}
use Rattle.list_answers.specs.Texts.{parts}

-- a backslash, behind which a letter stands for an octet
abbrev pub is_backslash : ℕ → Bool
is_backslash octet = octet == 92

-- the octet that a letter stands for: n for LF, r for CR, and a backslash for itself
abbrev pub meant_by : (letter : ℕ) → ℕ
meant_by letter = if letter == 110 then 10 else if letter == 114 then 13 else letter

abbrev pub is_letter : ℕ → Bool
is_letter octet = octet == 92 || (octet == 110 || octet == 114)

-- whether the octet is a backslash that a letter must follow, if the one before it is such a backslash or isn't
abbrev pub begins_pair : (behind : Bool) → ℕ → Bool
begins_pair behind octet = not behind && is_backslash octet

-- what the octet adds to the name
abbrev pub octets_meant : (behind : Bool) → ℕ → List ℕ
octets_meant true octet = meant_by octet ∷ []
octets_meant false octet = if is_backslash octet then [] else octet ∷ []

abbrev pub unescaped_behind : (behind : Bool) → List ℕ → List ℕ
unescaped_behind behind [] = []
unescaped_behind behind (octet ∷ octets) = octets_meant behind octet
    ++ unescaped_behind (begins_pair behind octet) octets

-- the name that stands so in a line: \\ for a backslash, \n for LF, \r for CR
abbrev pub unescaped : List ℕ → List ℕ
unescaped octets = unescaped_behind false octets

-- behind a backslash a letter may stand, and otherwise neither LF nor CR
abbrev pub may_stand : (behind : Bool) → ℕ → Bool
may_stand true octet = is_letter octet
may_stand false octet = not (octet == 10 || octet == 13)

abbrev pub is_escaped_behind : (behind : Bool) → List ℕ → Bool
is_escaped_behind behind [] = not behind
is_escaped_behind behind (octet ∷ octets) = may_stand behind octet
    && is_escaped_behind (begins_pair behind octet) octets

-- a name as it stands in a line: each backslash has one of the letters behind it, and no LF or CR stands by itself
abbrev pub is_escaped : List ℕ → Bool
is_escaped octets = is_escaped_behind false octets

-- a part of a name that names something in a folder
abbrev pub is_part : List ℕ → Bool
is_part part = not (is_same part [] || (is_same part (codes ".") || is_same part (codes "..")))

abbrev pub is_no_null : ℕ → Bool
is_no_null octet = not (octet == 0)

-- a name of a file below a folder: it has no octet 0, and no part between its slashes is empty, . or .., so that it
-- isn't empty and begins with no slash
abbrev pub is_name : List ℕ → Bool
is_name name = list_all is_part (parts 47 name) && list_all is_no_null name

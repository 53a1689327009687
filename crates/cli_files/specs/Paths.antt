-- The paths in a list of files.
use Rattle.std.specs.Prelude.{◌≡◌, ⊤, ◌⊎◌, ℕ, Bool, true, false, if◌then◌else◌, List, [], ◌∷◌, IsUtf8, bytes_eq, codes}
use Rattle.list_answers.specs.Texts.{parts}

-- behind the last octet that ends a name there is one more, if there are octets
abbrev pub last_name : List ℕ → List (List ℕ)
last_name [] = []
last_name (octet ∷ octets) = (octet ∷ octets) ∷ []

abbrev pub names_of_parts : List (List ℕ) → List (List ℕ)
names_of_parts [] = []
names_of_parts (part ∷ []) = last_name part
names_of_parts (part ∷ (next ∷ parts)) = part ∷ names_of_parts (next ∷ parts)

-- the octets between those that end a name
abbrev pub names_of : (end : ℕ) → List ℕ → List (List ℕ)
names_of end text = names_of_parts (parts end text)

-- a name is its file's path; `-` is a file of that name here, and not the standard input
abbrev pub path_of_name : (name : List ℕ) → List ℕ
path_of_name name = if bytes_eq name (codes "-") then codes "./-" else name

-- the octet that ends a name: 0, or LF
abbrev pub end_of : (null : Bool) → ℕ
end_of true = 0
end_of false = 10

-- each name is UTF-8, as a path is
abbrev pub AreUtf8 : (names : List (List ℕ)) → Type 0
AreUtf8 [] = ⊤
AreUtf8 (name ∷ names) = IsUtf8 name × AreUtf8 names

-- a text that lists no files: it names none, or a name isn't UTF-8
abbrev pub ListsNone : (end : ℕ) → (text : List ℕ) → Type 0
ListsNone end text = (names_of end text ≡ []) ⊎ ¬ (AreUtf8 (names_of end text))

-- The first name of a list, and the list behind it.
use Rattle.std.proofs.Common.{◌≡◌, ◌<◌, ◌+◌, ◌-◌, ℕ, Bool, true, false, List, [], ◌∷◌, length, take, drop, Option, Some}
use Rattle.std.proofs.Common.{None, refl, arith, ◌∙◌, ap}
use Rattle.std.specs.List.{slice_split}
use Rattle.std.specs.Prelude.{◌==◌}
use Rattle.memchr.specs.Find.{IsFirstByte, is_byte}
use Rattle.list_answers.specs.Texts.{parts}
use Rattle.list_answers.proofs.Cuts.{some_part, uncut, cut_there, first_place}
use Rattle.cli_files.specs.Paths.{names_of, names_of_parts}

more : (part : List ℕ) (parts : List (List ℕ)) → ((q : List ℕ) × (qs : List (List ℕ)) × (parts ≡ q ∷ qs))
    → names_of_parts (part ∷ parts) ≡ part ∷ names_of_parts parts
more part parts (q, qs, is) = rw is refl

last_of : (end : ℕ) (text : List ℕ) → 0 < length text → parts end text ≡ text ∷ [] → names_of end text ≡ text ∷ []
last_of end [] some is = absurd (let no : ⊥ = omega (arith, some) in no)
last_of end (o ∷ os) some is = rw is refl

-- if the octet is nowhere, the text is the last name
pub last_cut : (text : List ℕ) (end : ℕ) (r : Option ℕ) → 0 < length text → IsFirstByte (is_byte end) text r → r ≡ None
    → names_of end text ≡ text ∷ []
last_cut text end r some first none = last_of end text some (uncut text end r (first_place text end r first) none)

-- otherwise the name is before it
pub cut_before : (text : List ℕ) (end i : ℕ) (r : Option ℕ) → IsFirstByte (is_byte end) text r → r ≡ Some i
    → names_of end text ≡ take i text ∷ names_of end (take (length text - (i + 1)) (drop (i + 1) text))
cut_before text end i r first found =
    let (less, is) = cut_there text end i r (first_place text end r first) found in
    ap names_of_parts is
    ∙ more (take i text) _ (some_part (λ b. b == end) (take (length text - (i + 1)) (drop (i + 1) text)))

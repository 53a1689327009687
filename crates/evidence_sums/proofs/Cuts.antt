-- Where octets are cut, and the first line of a text.
use Rattle.std.proofs.Common.{◌≡◌, ◌<◌, ◌+◌, ◌-◌, ℕ, List, [], ◌∷◌, length, take, drop, Option, Some}
use Rattle.std.proofs.Common.{None, refl, arith, ◌∙◌, ap}
use Rattle.std.specs.Prelude.{◌==◌}
use Rattle.memchr.specs.Find.{IsFirstByte, is_byte}
use Rattle.list_answers.specs.Texts.{parts}
pub use Rattle.list_answers.proofs.Cuts.{some_part}
use Rattle.list_answers.proofs.Cuts.{uncut, cut_there, first_place}
use Rattle.evidence_sums.specs.Lines.{lines_of, lines_of_parts}

-- if the octet is nowhere, all stands before it
pub whole : (octets : List ℕ) (at : ℕ) (r : Option ℕ) → IsFirstByte (is_byte at) octets r → r ≡ None
    → parts at octets ≡ octets ∷ []
whole octets at r first none = uncut octets at r (first_place octets at r first) none

-- otherwise what is before it, and behind it
pub before : (octets : List ℕ) (at i : ℕ) (r : Option ℕ) → IsFirstByte (is_byte at) octets r → r ≡ Some i
    → (i < length octets)
    × (parts at octets ≡ take i octets ∷ parts at (take (length octets - (i + 1)) (drop (i + 1) octets)))
before octets at i r first found = cut_there octets at i r (first_place octets at r first) found

more : (part : List ℕ) (parts : List (List ℕ)) → ((q : List ℕ) × (qs : List (List ℕ)) × (parts ≡ q ∷ qs))
    → lines_of_parts (part ∷ parts) ≡ part ∷ lines_of_parts parts
more part parts (q, qs, is) = rw is refl

last_of : (text : List ℕ) → 0 < length text → parts 10 text ≡ text ∷ [] → lines_of text ≡ text ∷ []
last_of [] some is = absurd (let no : ⊥ = omega (arith, some) in no)
last_of (o ∷ os) some is = rw is refl

-- if there is no LF, the text is the last line
pub last_line_there : (text : List ℕ) (r : Option ℕ) → 0 < length text → IsFirstByte (is_byte 10) text r → r ≡ None
    → lines_of text ≡ text ∷ []
last_line_there text r some first none = last_of text some (whole text 10 r first none)

-- otherwise the first line is before it
pub line_before : (text : List ℕ) (i : ℕ) (r : Option ℕ) → IsFirstByte (is_byte 10) text r → r ≡ Some i
    → lines_of text ≡ take i text ∷ lines_of (take (length text - (i + 1)) (drop (i + 1) text))
line_before text i r first found =
    let (less, is) = before text 10 i r first found in
    ap lines_of_parts is
    ∙ more (take i text) _ (some_part (λ b. b == 10) (take (length text - (i + 1)) (drop (i + 1) text)))

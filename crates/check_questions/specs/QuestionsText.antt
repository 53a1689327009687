-- The text of questions.
use Rattle.std.specs.Prelude.{ℕ, List, [], ◌∷◌, ◌++◌, codes}
use Rattle.std.specs.List.{flat_map}
use Rattle.hex.specs.Hex.{encode_lower}
use Rattle.trust_lists.specs.Asking.{Asked}

-- octets in lower-case hexadecimal, or - if there are none
abbrev pub field : List ℕ → List ℕ
field [] = codes "-"
field (b ∷ bs) = encode_lower (b ∷ bs)

-- with the octet after it
abbrev pub ended : List ℕ → (end : ℕ) → List ℕ
ended octets end = field octets ++ end ∷ []

-- five fields with one space between, and a line feed
abbrev pub question_line : Asked → List ℕ
question_line q = ended q.key 32
    ++ (ended q.digest_alg 32 ++ (ended q.signature_alg 32 ++ (ended q.tail 32 ++ ended q.signature 10)))

abbrev pub question_lines : List Asked → List ℕ
question_lines qs = flat_map question_line qs

abbrev pub questions_text : List Asked → List ℕ
questions_text qs = (codes "cmsproof questions 1" ++ 10 ∷ []) ++ question_lines qs

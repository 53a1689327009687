-- A text of sums in which a line that begins with a space continues the line before it: behind that space it states the
-- digest of one more data object of the same record (RFC 4998, 4.2: a data object group).
use Rattle.std.specs.Prelude.{ℕ, ◌+◌, Bool, false, not, ◌||◌, ◌==◌, List, [], ◌∷◌, drop, Option, Some, None, Result, Ok}
use Rattle.std.specs.Prelude.{if◌then◌else◌}
use Rattle.digests.specs.declared.algorithm.Alg.{Alg}
use Rattle.digests.specs.declared.value.Digest.{Digest}
use Rattle.evidence_sums.specs.declared.sums_fault.SumsFault.{SumsFault}
use Rattle.evidence_sums.specs.declared.sums_fault.SumsRule.TheVariants as rule
use Rattle.evidence_sums.specs.Lines.{lines_of, first_number}
use Rattle.evidence_sums.specs.Names.{is_name}
use Rattle.evidence_sums.specs.SumLines.{is_sum_line, name_in, sum_in}
use Rattle.evidence_sums.specs.Sums.{is_among, no_line, unless}

-- what the lines of a record state: its name, which is that of the first, and the digests of all, in their order, which
-- are by this algorithm
pub record RecordValue : Type 0 where
  pub alg : Alg
  pub name : List ℕ
  pub digests : List Digest

-- the line begins with a space
abbrev pub continues : (line : List ℕ) → Bool
continues [] = false
continues (octet ∷ octets) = octet == 32

-- the line without that space
abbrev pub sum_part : (line : List ℕ) → List ℕ
sum_part line = if continues line then drop 1 line else line

-- the line is one of sums, or it is behind a space
abbrev pub is_record_line : Alg → (line : List ℕ) → Bool
is_record_line alg line = is_sum_line alg (sum_part line)

-- the digests of the lines that continue a record, up to the first line that begins one
abbrev pub continued : Alg → (lines : List (List ℕ)) → List Digest
continued alg [] = []
continued alg (line ∷ lines) = if continues line then (sum_in alg (drop 1 line)).digest ∷ continued alg lines else []

-- the record that a line begins, with these lines behind it
abbrev pub record_of : Alg → (line : List ℕ) → (lines : List (List ℕ)) → RecordValue
record_of alg line lines = record {
  alg = alg;
  name = name_in alg line;
  digests = (sum_in alg line).digest ∷ continued alg lines;
}

-- the records of lines, in their order
abbrev pub records_in : Alg → (lines : List (List ℕ)) → List RecordValue
records_in alg [] = []
records_in alg (line ∷ lines) = if continues line then records_in alg lines
    else record_of alg line lines ∷ records_in alg lines

-- ---- why a text states no records

-- the first line continues none
abbrev pub first_continues : (lines : List (List ℕ)) → Option ℕ
first_continues [] = None
first_continues (line ∷ lines) = if continues line then Some 1 else None

-- the name of a line that begins a record is that of a file below a folder
abbrev pub is_well_named : Alg → (line : List ℕ) → Bool
is_well_named alg line = continues line || is_name (name_in alg line)

-- the number of the first line that begins a record with one of the names before it
abbrev pub first_named_again : Alg → (before : List (List ℕ)) → (number : ℕ) → (lines : List (List ℕ)) → Option ℕ
first_named_again alg before number [] = None
first_named_again alg before number (line ∷ lines) =
    if continues line then first_named_again alg before (number + 1) lines
    else if is_among before (name_in alg line) then Some number
    else first_named_again alg (name_in alg line ∷ before) (number + 1) lines

-- an answer about a text: what it states, or why it is refused
abbrev pub RecordsAnswer : Type 0
RecordsAnswer = Result (List RecordValue) SumsFault

-- the answer by whether there are lines, and by each name, and then as this says
abbrev pub unless_misnamed : {X : Type 0} → Alg → (lines : List (List ℕ)) → Result X SumsFault → Result X SumsFault
unless_misnamed alg lines answer = unless rule.Empty (no_line lines)
    (unless rule.Name (first_number (λ l. not (is_well_named alg l)) 1 lines) answer)

-- the answer by the forms of the lines before that
abbrev pub unless_no_records : Alg → (lines : List (List ℕ)) → RecordsAnswer → RecordsAnswer
unless_no_records alg lines answer = unless rule.Line (first_continues lines)
    (unless rule.Line (first_number (λ l. not (is_record_line alg l)) 1 lines) (unless_misnamed alg lines answer))

abbrev pub unless_named_again : Alg → (lines : List (List ℕ)) → RecordsAnswer
unless_named_again alg lines = unless rule.NameTwice (first_named_again alg [] 1 lines) (Ok (records_in alg lines))

-- what the lines of a text state, record by record, or the first fault: all lines are tested for their form; and then,
-- of those that begin a record, all names, and whether a name is there twice
abbrev pub records_of : Alg → (text : List ℕ) → RecordsAnswer
records_of alg text = unless_no_records alg (lines_of text) (unless_named_again alg (lines_of text))

-- the same without a look for a name that is there twice
abbrev pub well_recorded : Alg → (text : List ℕ) → RecordsAnswer
well_recorded alg text = unless_no_records alg (lines_of text) (Ok (records_in alg (lines_of text)))

-- Worked rows: what texts of sums state, by the definitions. The lines are those that sha256sum, sha1sum and sha512sum
-- (GNU coreutils 9.1) wrote for files that hold abc, or lines of theirs that were changed.
use Rattle.std.specs.Prelude.{◌≡◌, ℕ, List, [], ◌∷◌, ◌++◌, codes, Ok, Err}
use Rattle.std.specs.List.{join_with_byte}
use Rattle.der_core.specs.Hex.{hex}
use Rattle.digests.specs.declared.algorithm.Alg.TheVariants.{Sha1, Sha256, Sha512}
use Rattle.digests.specs.declared.value.Digest.{Digest}
use Rattle.digests.specs.declared.value.Digest.TheVariants as digests
use Rattle.evidence_sums.specs.declared.sums_fault.SumsRule.{SumsRule}
use Rattle.evidence_sums.specs.declared.sums_fault.SumsRule.TheVariants as rule
use Rattle.evidence_sums.specs.SumLines.{SumValue}
use Rattle.evidence_sums.specs.Sums.{Answer, sums_of}
use Rattle.evidence_sums.specs.Records.{RecordValue, RecordsAnswer, records_of}

-- lines with LF between
abbrev pub text_of : List (List ℕ) → List ℕ
text_of ls = join_with_byte 10 ls

-- the digest of abc (FIPS 180-2, B.1), and the digits as the program writes them
abbrev pub abc : List ℕ
abc = hex "ba7816bf8f01cfea414140de5dae2223b00361a396177a9cb410ff61f20015ad"

abbrev pub digits : List ℕ
digits = codes "ba7816bf8f01cfea414140de5dae2223b00361a396177a9cb410ff61f20015ad"

abbrev pub abc_named : (name : List ℕ) → SumValue
abc_named name = record { digest = digests.Sha256 abc; name = name }

abbrev pub one : (name : List ℕ) → Answer
one name = Ok (abc_named name ∷ [])

abbrev pub fails_at : (line : ℕ) → Answer
fails_at line = Err (record { rule = rule.Line; line = line })

abbrev pub misnamed_at : (line : ℕ) → Answer
misnamed_at line = Err (record { rule = rule.Name; line = line })

pub record SumsRows : Type 0 where
  -- a line, and the same with -b, and without its LF
  pub text : sums_of Sha256 (text_of ((digits ++ codes "  a") ∷ [] ∷ [])) ≡ one (codes "a")
  pub binary : sums_of Sha256 (text_of ((digits ++ codes " *a") ∷ [] ∷ [])) ≡ one (codes "a")
  pub unended : sums_of Sha256 (digits ++ codes "  a") ≡ one (codes "a")
  -- digits in upper case
  pub upper : sums_of Sha256 (codes "BA7816BF8F01CFEA414140DE5DAE2223B00361A396177A9CB410FF61F20015AD  a")
      ≡ one (codes "a")
  -- names with a backslash, LF and CR
  pub backslash : sums_of Sha256 (text_of ((codes "\\" ++ (digits ++ codes "  x\\\\y")) ∷ [] ∷ []))
      ≡ one (codes "x\\y")
  pub lf : sums_of Sha256 (text_of ((codes "\\" ++ (digits ++ codes "  l\\nf")) ∷ [] ∷ []))
      ≡ one (codes "l" ++ (10 ∷ codes "f"))
  pub cr : sums_of Sha256 (text_of ((codes "\\" ++ (digits ++ codes " *c\\rr")) ∷ [] ∷ []))
      ≡ one (codes "c" ++ (13 ∷ codes "r"))
  -- names that begin with a space and an asterisk
  pub space : sums_of Sha256 (text_of ((digits ++ codes "   sp") ∷ [] ∷ [])) ≡ one (codes " sp")
  pub asterisk : sums_of Sha256 (text_of ((digits ++ codes " **st") ∷ [] ∷ [])) ≡ one (codes "*st")
  -- the standard input
  pub input : sums_of Sha256 (text_of ((digits ++ codes "  -") ∷ [] ∷ [])) ≡ one (codes "-")
  -- other algorithms
  pub sha1 : sums_of Sha1 (codes "a9993e364706816aba3e25717850c26c9cd0d89d  a")
      ≡ Ok (record { digest = digests.Sha1 (hex "a9993e364706816aba3e25717850c26c9cd0d89d"); name = codes "a" } ∷ [])
  pub sha512 : sums_of Sha512 (codes "ddaf35a193617abacc417349ae20413112e6fa4e89a97ea20a9eeee64b55d39a"
      ++ codes "2192992a274fc1a836ba3c23a3feebbd454d4423643ce80e2a9ac94fa54ca49f  a") ≡ Ok (record {
        digest = digests.Sha512 (hex "ddaf35a193617abacc417349ae20413112e6fa4e89a97ea20a9eeee64b55d39a"
            ++ hex "2192992a274fc1a836ba3c23a3feebbd454d4423643ce80e2a9ac94fa54ca49f");
        name = codes "a";
      } ∷ [])
  -- two lines, in their order
  pub two : sums_of Sha256 (text_of ((digits ++ codes "  d/b") ∷ (digits ++ codes "  a") ∷ [] ∷ []))
      ≡ Ok (abc_named (codes "d/b") ∷ (abc_named (codes "a") ∷ []))
  -- no line
  pub empty : sums_of Sha256 [] ≡ Err (record { rule = rule.Empty; line = 0 })
  -- an empty line, a comment and a line with --tag
  pub blank : sums_of Sha256 (text_of ((digits ++ codes "  a") ∷ [] ∷ (digits ++ codes "  b") ∷ [])) ≡ fails_at 2
  pub comment : sums_of Sha256 (text_of (codes "# a" ∷ (digits ++ codes "  a") ∷ [])) ≡ fails_at 1
  pub tag : sums_of Sha256 (codes "SHA256 (a) = " ++ digits) ≡ fails_at 1
  -- another algorithm's line; a digit that is missing, and one that is none
  pub another : sums_of Sha256 (codes "a9993e364706816aba3e25717850c26c9cd0d89d  a") ≡ fails_at 1
  pub short : sums_of Sha256 (codes "a7816bf8f01cfea414140de5dae2223b00361a396177a9cb410ff61f20015ad  a") ≡ fails_at 1
  pub no_digit : sums_of Sha256 (codes "ga7816bf8f01cfea414140de5dae2223b00361a396177a9cb410ff61f20015ad  a")
      ≡ fails_at 1
  -- one space, and the digits alone
  pub one_space : sums_of Sha256 (digits ++ codes " a") ≡ fails_at 1
  pub alone : sums_of Sha256 digits ≡ fails_at 1
  -- a backslash that begins the line for nothing, and one in a name that should be escaped
  pub needless : sums_of Sha256 (codes "\\" ++ (digits ++ codes "  a")) ≡ fails_at 1
  pub unmarked : sums_of Sha256 (digits ++ codes "  x\\\\y") ≡ fails_at 1
  -- a backslash with no letter behind it, and with another
  pub dangling : sums_of Sha256 (codes "\\" ++ (digits ++ codes "  a\\")) ≡ fails_at 1
  pub letter : sums_of Sha256 (codes "\\" ++ (digits ++ codes "  a\\t")) ≡ fails_at 1
  -- lines that end in CR and LF
  pub carriage : sums_of Sha256 (text_of ((digits ++ (codes "  a" ++ (13 ∷ []))) ∷ [] ∷ [])) ≡ fails_at 1
  -- the first faulty line of two
  pub first : sums_of Sha256 (text_of ([] ∷ [] ∷ [])) ≡ fails_at 1
  -- names that are none of files below a folder
  pub no_name : sums_of Sha256 (digits ++ codes "  ") ≡ misnamed_at 1
  pub absolute : sums_of Sha256 (digits ++ codes "  /a") ≡ misnamed_at 1
  pub here : sums_of Sha256 (digits ++ codes "  ./a") ≡ misnamed_at 1
  pub above : sums_of Sha256 (digits ++ codes "  ../a") ≡ misnamed_at 1
  pub twice_slashed : sums_of Sha256 (digits ++ codes "  d//a") ≡ misnamed_at 1
  pub folder : sums_of Sha256 (text_of ((digits ++ codes "  a") ∷ (digits ++ codes "  d/") ∷ [])) ≡ misnamed_at 2
  pub null : sums_of Sha256 (digits ++ (codes "  a" ++ (0 ∷ []))) ≡ misnamed_at 1
  -- three points are a name, as is one that begins with a point
  pub points : sums_of Sha256 (digits ++ codes "  .../.a") ≡ one (codes ".../.a")
  -- a name that is there twice, in the two modes
  pub twice :
      sums_of Sha256 (text_of ((digits ++ codes "  a") ∷ (digits ++ codes "  b") ∷ (digits ++ codes " *a") ∷ []))
      ≡ Err (record { rule = rule.NameTwice; line = 3 })
  -- forms are tested before names, and each name before two of them
  pub form_first : sums_of Sha256 (text_of ((digits ++ codes "  /a") ∷ (digits ++ codes "  /a") ∷ [] ∷ [] ∷ []))
      ≡ fails_at 3
  pub name_first : sums_of Sha256 (text_of ((digits ++ codes "  a") ∷ (digits ++ codes "  a")
      ∷ (digits ++ codes "  /") ∷ [])) ≡ misnamed_at 3

-- ---- lines that continue a record

-- the digits for an empty file, as sha256sum writes them
abbrev pub digits_of_none : List ℕ
digits_of_none = codes "e3b0c44298fc1c149afbf4c8996fb92427ae41e4649b934ca495991b7852b855"

abbrev pub both : List Digest
both = digests.Sha256 abc
    ∷ (digests.Sha256 (hex "e3b0c44298fc1c149afbf4c8996fb92427ae41e4649b934ca495991b7852b855") ∷ [])

abbrev pub first_line : (name : List ℕ) → List ℕ
first_line name = digits ++ (codes "  " ++ name)

abbrev pub next_line : (name : List ℕ) → List ℕ
next_line name = codes " " ++ (digits_of_none ++ (codes "  " ++ name))

abbrev pub one_of : (name : List ℕ) → RecordValue
one_of name = record { alg = Sha256; name = name; digests = digests.Sha256 abc ∷ [] }

abbrev pub both_of : (name : List ℕ) → RecordValue
both_of name = record { alg = Sha256; name = name; digests = both }

abbrev pub fails_by : SumsRule → (line : ℕ) → RecordsAnswer
fails_by r line = Err (record { rule = r; line = line })

pub record RecordsRows : Type 0 where
  -- two lines of one record, and the same where none of them is a text of sums
  pub group : records_of Sha256 (text_of (first_line (codes "a") ∷ next_line (codes "b") ∷ [] ∷ []))
      ≡ Ok (both_of (codes "a") ∷ [])
  pub no_sums : sums_of Sha256 (text_of (first_line (codes "a") ∷ next_line (codes "b") ∷ [] ∷ [])) ≡ fails_at 2
  -- records of one line, before and behind it
  pub among : records_of Sha256 (text_of (first_line (codes "a") ∷ first_line (codes "b") ∷ next_line (codes "c")
      ∷ first_line (codes "d") ∷ []))
      ≡ Ok (one_of (codes "a") ∷ (both_of (codes "b") ∷ (one_of (codes "d") ∷ [])))
  -- a name that is escaped, and the other mode, behind a space
  pub escaped : records_of Sha256 (text_of (first_line (codes "a")
      ∷ (codes " \\" ++ (digits_of_none ++ codes " *x\\\\y")) ∷ []))
      ≡ Ok (both_of (codes "a") ∷ [])
  -- the first line continues none, also if it is the only one
  pub first : records_of Sha256 (text_of (next_line (codes "a") ∷ first_line (codes "b") ∷ [])) ≡ fails_by rule.Line 1
  pub alone : records_of Sha256 (next_line (codes "a")) ≡ fails_by rule.Line 1
  -- two spaces; a space alone; another algorithm behind a space
  pub spaces : records_of Sha256 (text_of (first_line (codes "a") ∷ (codes " " ++ next_line (codes "b")) ∷ []))
      ≡ fails_by rule.Line 2
  pub space : records_of Sha256 (text_of (first_line (codes "a") ∷ codes " " ∷ [])) ≡ fails_by rule.Line 2
  pub another : records_of Sha256 (text_of (first_line (codes "a")
      ∷ codes " a9993e364706816aba3e25717850c26c9cd0d89d  b" ∷ [])) ≡ fails_by rule.Line 2
  -- no line
  pub empty : records_of Sha256 [] ≡ fails_by rule.Empty 0
  -- a name behind a space leads nowhere, and may be there twice, or in the line that begins another record
  pub anywhere : records_of Sha256 (text_of (first_line (codes "a") ∷ next_line (codes "/b") ∷ []))
      ≡ Ok (both_of (codes "a") ∷ [])
  pub shared : records_of Sha256 (text_of (first_line (codes "a") ∷ next_line (codes "b") ∷ first_line (codes "b")
      ∷ next_line (codes "b") ∷ []))
      ≡ Ok (both_of (codes "a") ∷ (both_of (codes "b") ∷ []))
  -- of lines that begin a record a name is refused as in a text of sums, by the line's number
  pub twice : records_of Sha256 (text_of (first_line (codes "a") ∷ next_line (codes "b") ∷ first_line (codes "a") ∷ []))
      ≡ fails_by rule.NameTwice 3
  pub above : records_of Sha256 (text_of (first_line (codes "a") ∷ next_line (codes "b")
      ∷ first_line (codes "../a") ∷ [])) ≡ fails_by rule.Name 3

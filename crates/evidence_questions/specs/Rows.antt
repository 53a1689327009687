-- Worked rows: the questions of evidence records, over octets that are written out from RFC 4998. The tokens are those
-- of the rows of files; an empty SEQUENCE stands for a token that isn't one.
use Rattle.std.specs.Prelude.{ℕ, List, [], ◌∷◌, ◌++◌, None}
use Rattle.der_core.specs.Hex.{hex}
use Rattle.trust_lists.specs.Asking.{Asked}
use Rattle.trust_lists.specs.Entries.{EntryValue}
use Rattle.trust_lists.specs.declared.role.Role.TheVariants.{Signer, Tsa}
use Rattle.check_names.specs.NamingRows.{of_authority}
use Rattle.check_verdict.specs.Rows.{early_token, of_token, of_early_token, of_signer, trusted}
use Rattle.evidence_questions.specs.RecordQuestions.{AreQuestionsOfRecord}

-- the token of ten o'clock over abc
abbrev pub late_token : List ℕ
late_token = hex "30820147 0609 2a864886f70d010702 a0820138 30820134 0201 03 310d 300b 0609 608648016503040201"
    ++ hex "3062 060b 2a864886f70d0109100104 a053 0451"
    ++ hex "304f 0201 01 0603 883703 3031 300d 0609 608648016503040201 0500 0420"
    ++ hex "ba7816bf8f01cfea414140de5dae2223b00361a396177a9cb410ff61f20015ad"
    ++ hex "0201 09 180f 32303234303131353130303030305a"
    ++ hex "3181bb 3081b8 0201 01 3011 300c 310a 3008 0603 550403 0c01 54 0201 07 300b 0609 608648016503040201"
    ++ hex "a08186 301a 0609 2a864886f70d010903 310d 060b 2a864886f70d0109100104"
    ++ hex "302f 0609 2a864886f70d010904 3122 0420"
    ++ hex "cc57e49e272c28d8f16dfb765790c5710f2a0ff18d9eb348f750caff6e690cd3"
    ++ hex "3037 060b 2a864886f70d010910022f 3128 3026 3024 3022 0420"
    ++ hex "b5bda2dd49f9ac5c960f22fe79a6cbef1d5b7e0e88c7890e416bb657f4dbb8e1 3005 0603 883701 0403 747361"

-- one chain of one token
abbrev pub of_one : List ℕ
of_one = hex "30820169 0201 01 300d 300b 0609 608648016503040201 30820153 3082014f 3082014b" ++ late_token

-- a chain of two time-stamps, of which the second is no token, and a chain of one
abbrev pub of_several : List ℕ
of_several = hex "308202b3 0201 01 3000 308202aa 30820153 3082014b" ++ early_token ++ hex "3002 3000"
    ++ hex "3082014f 3082014b" ++ late_token

-- the authority of the tokens is trusted, and a signer
abbrev pub authority : EntryValue
authority = trusted Tsa None None of_authority

abbrev pub signer : EntryValue
signer = trusted Signer None None of_signer

pub record QuestionRows : Type 0 where
  -- of one token; of several, in the order of the record
  pub one : AreQuestionsOfRecord (signer ∷ authority ∷ []) of_one (of_token ∷ [])
  pub several : AreQuestionsOfRecord (signer ∷ authority ∷ []) of_several (of_early_token ∷ of_token ∷ [])
  -- the authority is in the list twice
  pub repeated : AreQuestionsOfRecord (authority ∷ authority ∷ []) of_several
      (of_early_token ∷ of_early_token ∷ of_token ∷ of_token ∷ [])
  -- no authority is trusted, also where the certificate is a signer's
  pub no_authority : AreQuestionsOfRecord (signer ∷ trusted Signer None None of_authority ∷ []) of_one []
  -- what is no token has no question
  pub no_token : AreQuestionsOfRecord (authority ∷ []) (hex "300d 0201 01 3000 3006 3004 3002 3000") []
  -- a record whose data are encrypted has no list of questions, not even an empty one
  pub encrypted : (trust : List EntryValue) (qs : List Asked)
      → AreQuestionsOfRecord trust (hex "3014 0201 01 3000 a105 0603 883703 3006 3004 3002 3000") qs → ⊥

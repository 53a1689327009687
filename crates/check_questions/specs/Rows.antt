-- Worked rows: the questions of files, over octets that are written out, and their text.
use Rattle.std.specs.Prelude.{◌≡◌, ℕ, List, [], ◌∷◌, ◌++◌, None, codes}
use Rattle.der_grammar.specs.Vectors.{time_stamp_token, signed_file, stamped_file}
use Rattle.cms_types.specs.SignerValue.{SignerValue}
use Rattle.cms_types.specs.SignedDataValue.{SignedDataValue, EncodesSignedData}
use Rattle.trust_lists.specs.Entries.{EntryValue}
use Rattle.trust_lists.specs.declared.role.Role.TheVariants.{Signer, Tsa}
use Rattle.check_names.specs.NamingRows.{of_authority}
use Rattle.check_verdict.specs.Rows.{of_signer, file_signer, stamps, stamps_of, both_stamps, twice_stamped_file}
use Rattle.check_verdict.specs.Rows.{of_file, of_token, of_early_token, trusted}
use Rattle.check_questions.specs.FileQuestions.{OfToken, AreQuestions, AreQuestionsOf}
use Rattle.check_questions.specs.QuestionsText.{question_line, questions_text}

-- the signer of the file is trusted, and the authority of the tokens
abbrev pub signer : EntryValue
signer = trusted Signer None None of_signer

abbrev pub authority : EntryValue
authority = trusted Tsa None None of_authority

-- whole files
pub record FileRows : Type 0 where
  -- without a token; with one; with two, in their order
  pub unstamped : AreQuestionsOf (signer ∷ authority ∷ []) signed_file (of_file ∷ [])
  pub stamped : AreQuestionsOf (signer ∷ authority ∷ []) stamped_file (of_file ∷ of_token ∷ [])
  pub twice : AreQuestionsOf (signer ∷ authority ∷ []) twice_stamped_file (of_file ∷ of_early_token ∷ of_token ∷ [])
  -- the signer is in the list twice; the authority comes before the signer
  pub repeated : AreQuestionsOf (signer ∷ signer ∷ authority ∷ []) stamped_file (of_file ∷ of_file ∷ of_token ∷ [])
  pub authority_first : AreQuestionsOf (authority ∷ signer ∷ []) stamped_file (of_file ∷ of_token ∷ [])
  -- no authority is trusted; no signer is
  pub no_authority : AreQuestionsOf (signer ∷ []) stamped_file (of_file ∷ [])
  pub no_signer : AreQuestionsOf (authority ∷ []) stamped_file (of_token ∷ [])
  -- each has the other's role
  pub exchanged : AreQuestionsOf
      (trusted Tsa None None of_signer ∷ trusted Signer None None of_authority ∷ []) stamped_file []

-- a signer without signed attributes, with a token
abbrev pub without_attributes : SignerValue
without_attributes = record {
  version = 1 ∷ [];
  sid = (file_signer None).sid;
  digest_algorithm = (file_signer None).digest_algorithm;
  signed_attributes = None;
  signature_algorithm = (file_signer None).signature_algorithm;
  signature = codes "abc";
  unsigned_attributes = stamps;
}

-- signers
pub record SignerRows : Type 0 where
  -- without signed attributes there is no question, also none about the token
  pub unsigned : AreQuestions (signer ∷ authority ∷ []) (without_attributes ∷ []) []
  -- the tokens of each signer come before the next signer
  pub two : AreQuestions (signer ∷ authority ∷ []) (file_signer both_stamps ∷ file_signer stamps ∷ [])
      (of_file ∷ of_early_token ∷ of_token ∷ of_file ∷ of_token ∷ [])
  -- a value that should be a token and isn't one has no question; a token with two signers has none either
  pub no_token : AreQuestions (signer ∷ authority ∷ []) (file_signer (stamps_of ([] ∷ time_stamp_token ∷ [])) ∷ [])
      (of_file ∷ of_token ∷ [])
  pub two_signers : (trust : List EntryValue) (token : List ℕ) (v : SignedDataValue) (a b : SignerValue)
      → EncodesSignedData token v → v.signers ≡ a ∷ b ∷ [] → OfToken trust token []

-- the lines of two questions, in pieces
abbrev pub line_of_file : List ℕ
line_of_file = codes "300b3005060388370203020001 300b0609608648016503040201 30050603883701 "
    ++ codes "4b301806092a864886f70d010903310b06092a864886f70d010701302f06092a864886f70d01090431220420ba7816bf"
    ++ codes "8f01cfea414140de5dae2223b00361a396177a9cb410ff61f20015ad 616263"

abbrev pub line_of_token : List ℕ
line_of_token = codes "300b3005060388370203020002 300b0609608648016503040201 30050603883701 "
    ++ codes "8186301a06092a864886f70d010903310d060b2a864886f70d0109100104302f06092a864886f70d01090431220420cc"
    ++ codes "57e49e272c28d8f16dfb765790c5710f2a0ff18d9eb348f750caff6e690cd33037060b2a864886f70d010910022f3128"
    ++ codes "3026302430220420b5bda2dd49f9ac5c960f22fe79a6cbef1d5b7e0e88c7890e416bb657f4dbb8e1 747361"

-- texts
pub record TextRows : Type 0 where
  pub no_question : questions_text [] ≡ codes "cmsproof questions 1" ++ 10 ∷ []
  pub two : questions_text (of_file ∷ of_token ∷ [])
      ≡ codes "cmsproof questions 1" ++ 10 ∷ line_of_file ++ 10 ∷ line_of_token ++ 10 ∷ []
  -- a field without octets
  pub empty : question_line (record {
    key = 0 ∷ [];
    digest_alg = [];
    signature_alg = [];
    tail = 255 ∷ 10 ∷ [];
    signature = [];
  }) ≡ codes "00 - - ff0a -" ++ 10 ∷ []

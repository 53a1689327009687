-- Questions of fields, one of which may be missing.
use Rattle.std.proofs.Common.{◌≡◌, ℕ, List, Option, Some, None, Result, Ok, Err, refl}
use Rattle.std.specs.Prelude.{◌&&◌, is_ok, is_some}
use Rattle.std.specs.Result.{result_ok}
use Rattle.hex.specs.declared.error.FromHexError.{FromHexError}
use Rattle.list_answers.specs.AnswersText.{asked_of_fields}

pub no_key : (b c d e : Option (List ℕ)) → asked_of_fields None b c d e ≡ None
no_key b c d e = refl

pub no_digest_alg : (a c d e : Option (List ℕ)) → asked_of_fields a None c d e ≡ None
no_digest_alg None c d e = refl
no_digest_alg (Some a) c d e = refl

pub no_signature_alg : (a b d e : Option (List ℕ)) → asked_of_fields a b None d e ≡ None
no_signature_alg None b d e = refl
no_signature_alg (Some a) None d e = refl
no_signature_alg (Some a) (Some b) d e = refl

pub no_tail : (a b c e : Option (List ℕ)) → asked_of_fields a b c None e ≡ None
no_tail None b c e = refl
no_tail (Some a) None c e = refl
no_tail (Some a) (Some b) None e = refl
no_tail (Some a) (Some b) (Some c) e = refl

pub no_signature : (a b c d : Option (List ℕ)) → asked_of_fields a b c d None ≡ None
no_signature None b c d = refl
no_signature (Some a) None c d = refl
no_signature (Some a) (Some b) None d = refl
no_signature (Some a) (Some b) (Some c) None = refl
no_signature (Some a) (Some b) (Some c) (Some d) = refl

pub ruleset missing_field = (no_key, no_digest_alg, no_signature_alg, no_tail, no_signature)

-- five fields state a question where each is pairs of digits
pub all_pairs : (a b c d e : Result (List ℕ) FromHexError)
    → is_some (asked_of_fields (result_ok a) (result_ok b) (result_ok c) (result_ok d) (result_ok e))
    ≡ (is_ok a && (is_ok b && (is_ok c && (is_ok d && is_ok e))))
all_pairs (Err f) b c d e = refl
all_pairs (Ok a) (Err f) c d e = refl
all_pairs (Ok a) (Ok b) (Err f) d e = refl
all_pairs (Ok a) (Ok b) (Ok c) (Err f) e = refl
all_pairs (Ok a) (Ok b) (Ok c) (Ok d) (Err f) = refl
all_pairs (Ok a) (Ok b) (Ok c) (Ok d) (Ok e) = refl

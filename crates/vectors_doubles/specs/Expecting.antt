-- What a verifier that expects questions goes by.
use Rattle.std.specs.Prelude.{◌≡◌, Bool, true}
use Rattle.list_answers.specs.Asking.{Asked}

-- all questions for which the test is true are expected
abbrev pub AreExpected : (test expected : Asked → Bool) → Type 0
AreExpected test expected = (q : Asked) → test q ≡ true → expected q ≡ true

-- What holds of the questions of files and of tokens.
use Rattle.std.specs.Prelude.{◌≡◌, ◌↔◌, ℕ, List, Contains}
use Rattle.der_core.specs.Element.{IsBytes}
use Rattle.cms_types.specs.SignedDataValue.{SignedDataValue, EncodesSignedData}
use Rattle.trust_lists.specs.Entries.{EntryValue}
use Rattle.trust_lists.specs.Asking.{Asked}
use Rattle.check_verdict.specs.Questions.{IsAboutToken, IsQuestion}
use Rattle.check_questions.specs.FileQuestions.{AreQuestionsOf, AreQuestionsOfToken}

-- the members of the list are those questions on whose answers acceptance and refusal may depend
abbrev pub ListsHaveTheQuestions : Type 0
ListsHaveTheQuestions = (trust : List EntryValue) (file : List ℕ) (qs : List Asked) → AreQuestionsOf trust file qs
    → (q : Asked) → Contains qs q ↔ IsQuestion trust file q

-- each file, of octets, that encodes a SignedData has such a list
abbrev pub FilesHaveQuestions : Type 0
FilesHaveQuestions = (trust : List EntryValue) (file : List ℕ) (v : SignedDataValue) → IsBytes file
    → EncodesSignedData file v → (qs : List Asked) × AreQuestionsOf trust file qs

-- and only one
abbrev pub FilesHaveOneList : Type 0
FilesHaveOneList = (trust : List EntryValue) (file : List ℕ) (qs ps : List Asked) → AreQuestionsOf trust file qs
    → AreQuestionsOf trust file ps → qs ≡ ps

-- the members of a token's list are those questions on whose answers it may depend whether it passes or fails
abbrev pub TokensListTheQuestions : Type 0
TokensListTheQuestions = (trust : List EntryValue) (token : List ℕ) (qs : List Asked)
    → AreQuestionsOfToken trust token qs → (q : Asked) → Contains qs q ↔ IsAboutToken trust token q

-- each token, of octets, that encodes a SignedData has such a list
abbrev pub TokensHaveQuestions : Type 0
TokensHaveQuestions = (trust : List EntryValue) (token : List ℕ) (v : SignedDataValue) → IsBytes token
    → EncodesSignedData token v → (qs : List Asked) × AreQuestionsOfToken trust token qs

-- and only one
abbrev pub TokensHaveOneList : Type 0
TokensHaveOneList = (trust : List EntryValue) (token : List ℕ) (qs ps : List Asked)
    → AreQuestionsOfToken trust token qs → AreQuestionsOfToken trust token ps → qs ≡ ps

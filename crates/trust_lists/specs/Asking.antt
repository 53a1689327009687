-- What a verifier is asked, as `list_answers` defines it.
pub use Rattle.list_answers.specs.Asking.{Asked, is_same_question, is_among}

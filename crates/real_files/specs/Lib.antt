pub mod PartLines
pub mod AnswerLines
pub mod ReadLines

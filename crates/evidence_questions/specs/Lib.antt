pub mod RecordQuestions
pub mod RecordWritten
pub mod Laws
pub mod Rows

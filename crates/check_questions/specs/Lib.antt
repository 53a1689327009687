pub mod FileQuestions
pub mod QuestionsText
pub mod FaultTexts
pub mod Written
pub mod AskingSteps
pub mod Laws
pub mod Rows

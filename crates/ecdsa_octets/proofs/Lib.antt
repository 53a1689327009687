pub mod ValueReaders
pub mod NumberSteps
pub mod Verdicts

pub mod Forms
pub mod WordSteps

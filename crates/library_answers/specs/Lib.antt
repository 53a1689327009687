pub mod Failures
pub mod Numbers
pub mod Verdicts

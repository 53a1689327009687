pub mod Verdicts
pub mod Rows

pub mod VerdictLine
pub mod Rows

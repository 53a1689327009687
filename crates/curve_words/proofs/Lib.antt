pub mod Meaning
pub mod Montgomery

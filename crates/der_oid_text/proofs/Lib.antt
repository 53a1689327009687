pub mod DecimalTexts
pub mod Subidentifiers
pub mod Spelling
pub mod Refused

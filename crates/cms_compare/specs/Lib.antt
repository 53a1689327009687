pub mod Comparing
pub mod Laws
pub mod FaultTexts
pub mod Rows

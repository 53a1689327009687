pub mod Calendar
pub mod Moments
pub mod Spelling
pub mod TimeValue
pub mod TimeReading

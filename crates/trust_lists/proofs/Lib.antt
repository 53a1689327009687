pub mod Certificates
pub mod TrustAnswers
pub mod Rows
pub mod EntryLines
pub mod Visible
pub mod ReadBack
pub mod MarkedEntries
pub mod Marking

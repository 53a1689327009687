pub mod Days
pub mod Texts
pub mod Places
pub mod Moments
pub mod Stamps
pub mod Unique
pub mod Civil
pub mod TimeReaders

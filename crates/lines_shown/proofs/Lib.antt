pub mod Copied
pub mod Bits
pub mod Added
pub mod Values
pub mod ContentFound
pub mod StampLines

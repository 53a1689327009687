pub mod Sums
pub mod Pairs
pub mod ShortSteps
pub mod ShortHashers
pub mod LongSteps
pub mod LongHashers

mod Orders
mod Ascending
pub mod Joining
mod Sorted
mod Tests
mod Strides
mod Searching
mod Going
mod Marking
mod Climbing
mod OneDigest
mod Roots
mod Rows
pub mod States
pub mod Uses
pub mod Places
mod Judged

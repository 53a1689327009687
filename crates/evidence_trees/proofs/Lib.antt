mod Pieces
mod Orders
mod Rising
mod Once
pub mod Groups
mod Levels
mod Climbs
pub mod Ways
mod Trees
mod Uniqueness
pub mod Rows

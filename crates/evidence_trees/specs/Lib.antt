pub mod Pieces
pub mod Distinct
pub mod HashTrees
pub mod Climbing
pub mod Groups
pub mod Laws
pub mod Rows

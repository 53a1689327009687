pub mod Signatures
pub mod Curves
pub mod Rows

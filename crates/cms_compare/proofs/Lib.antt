pub mod Signed
pub mod Bound
pub mod Judged
pub mod Rows

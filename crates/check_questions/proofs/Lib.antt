pub mod Lines
pub mod Under
pub mod Passed
pub mod Lists
pub mod Members
pub mod Files
pub mod Returned
pub mod Rows

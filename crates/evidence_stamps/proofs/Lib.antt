pub mod Holding
pub mod Stated
pub mod Named
pub mod Entries
pub mod Unread
pub mod Fitted

pub mod Words
pub mod Groups
pub mod Several
pub mod Records
pub mod Meanings
pub mod Inputs

pub mod Zips
pub mod Standings
pub mod Trees
pub mod Puts
pub mod Renewals
pub mod Runs
pub mod Short

pub mod Keeping
pub mod Footings
pub mod Standing
pub mod Records
pub mod Runs
pub mod Renewing
pub mod Unrenewed
pub mod Steps

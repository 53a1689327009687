pub mod Lines
pub mod Standing
pub mod Footings
pub mod Rehashing
pub mod Unrehashed

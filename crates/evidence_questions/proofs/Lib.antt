pub mod Octets
pub mod Chains
pub mod Members
pub mod Returned
pub mod Alike
pub mod Verdicts
pub mod Checks
pub mod Rows

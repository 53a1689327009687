pub mod Keeping
pub mod Verdicts
pub mod StreamLaw
pub mod Devices
pub mod Promises
pub mod Passes

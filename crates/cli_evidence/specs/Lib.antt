pub mod Verdicts
pub mod Checking
pub mod Digesting
pub mod Questions
pub mod Stating
pub mod Tasks
pub mod Under
pub mod UnderVerdicts

pub mod Digested
pub mod Stating
pub mod Unopened
pub mod Checked
pub mod CheckedUnder
pub mod UnderLimits

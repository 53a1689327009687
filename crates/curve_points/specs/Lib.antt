pub mod Residues
pub mod Words
pub mod Points
pub mod JacobianSteps
pub mod Standing
pub mod Rows

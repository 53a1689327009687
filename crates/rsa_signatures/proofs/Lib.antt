pub mod Encoded
pub mod MaskSteps
pub mod SaltedSteps
pub mod SaltedOctets
pub mod Told
pub mod WorkedRows

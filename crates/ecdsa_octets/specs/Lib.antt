pub mod SignatureValue
pub mod SignatureReading
pub mod Fields
pub mod Octets

pub mod ExtensionValue
pub mod ExtensionReading
pub mod DistinctExtensions
pub mod CertificateValue
pub mod CertificateReading
pub mod CertificateFields
pub mod Purposes
pub mod Laws

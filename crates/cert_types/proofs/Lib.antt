pub mod ExtensionReaders
pub mod DistinctReader
pub mod DistinctSteps
pub mod CertificateReaders

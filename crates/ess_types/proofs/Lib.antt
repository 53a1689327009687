pub mod SigningCertificateReaders
pub mod SigningRows
pub mod Spelled

pub mod SigningCertificateValue
pub mod SigningCertificateReading
pub mod SigningFields
pub mod HashAlgorithms
pub mod Laws
pub mod SigningRows

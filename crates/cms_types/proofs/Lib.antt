pub mod AttributeReaders
pub mod SignerReaders
pub mod SignedDataReaders
pub mod FewerTokens
pub mod Entering
pub mod OnlyValue
pub mod OfType
pub mod DigestAlgorithm

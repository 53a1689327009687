pub mod Lines
pub mod RequestLines
pub mod CertificateLines
pub mod SignedLines
pub mod TstLines
pub mod ResponseLines
pub mod EvidenceLines

pub mod Pkcs1
pub mod Pss
pub mod SignatureRows

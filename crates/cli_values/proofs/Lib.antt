pub mod Held
pub mod Nonces

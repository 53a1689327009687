pub mod Table
pub mod TooLarge
pub mod Vectors
pub mod Laws

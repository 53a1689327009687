pub mod Naming
pub mod NamingRows

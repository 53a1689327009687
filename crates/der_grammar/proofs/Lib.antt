pub mod Clearness

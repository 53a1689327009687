pub mod HashNames
pub mod NamingLaw
pub mod NamingRows
pub mod Deciding

pub mod Items
pub mod Checked
pub mod Ranks
pub mod Shorter
pub mod Numbers

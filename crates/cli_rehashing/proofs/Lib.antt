pub mod Walks
pub mod Stated
pub mod Named
pub mod Lines
pub mod Anew
pub mod Puts
pub mod Runs

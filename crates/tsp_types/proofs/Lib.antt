pub mod RequestReaders
pub mod LengthsMade
pub mod RequestMade
pub mod TstReaders
pub mod ResponseReaders
pub mod StampRows

pub mod Whole
pub mod Messages
pub mod Taking
pub mod Stamps
pub mod StatedEnds

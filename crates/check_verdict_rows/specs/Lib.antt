pub mod RefusalRows
pub mod SeveralSigners
pub mod NamedSigners
pub mod Fractions
pub mod OtherEntries
pub mod LongSources

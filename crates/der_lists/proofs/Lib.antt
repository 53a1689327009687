pub mod Items
pub mod CheckedSteps
pub mod CheckedLists
pub mod OpaqueLists
pub mod OrderedLists
pub mod OpaqueReader

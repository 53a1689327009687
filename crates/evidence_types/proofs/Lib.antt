pub mod FilledLists
pub mod AttributeParts
pub mod StampReaders
pub mod EvidenceReaders
pub mod Clearness
pub mod Rows

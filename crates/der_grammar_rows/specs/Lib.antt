pub mod SizeRows
pub mod FaultRows
pub mod PartRows
pub mod EncodingRows
pub mod NoEncodingRows
pub mod OpenRows
pub mod NoFaultRows

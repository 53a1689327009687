pub mod Numbers
pub mod Montgomery
pub mod RowParts
pub mod Exponents
pub mod NumberRows

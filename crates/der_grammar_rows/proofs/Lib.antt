pub mod Rows
pub mod RowsRefuted

pub mod Listed
pub mod OperationRows
pub mod ToldLengths

pub mod Pick
pub mod Bools
pub mod Scan
pub mod Lists
pub mod Rows
pub mod Strides
pub mod Claims
pub mod Words

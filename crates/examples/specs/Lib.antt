pub mod Assemble
pub mod Table

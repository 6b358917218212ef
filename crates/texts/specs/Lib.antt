pub mod Reading
pub mod Faults
pub mod Answers
pub mod Ends
pub mod Names

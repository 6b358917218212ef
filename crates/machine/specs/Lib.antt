pub mod CallableLaws
pub mod Filling
pub mod Turns
pub mod Onward
pub mod Outcomes

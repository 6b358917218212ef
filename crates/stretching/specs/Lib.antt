pub mod Fields
pub mod Quick
pub mod Stretch
pub mod Forwarding

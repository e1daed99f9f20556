pub mod Turns
pub mod Behind
pub mod Keeping

pub mod Following
pub mod Kept
pub mod Since
pub mod Untold
pub mod Clearing

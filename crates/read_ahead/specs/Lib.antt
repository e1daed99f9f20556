pub mod Counts
pub mod Messages
pub mod Shares
pub mod Sources
pub mod Times

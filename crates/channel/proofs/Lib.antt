pub mod Behind
pub mod Olders
pub mod Opened
pub mod Looks
pub mod Rolls
pub mod Unread
pub mod Whole
pub mod Scarce

pub mod Unpacking
pub mod Heads
pub mod Texts
pub mod Listed
pub mod Checks

pub mod Removing
pub mod Retaining
pub mod Since

pub mod Dues
pub mod Leaving
pub mod AtOnce
pub mod Answering
pub mod Stepping

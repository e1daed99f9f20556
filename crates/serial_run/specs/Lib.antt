pub mod Answers
pub mod Dues
pub mod Leaving
pub mod OneThread

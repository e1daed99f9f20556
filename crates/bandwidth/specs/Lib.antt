pub mod Runs
pub mod Peaks
pub mod Pushed
pub mod Steps
pub mod Gaps
pub mod State

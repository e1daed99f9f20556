pub mod Counts
pub mod Histories
pub mod Refusals
pub mod Snapshots
pub mod State

pub mod Views
pub mod Faults
pub mod GoingOn
pub mod Rolling
pub mod Looking
pub mod Reading
pub mod Resuming
pub mod Seen

pub mod Wanting
pub mod Restoring
pub mod Picking
pub mod Picked
pub mod Starts
pub mod Reading
pub mod Evening

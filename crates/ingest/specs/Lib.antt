pub mod Streams
pub mod Inputs
pub mod Lanes
pub mod State
pub mod Sealable
pub mod Output

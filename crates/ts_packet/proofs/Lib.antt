pub mod Front
pub mod Decided
pub mod Positions
pub mod Scanning
pub mod Feeding
pub mod Ahead

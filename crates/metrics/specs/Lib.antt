pub mod Format
pub mod Glances
pub mod Metrics
pub mod Samples
pub mod Seens
pub mod Told

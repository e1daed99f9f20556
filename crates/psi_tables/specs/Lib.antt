pub mod Crc
pub mod Section
pub mod Association
pub mod ProgramMap
pub mod Sections
pub mod InForce
pub mod Head
pub mod State

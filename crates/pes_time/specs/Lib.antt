pub mod Pes
pub mod Times
pub mod State

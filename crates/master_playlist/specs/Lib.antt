pub mod Listed
pub mod MasterLines
pub mod Faults
pub mod State

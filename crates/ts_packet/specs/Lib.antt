pub mod Bits
pub mod Fields
pub mod Packets
pub mod State

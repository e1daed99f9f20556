pub mod Openings
pub mod Payloads
pub mod TheHead
pub mod Growing
pub mod Unpacked
pub mod Counted
pub mod Bodies
pub mod Wanting

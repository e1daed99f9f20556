pub mod Keepings
pub mod OneByOne
pub mod InPlace
pub mod Turns
pub mod Holding
pub mod State
pub mod Clearing

pub mod Telling
pub mod Listing
pub mod Removing
pub mod Sizes
pub mod OneMore
pub mod Stopping
pub mod Wanting

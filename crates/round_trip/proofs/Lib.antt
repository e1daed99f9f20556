pub mod Places
pub mod Earlier
pub mod Listing
pub mod Returning

pub mod Beginning
pub mod Filling
pub mod Lists
pub mod Rows
pub mod NewSources
pub mod Streams
pub mod Telling
pub mod Turns

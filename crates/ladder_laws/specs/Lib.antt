pub mod Seen
pub mod Openings
pub mod Listings
pub mod Playlists
pub mod Playable
pub mod Resuming

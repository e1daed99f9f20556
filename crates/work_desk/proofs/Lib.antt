pub mod Planning
pub mod Pushing
pub mod Permitting
pub mod Shelving

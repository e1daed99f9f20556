pub mod Batches
pub mod Permits
pub mod Readiness
pub mod Shelves
pub mod Waiting
pub mod Works

pub mod Escapes
pub mod Joins
pub mod TextLines
pub mod Appending
pub mod SixteenBytes
pub mod SaltedVectors

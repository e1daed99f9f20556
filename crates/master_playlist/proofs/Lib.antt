pub mod Texts
pub mod Standing

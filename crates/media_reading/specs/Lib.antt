pub mod MediaTexts
pub mod State
